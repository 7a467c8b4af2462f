use Rattle.ak_relation.proofs.Runs.KeptJournals.{built_journal, one_more_move}
use Rattle.ak_relation.proofs.laws.journals.moves_keep_journals.Goals as goal

pub returns : goal.returns
returns c = record { built = built_journal; moves = one_more_move }
