use Rattle.ak_model.proofs.Tapes.TurnCounts.{counts-each}
use Rattle.ak_model.proofs.laws.tapes.turns_count.Goals as goal

pub returns : goal.returns
returns c = counts-each
