use Rattle.ak_relation.proofs.Runs.TracedMoves.{moves_are_traced}
use Rattle.ak_relation.proofs.Runs.SoundJournals.{sound}
use Rattle.ak_relation.proofs.Runs.TracedStops.{is_stopped}
use Rattle.ak_relation.proofs.laws.journals.journals_are_stopped.Goals as goal

pub returns : goal.returns
returns c = record {
  stop = λ layout image past state journal k. is_stopped layout image past state journal k.has k.keeps;
  all = λ layout image past state journal k names.
      sound layout image past state journal k.has (moves_are_traced layout image past state journal.events k.has.moved) names
      (is_stopped layout image past state journal k.has k.keeps);
}
