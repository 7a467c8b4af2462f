use Rattle.ak_relation.proofs.Runs.ToldMoves.{move_faults, other_move}
use Rattle.ak_relation.proofs.laws.notes.move_notes.Goals as goal

pub returns : goal.returns
returns c = record {
  faults = λ layout old new m a event t outcome tells image past control turns h. move_faults layout image past control turns old new event t outcome h m a tells;
  others = other_move;
}
