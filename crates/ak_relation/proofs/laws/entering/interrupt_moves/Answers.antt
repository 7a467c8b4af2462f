use Rattle.ak_relation.proofs.Exits.InterruptMoves.{interrupt_moves as moves}
use Rattle.ak_relation.proofs.laws.entering.interrupt_moves.Goals as goal

pub returns : goal.returns
returns c = moves
