use Rattle.ak_relation.proofs.Leaves.WriteOutMoves.{ewb_moves}
use Rattle.ak_relation.proofs.Leaves.LoadMoves.{eldu_moves}
use Rattle.ak_relation.proofs.Leaves.BlockedLoads.{eldb_moves}
use Rattle.ak_relation.proofs.Leaves.MakeMoves.{make_moves}
use Rattle.ak_relation.proofs.laws.leaves.page_moves.Goals as goal

pub returns : goal.returns
returns c = record {
  write_out = ewb_moves;
  load = eldu_moves;
  blocked_load = eldb_moves;
  va_page = make_moves;
}
