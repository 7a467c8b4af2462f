use Rattle.ak_relation.proofs.Leaves.DoneMoves.{etrack_moves, eblock_moves}
use Rattle.ak_relation.proofs.Leaves.RemoveMoves.{remove_moves}
use Rattle.ak_relation.proofs.Leaves.DiscardMoves.{discard_moves}
use Rattle.ak_relation.proofs.laws.leaves.table_moves.Goals as goal

pub returns : goal.returns
returns c = record {
  cycle = etrack_moves;
  block = eblock_moves;
  removal = remove_moves;
  discard = discard_moves;
}
