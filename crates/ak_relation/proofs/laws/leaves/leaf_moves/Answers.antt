use Rattle.ak_relation.proofs.Leaves.LeafMoves.{leaf_moves as moves, leaf_refused}
use Rattle.ak_relation.proofs.laws.leaves.leaf_moves.Goals as goal

pub returns : goal.returns
returns c = record {
  done = moves;
  refused = leaf_refused;
}
