use Rattle.ak_relation.proofs.Leaves.LeafDoes.{does_moves}
use Rattle.ak_relation.proofs.laws.leaves.leaf_does.Goals as goal

pub returns : goal.returns
returns c = does_moves
