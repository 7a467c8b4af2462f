use Rattle.ak_relation.proofs.Leaves.ViewStands.{view-same, answer-view}
use Rattle.ak_relation.proofs.laws.leaves.leaf_rows.Goals as goal

pub returns : goal.returns
returns c = record {
  same = view-same;
  machine = answer-view;
}
