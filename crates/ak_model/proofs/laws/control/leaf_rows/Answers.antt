use Rattle.ak_model.proofs.Control.LeafRows.{answer-leaf, leaf_row-same}
use Rattle.ak_model.proofs.laws.control.leaf_rows.Goals as goal

pub returns : goal.returns
returns c = record {
  defined = answer-leaf;
  alike = leaf_row-same;
}
