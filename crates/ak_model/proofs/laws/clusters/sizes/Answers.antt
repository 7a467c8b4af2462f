use Rattle.ak_model.proofs.Clusters.SizesAddUp.{size_is, sizes_sum}
use Rattle.ak_model.proofs.laws.clusters.sizes.Goals as goal

pub returns : goal.returns
returns c = record { each = size_is; all = sizes_sum }
