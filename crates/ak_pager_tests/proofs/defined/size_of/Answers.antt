use Rattle.std.proofs.Common.{◌∙◌}
use Rattle.ak_model.proofs.Clusters.SizesAddUp.{size_is}
use Rattle.ak_pager_tests.proofs.defined.size_of.Goals as goal

pub returns : goal.returns
returns c = c.count_of.ensures ∙ size_is c.args.layout.now c.args.c c.base-valid.ensures.valid
