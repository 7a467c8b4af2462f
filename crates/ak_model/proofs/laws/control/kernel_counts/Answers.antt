use Rattle.ak_model.proofs.Control.OneInsideTrace.{counts_right}
use Rattle.ak_model.proofs.laws.control.kernel_counts.Goals as goal

pub returns : goal.returns
returns c = counts_right
