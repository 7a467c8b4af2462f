use Rattle.ak_model.proofs.Kernels.NoForcedBreak.{in-walkable}
use Rattle.ak_model.proofs.laws.kernels.in_is_walkable.Goals as goal

pub returns : goal.returns
returns c = in-walkable
