use Rattle.ak_model.proofs.Kernels.NoForcedBreak.{not-broken}
use Rattle.ak_model.proofs.laws.kernels.no_break.Goals as goal

pub returns : goal.returns
returns c = not-broken
