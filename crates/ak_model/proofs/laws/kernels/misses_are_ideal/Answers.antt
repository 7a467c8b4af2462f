use Rattle.ak_model.proofs.Misses.IdealMisses.{misses-ideal}
use Rattle.ak_model.proofs.laws.kernels.misses_are_ideal.Goals as goal

pub returns : goal.returns
returns c = misses-ideal
