use Rattle.ak_model.proofs.Kernels.NoStop.{no_stop}
use Rattle.ak_model.proofs.laws.kernels.no_stop.Goals as goal

pub returns : goal.returns
returns c = no_stop
