use Rattle.ak_model.proofs.Paging.WaitingCycles.{cycles-wait}
use Rattle.ak_model.proofs.laws.paging.cycles_wait.Goals as goal

pub returns : goal.returns
returns c = cycles-wait
