use Rattle.ak_model.proofs.Paging.EtracksAndCycles.{is-tracked, is-incomplete, has-cycle}
use Rattle.ak_model.proofs.laws.paging.tracked_since.Goals as goal

pub returns : goal.returns
returns c = record { tracked = is-tracked; incomplete = is-incomplete; cycle = has-cycle }
