use Rattle.ak_model.proofs.Tapes.CallTraces.{trace_serves}
use Rattle.ak_model.proofs.laws.tapes.outputs_are_shown.Goals as goal

pub returns : goal.returns
returns c layout tape moves valid misses = (trace_serves layout valid tape misses moves).are
