use Rattle.ak_model.proofs.Stops.ToldFaultTrace.{trace_stands}
use Rattle.ak_model.proofs.laws.stops.last_fault.Goals as goal

pub returns : goal.returns
returns c = trace_stands
