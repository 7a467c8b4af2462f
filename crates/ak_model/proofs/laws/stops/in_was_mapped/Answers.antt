use Rattle.ak_model.proofs.Stops.InWasMapped.{trace_ever}
use Rattle.ak_model.proofs.laws.stops.in_was_mapped.Goals as goal

pub returns : goal.returns
returns c = λ layout tape moves valid misses p low h. (trace_ever layout valid tape misses moves).queue p low h
