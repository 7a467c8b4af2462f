use Rattle.ak_model.proofs.Stops.ShownStops.{stop-has_cause}
use Rattle.ak_model.proofs.laws.stops.stop_has_cause.Goals as goal

pub returns : goal.returns
returns c = λ layout tape moves valid misses h. stop-has_cause layout valid tape misses moves h
