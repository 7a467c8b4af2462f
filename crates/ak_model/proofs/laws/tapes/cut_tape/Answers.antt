use Rattle.std.proofs.Common.{ap}
use Rattle.ak_model.proofs.Tapes.CutTraces.{trace-cut}
use Rattle.ak_model.proofs.laws.tapes.cut_tape.Goals as goal

pub returns : goal.returns
returns c layout tape moves k h = ap (λ moment. moment.past) (trace-cut layout k tape moves h)
