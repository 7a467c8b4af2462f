use Rattle.ak_model.proofs.Tapes.CutTraces.{trace-append}
use Rattle.ak_model.proofs.laws.tapes.same_over_longer_tape.Goals as goal

pub returns : goal.returns
returns c layout tape more moves h = trace-append layout more tape moves h
