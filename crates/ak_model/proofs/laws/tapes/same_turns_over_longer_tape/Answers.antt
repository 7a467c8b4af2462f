use Rattle.ak_model.proofs.Tapes.CutTurns.{turns-append}
use Rattle.ak_model.proofs.laws.tapes.same_turns_over_longer_tape.Goals as goal

pub returns : goal.returns
returns c layout tape more moves h = turns-append layout more tape moves h
