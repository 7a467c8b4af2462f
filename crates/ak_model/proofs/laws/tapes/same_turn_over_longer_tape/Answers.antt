use Rattle.ak_model.proofs.Tapes.LongerRuns.{turn-longer, run-longer}
use Rattle.ak_model.proofs.laws.tapes.same_turn_over_longer_tape.Goals as goal

pub returns : goal.returns
returns c = record {
  turn = turn-longer;
  run = run-longer;
}
