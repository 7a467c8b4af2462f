use Rattle.ak_driver.proofs.Driving.AllRuns.{all_done, never_stops}
use Rattle.ak_driver.proofs.Driving.RunEnds.{ends_by_result}
use Rattle.ak_driver.proofs.laws.moves_are_done.Goals as goal

pub returns : goal.returns
returns c = record {
  done = λ layout tape inputs moves run. all_done layout run.valid run.roomy tape run.misses run.unbroken inputs moves run.driven;
  ends = λ layout tape inputs moves run none. ends_by_result layout run.valid run.roomy tape run.misses run.unbroken inputs moves run.driven none;
  unstopped = λ layout tape inputs moves run. never_stops layout run.valid run.roomy tape run.misses run.unbroken inputs moves run.driven;
}
