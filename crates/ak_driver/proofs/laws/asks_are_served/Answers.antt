use Rattle.ak_driver.proofs.Driving.Pace.{paced as within, ready as says_ready}
use Rattle.ak_driver.proofs.laws.asks_are_served.Goals as goal

pub returns : goal.returns
returns c = record {
  paced = λ layout tape inputs before since ask d x run asked.
      within layout run.valid run.roomy tape run.misses run.unbroken inputs before ask d x asked.asked since run.driven asked.without_run;
  ready = λ layout tape inputs before since ask m d x run asked runs.
      says_ready layout run.valid run.roomy tape run.misses run.unbroken inputs before ask d x asked.asked m since run.driven asked.without_run runs;
}
