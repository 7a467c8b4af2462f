use Rattle.ak_driver.proofs.Keeping.HonestJournals.{unbroken as never_breaks, honest_run, unstopped as never_stops, ideal as are_ideal, all_answered, ends_at_the_end}
use Rattle.ak_driver.proofs.laws.honest_journals_never_stop.Goals as goal

pub returns : goal.returns
returns c = record {
  unbroken = never_breaks;
  run = honest_run;
  unstopped = never_stops;
  ideal = are_ideal;
  done = all_answered;
  ends = ends_at_the_end;
}
