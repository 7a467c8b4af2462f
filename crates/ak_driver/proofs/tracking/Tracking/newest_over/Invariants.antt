use Rattle.std.proofs.Common.{◌≡◌, drop}
use Rattle.ak_driver.specs.NotedCycles.{newest_over}
use Rattle.ak_driver.proofs.tracking.Tracking.newest_over.Given as goal

abbrev pub invariant-loop-entered : goal.invariant-loop-entered
invariant-loop-entered l = newest_over (drop l.entered-index l.self.entered) l.newest ≡ newest_over l.self.entered l.self.newest
