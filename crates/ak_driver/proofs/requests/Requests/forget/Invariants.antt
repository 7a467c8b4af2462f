use Rattle.std.proofs.Common.{◌≡◌, ◌+◌, drop, length}
use Rattle.ak_driver.proofs.requests.Requests.forget.Given as goal

abbrev pub invariant-loop-forgotten : goal.invariant-loop-forgotten
invariant-loop-forgotten l = record {
  left : l.self.clusters.items ≡ drop l._forgotten l.fn.self.clusters.items;
  size : length l.self.clusters.items + l._forgotten ≡ length l.fn.self.clusters.items;
  asked : l.self.asked ≡ l.fn.self.asked;
  dropped : l.self.dropped ≡ l.fn.self.dropped;
}
