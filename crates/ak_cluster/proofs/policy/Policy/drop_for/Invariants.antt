use Rattle.std.proofs.Common.{◌≡◌, ◌+◌, drop, length}
use Rattle.ak_cluster.proofs.policy.Policy.drop_for.Given as goal

abbrev pub invariant-loop-dropped : goal.invariant-loop-dropped
invariant-loop-dropped l = record {
  left : l.self-inside.queue.items ≡ drop l._dropped l.fn.self;
  count : length l.self-inside.queue.items + l._dropped ≡ length l.fn.self;
}
