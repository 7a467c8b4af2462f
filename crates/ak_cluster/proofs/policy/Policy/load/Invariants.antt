use Rattle.std.proofs.Common.{◌≡◌, ◌<◌, ◌≤◌, ◌+◌, ◌*◌, ℕ, length}
use Rattle.std.specs.Prelude.{slice_index}
use Rattle.ak_model.specs.Flat.Instructions.{number_at}
use Rattle.ak_cluster.proofs.policy.Policy.load.Given as goal

abbrev pub invariant-loop-i : goal.invariant-loop-i
invariant-loop-i l = record {
  size : l.count ≡ number_at l.state 24 8;
  small : l.count ≤ 512;
  count : length l.queue.items ≡ l.i;
  clusters : (k : ℕ) → k < length l.queue.items → slice_index l.queue.items k ≡ number_at l.state (1024 + 2 * k) 2;
}
