use Rattle.std.proofs.Common.{◌≡◌, ◌<◌, ◌≤◌, ◌+◌, ◌*◌, ℕ, length}
use Rattle.std.specs.Prelude.{All, slice_index}
use Rattle.ak_model.specs.Flat.Instructions.{number_at}
use Rattle.ak_model.specs.Laws.Orderly.{IsDistinct}
use Rattle.ak_pager_tests.proofs.fields.queue_in.Given as goal

abbrev pub invariant-loop-i : goal.invariant-loop-i
invariant-loop-i l = record {
  size : l.count ≡ number_at l.state 24 8;
  small : l.count ≤ 512;
  count : length l.queue.items ≡ l.i;
  clusters : (k : ℕ) → k < length l.queue.items → slice_index l.queue.items k ≡ number_at l.state (1024 + 2 * k) 2;
  distinct : IsDistinct l.queue.items;
  known : All (λ c. c < l.layout.clusters) l.queue.items;
}
