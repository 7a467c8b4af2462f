-- The queue of the clusters that are in, in the bytes of STATE: its length in 8 bytes at 24, and from 1024 to 2047 each cluster in
-- 2 bytes, the next to leave first. (The runtime and its STATE page are this project's own.)
use Rattle.std.specs.Prelude.{◌≡◌, ℕ, ◌+◌, ◌*◌, ◌<◌, List, take, drop, length, slice_get, flat_map, All, Some}
use Rattle.ak_core.specs.Mem.{put_at}
use Rattle.ak_model.specs.Flat.Instructions.{le_bytes, number_at}
use Rattle.ak_model.specs.Laws.Orderly.{IsDistinct}

-- what any queue is: different clusters, each below 512
pub record IsQueue (queue : List ℕ) : Type 0 where
  pub distinct : IsDistinct queue
  pub known : All (λ c. c < 512) queue

-- the bytes say this queue
pub record HasQueue (bytes queue : List ℕ) : Type 0 where
  pub size : number_at bytes 24 8 ≡ length queue
  pub clusters : (i c : ℕ) → slice_get queue i ≡ Some c → number_at bytes (1024 + 2 * i) 2 ≡ c

-- the bytes say some queue
abbrev pub HasSomeQueue : List ℕ → Type 0
HasSomeQueue bytes = (queue : List ℕ) × HasQueue bytes queue × IsQueue queue

-- these bytes with this queue: its length and its clusters in place of what stood there
abbrev pub with_queue : List ℕ → List ℕ → List ℕ
with_queue bytes queue = put_at (put_at bytes 24 (le_bytes 8 (length queue))) 1024 (flat_map (le_bytes 2) queue)

-- the bytes that are no part of a queue stay
pub record KeepsOthers (old new : List ℕ) : Type 0 where
  pub before : take 24 new ≡ take 24 old
  pub between : take 992 (drop 32 new) ≡ take 992 (drop 32 old)
  pub after : drop 2048 new ≡ drop 2048 old
