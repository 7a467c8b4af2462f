-- The cycles of ETRACK, and the processors that each of them waits for. (SDM volume 3D, ETRACK.)
use Rattle.std.specs.Prelude.{ℕ, ◌+◌, Bool, true, false, ◌&&◌, not, List, [], ◌∷◌, length, map, filter, Option, Some, None, nat_lt, ◌==◌}
use Rattle.std.specs.List.{list_any}
use Rattle.ak_core.specs.Layout.{Layout}
use Rattle.ak_model.specs.Paging.Histories.{History, Change, change_of, Cycles, Exits, Interrupts}
use Rattle.ak_model.specs.Paging.Frames.{blocked_at}
use Rattle.ak_model.specs.Paging.Inside.{inside, processors}

-- an ETRACK that was answered Ok: its place, and the processors that were inside before it and have not left since
pub record Cycle : Type 0 where
  pub at : ℕ
  pub waiting : List ℕ

-- a cycle waits no more for a processor that left
abbrev pub without : ℕ → Cycle → Cycle
without lp cycle = record cycle { waiting = filter (λ q. not (q == lp)) cycle.waiting }

-- the cycles after one more change
abbrev pub cycles_after : Layout → History → Change → List Cycle → List Cycle
cycles_after layout past Cycles before =
    record { at = length past + 1; waiting = filter (inside past) (processors layout) } ∷ before
cycles_after layout past (Exits lp exit) before = map (without lp) before
cycles_after layout past (Interrupts lp) before = map (without lp) before
cycles_after layout past _ before = before

-- the cycles, newest first
abbrev pub cycles : Layout → History → List Cycle
cycles layout [] = []
cycles layout (pair ∷ past) = cycles_after layout past (change_of pair) (cycles layout past)

-- a cycle that waits for nobody
abbrev pub is_over : Cycle → Bool
is_over cycle = length cycle.waiting == 0

-- a cycle that began after this place is over
abbrev pub over_after : Option ℕ → List Cycle → Bool
over_after None all = false
over_after (Some place) all = list_any (λ cycle. nat_lt place cycle.at && is_over cycle) all

-- a cycle that began after the frame was blocked is over
abbrev pub tracked : Layout → History → ℕ → Bool
tracked layout past f = over_after (blocked_at past f) (cycles layout past)

-- the newest cycle is over
abbrev pub last_is_over : List Cycle → Bool
last_is_over [] = true
last_is_over (cycle ∷ older) = is_over cycle

-- the last cycle waits for a processor
abbrev pub incomplete : Layout → History → Bool
incomplete layout past = not (last_is_over (cycles layout past))
