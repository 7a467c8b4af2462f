-- The steps that tracking looks at: enterings, leavings and cycles; and what they tell, by how many logical processors there are.
-- (SDM volume 3D, ETRACK.)
use Rattle.std.specs.Prelude.{ℕ, ◌+◌, Bool, true, false, not, List, [], ◌∷◌, length, map, filter, Option, ◌==◌, if◌then◌else◌}
use Rattle.std.specs.List.{range_with_len}
use Rattle.ak_model.specs.Paging.Tracking.{Cycle, without, over_after, last_is_over}

-- a processor enters or leaves, or a cycle begins
pub data TrackStep : Type 0 where
  EntersBy : (lp : ℕ) → TrackStep
  LeavesBy : (lp : ℕ) → TrackStep
  Cycled : TrackStep

-- a processor is inside after one more step
abbrev pub inside_after : TrackStep → ℕ → Bool → Bool
inside_after (EntersBy q) lp before = if lp == q then true else before
inside_after (LeavesBy q) lp before = if lp == q then false else before
inside_after Cycled lp before = before

-- a processor is inside
abbrev pub inside_by : List TrackStep → ℕ → Bool
inside_by [] lp = false
inside_by (step ∷ steps) lp = inside_after step lp (inside_by steps lp)

-- the cycles after one more step
abbrev pub cycles_by_step : ℕ → List TrackStep → TrackStep → List Cycle → List Cycle
cycles_by_step lps steps Cycled before =
    record { at = length steps + 1; waiting = filter (inside_by steps) (range_with_len 0 lps) } ∷ before
cycles_by_step lps steps (LeavesBy q) before = map (without q) before
cycles_by_step lps steps (EntersBy q) before = before

-- the cycles, each at the number of its step, the newest first
abbrev pub cycles_by : ℕ → List TrackStep → List Cycle
cycles_by lps [] = []
cycles_by lps (step ∷ steps) = cycles_by_step lps steps step (cycles_by lps steps)

-- a cycle that began after the stamp is over
abbrev pub tracked_by : ℕ → List TrackStep → Option ℕ → Bool
tracked_by lps steps stamp = over_after stamp (cycles_by lps steps)

-- the last cycle waits for a processor
abbrev pub incomplete_by : ℕ → List TrackStep → Bool
incomplete_by lps steps = not (last_is_over (cycles_by lps steps))
