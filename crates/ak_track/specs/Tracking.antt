-- For which steps the code's tracking stands, and at which place a stamp was given. (SDM volume 3D, ETRACK.)
use Rattle.std.specs.Prelude.{◌≡◌, ℕ, ◌≤◌, Bool, true, false, ◌&&◌, List, [], ◌∷◌, length, filter, nat_lt, nat_le, slice_index_or}
use Rattle.std.specs.List.{range_with_len, list_all}
use Rattle.ak_model.specs.Paging.Tracking.{Cycle, is_over}
use Rattle.ak_track.specs.Steps.{TrackStep, inside_by, cycles_by}
use Rattle.ak_track.specs.declared.track.Stamp.{Stamp}

-- what tracking keeps: how many processors there are, which of them are inside, for which the newest cycle waits, and the number of cycles
pub record Marks : Type 0 where
  pub lps : ℕ
  pub inside : List Bool
  pub waiting : List Bool
  pub cycles : ℕ

-- whether a processor is marked
abbrev pub is_marked : List Bool → ℕ → Bool
is_marked marks lp = slice_index_or marks lp false

-- the newest cycle waits for the marked processors, and each older one for nobody
abbrev pub WaitsForMarked : ℕ → List Bool → List Cycle → Type 0
WaitsForMarked lps marks [] = (lp : ℕ) → is_marked marks lp ≡ false
WaitsForMarked lps marks (cycle ∷ older) =
    (cycle.waiting ≡ filter (is_marked marks) (range_with_len 0 lps)) × (list_all is_over older ≡ true)

-- the marks stand for these steps of so many processors, the newest first
pub record HoldsSteps (track : Marks) (lps : ℕ) (steps : List TrackStep) : Type 0 where
  pub lps_are : track.lps ≡ lps
  pub inside : (lp : ℕ) → is_marked track.inside lp ≡ (nat_lt lp lps && inside_by steps lp)
  pub waiting : WaitsForMarked lps track.waiting (cycles_by lps steps)
  pub none_beyond : (lp : ℕ) → lps ≤ lp → is_marked track.waiting lp ≡ false
  pub count : length (cycles_by lps steps) ≡ track.cycles

-- the stamp is that of this place: it counts the cycles up to there
pub record StampOf (stamp : Stamp) (lps : ℕ) (steps : List TrackStep) (place : ℕ) : Type 0 where
  pub within : place ≤ length steps
  pub count : length (filter (λ cycle. nat_le cycle.at place) (cycles_by lps steps)) ≡ stamp.cycles
