-- What the code keeps of the tracking cycles, and for which history. (SDM volume 3D, ETRACK.)
use Rattle.std.specs.Prelude.{◌≡◌, ◌⊎◌, ℕ, ◌+◌, ◌≤◌, ◌<◌, Bool, true, false, List, [], ◌∷◌, length, min, Option, Some, None, option_map, is_some, is_none, nat_lt, slice_index_or, slice_set, ◌==◌, if◌then◌else◌}
use Rattle.std.specs.List.{list_any}
use Rattle.ak_core.specs.Layout.{Layout}
use Rattle.ak_core.specs.declared.page.Lp.{Lp}
use Rattle.ak_model.specs.Paging.Histories
use Rattle.ak_model.specs.Paging.Histories.{History}
use Rattle.ak_model.specs.Paging.Inside.{inside, since, since_after}
use Rattle.ak_model.specs.Paging.Tracking.{Cycle, cycles, cycles_after}
use Rattle.ak_driver.specs.declared.changes.Change.{Change}
use Rattle.ak_driver.specs.declared.changes.Change.TheVariants.{Cycles, Enters, Resumes, Exits, Interrupts}
use Rattle.ak_driver.specs.declared.tracking.Tracking.{Tracking}

-- a processor's number
abbrev pub lp_number : Option Lp → Option ℕ
lp_number lp = option_map (λ (q : Lp). q.0) lp

-- of a processor: the place of the newest cycle when it entered, where it is inside
abbrev pub entered_at : List (Option ℕ) → ℕ → Option ℕ
entered_at entered lp = slice_index_or entered lp None

-- the processor entered before the cycle of this place began
abbrev pub entered_before : Option ℕ → ℕ → Bool
entered_before None place = false
entered_before (Some newest) place = nat_lt newest place

-- one more processor entered; one that is inside already entered earlier
abbrev pub with_entered : List (Option ℕ) → ℕ → ℕ → List (Option ℕ)
with_entered entered lp newest =
    if is_none (entered_at entered lp) then slice_set entered lp (Some newest) else entered

-- the newest cycle after a change, at its place
abbrev pub newest_after : Change → ℕ → ℕ → ℕ
newest_after Cycles place newest = place
newest_after _ place newest = newest

-- who is inside after a change
abbrev pub entered_after : Change → ℕ → List (Option ℕ) → List (Option ℕ)
entered_after (Enters lp v) newest entered = with_entered entered lp.0 newest
entered_after (Resumes lp) newest entered = with_entered entered lp.0 newest
entered_after (Exits lp exit) newest entered = slice_set entered lp.0 None
entered_after (Interrupts lp) newest entered = slice_set entered lp.0 None
entered_after _ newest entered = entered

-- the place of the newest cycle for which nobody who is inside had entered
abbrev pub newest_over : List (Option ℕ) → ℕ → ℕ
newest_over [] newest = newest
newest_over (None ∷ entered) newest = newest_over entered newest
newest_over (Some before ∷ entered) newest = newest_over entered (min newest before)

-- the block, if there is one, is before the newest cycle that is over
abbrev pub is_over_since : Option ℕ → ℕ → Bool
is_over_since None newest = false
is_over_since (Some place) newest = nat_lt place newest

-- there is no cycle and the place is 0, or one is at the place
abbrev pub IsCycleAt : List Cycle → ℕ → Type 0
IsCycleAt all place = (place ≡ 0) ⊎ (list_any (λ cycle. cycle.at == place) all ≡ true)

-- the cycle waits for the processor
abbrev pub waits_for : Cycle → ℕ → Bool
waits_for cycle lp = list_any (λ q. q == lp) cycle.waiting

-- each cycle is at this place at most, and waits for just those processors that entered before it
abbrev pub AllWaitFor : ℕ → (ℕ → Option ℕ) → List Cycle → Type 0
AllWaitFor newest entered [] = Unit {0}
AllWaitFor newest entered (cycle ∷ older) =
    (cycle.at ≤ newest) × ((lp : ℕ) → waits_for cycle lp ≡ entered_before (entered lp) cycle.at) × AllWaitFor newest entered older

-- so many processors, of which these are inside, and these cycles, the last move having this place
pub record AreCycles (newest : ℕ) (entered : List (Option ℕ)) (lps place : ℕ) (is_in : ℕ → Bool) (all : List Cycle) : Type 0 where
  pub room : lps ≤ length entered
  pub inside_is : (lp : ℕ) → lp < lps → is_some (entered_at entered lp) ≡ is_in lp
  pub none_beyond : (lp : ℕ) → lps ≤ lp → entered_at entered lp ≡ None
  pub early : newest ≤ place
  pub earlier : (lp n : ℕ) → entered_at entered lp ≡ Some n → n ≤ newest
  pub waiting : AllWaitFor newest (entered_at entered) all
  pub newest_at : IsCycleAt all newest
  pub entered_at_one : (lp n : ℕ) → entered_at entered lp ≡ Some n → IsCycleAt all n

-- the cycles are those of this history
abbrev pub HasCycles : Tracking → Layout → History → Type 0
HasCycles tracking layout past = AreCycles tracking.newest tracking.entered layout.lps (length past) (inside past) (cycles layout past)

-- and of this history with one more change
abbrev pub HasCyclesAfter : Tracking → Layout → History → Histories.Change → Type 0
HasCyclesAfter tracking layout past change =
    AreCycles tracking.newest tracking.entered layout.lps (length past + 1)
    (λ lp. is_some (since_after change lp (length past + 1) (since past lp)))
    (cycles_after layout past change (cycles layout past))
