-- The moves at the places that blame names: where an access was lost, the last entering at CSSA 1, and the last resuming.
use Rattle.std.proofs.Common.{◌≡◌, ℕ, zero, suc, ◌+◌, ◌≤◌, List, [], ◌∷◌, ◌++◌, length, drop, arith, refl, ap, sym, ◌∙◌, subst}
use Rattle.std.specs.Prelude.{Bool, true, false, not, ◌&&◌, if◌then◌else◌, ◌==◌}
use Rattle.std.proofs.lemmas.Bool.{and_from, eqb-true, eq-eqb}
use Rattle.ak_core.specs.Layout.{Layout}
use Rattle.ak_core.specs.Mem.{Access}
use Rattle.ak_core.specs.declared.event.Event.{Event}
use Rattle.ak_core.specs.declared.moves.Move.{Move}
use Rattle.ak_model.specs.Paging.Histories.{History, change_of, Change, Unchanged, Maps, Blocks, Cycles, WritesOut, Loads, Removes, MakesVa, Discards, Enters, Resumes, Exits, Interrupts}
use Rattle.ak_model.specs.Paging.Walk.{access_walkable}
use Rattle.ak_model.specs.Control.ControlState.{cssa, is_asked}
use Rattle.ak_model.specs.Control.Trace.{Moment, trace}
use Rattle.ak_model.specs.Kernels.Counted.{saved_count}
use Rattle.ak_model.specs.Stops.Blame.{faults, past_before_fault, lost_at, enters_at_one, returned_at, resumes, resumed_at}
use Rattle.ak_model.specs.Kernels.KernelRules.{resumes_early}
use Rattle.ak_model.specs.Stops.MovesBefore.{changed, moves_before_fault}
use Rattle.ak_model.specs.Laws.ViolatedRule.{enters, comes_back, IsLost}
use Rattle.ak_model.proofs.Paging.LostAccess.{lost_since}
use Rattle.ak_model.proofs.Control.OneInsideTrace.{counts_right}
use Rattle.ak_model.proofs.Stops.LastFaultTrace.{came_back, was_early}

-- the move at a place of these moves, the newest first, of which something holds with the moves before it
pub record MoveAt (moves : List Move) (place : ℕ) (Holds : List Move → Move → Type 0) : Type 0 where
  pub newer : List Move
  pub move : Move
  pub older : List Move
  pub stands : moves ≡ newer ++ move ∷ older
  pub place_is : place ≡ length older + 1
  pub holds : Holds older move

-- after one more move
older_move : (m : Move) (moves : List Move) (place : ℕ) (Holds : List Move → Move → Type 0) → MoveAt moves place Holds → MoveAt (m ∷ moves) place Holds
older_move m moves place Holds h = record { newer = m ∷ h.newer; move = h.move; older = h.older; stands = ap (λ l. m ∷ l) h.stands; place_is = h.place_is; holds = h.holds }

-- after more moves
pub later_move : (more moves : List Move) (place : ℕ) (Holds : List Move → Move → Type 0) → MoveAt moves place Holds → MoveAt (more ++ moves) place Holds
later_move [] moves place Holds h = h
later_move (m ∷ more) moves place Holds h = older_move m (more ++ moves) place Holds (later_move more moves place Holds h)

module _ (layout : Layout) (tape : List Event) where
  abbrev At : List Move → Moment
  At moves = trace layout tape moves

  -- each move has a place
  pub places : (moves : List Move) → length (At moves).past ≡ length moves
  places [] = refl
  places (m ∷ moves) = let e = places moves in omega arith

  -- the older moves have the older history
  pub dropped : (d : ℕ) (moves : List Move) → (At (drop d moves)).past ≡ drop d (At moves).past
  dropped zero moves = refl
  dropped (suc d) [] = refl
  dropped (suc d) (m ∷ moves) = dropped d moves

  -- ---- Where an access was lost

  -- a walk found the access before the move
  abbrev pub Found : Access → List Move → Move → Type 0
  Found t older move = access_walkable layout (At older).past t ≡ true

  lost_by : (t : Access) (m : Move) (moves : List Move) (before : Bool) → access_walkable layout (At moves).past t ≡ before → access_walkable layout (At (m ∷ moves)).past t ≡ false → 1 ≤ (if before && not (access_walkable layout (At (m ∷ moves)).past t) then length (At moves).past + 1 else lost_at layout (At moves).past t) → (access_walkable layout (At moves).past t ≡ false → 1 ≤ lost_at layout (At moves).past t → MoveAt moves (lost_at layout (At moves).past t) (Found t)) → MoveAt (m ∷ moves) (if before && not (access_walkable layout (At (m ∷ moves)).past t) then length (At moves).past + 1 else lost_at layout (At moves).past t) (Found t)
  lost_by t m moves true e h some go =
      subst (λ b. MoveAt (m ∷ moves) (if not b then length (At moves).past + 1 else lost_at layout (At moves).past t) (Found t)) (sym h)
      (record { newer = []; move = m; older = moves; stands = refl; place_is = (let l = places moves in omega arith); holds = e })
  lost_by t m moves false e h some go = older_move m moves (lost_at layout (At moves).past t) (Found t) (go e some)

  pub lost_move : (t : Access) (moves : List Move) → access_walkable layout (At moves).past t ≡ false → 1 ≤ lost_at layout (At moves).past t → MoveAt moves (lost_at layout (At moves).past t) (Found t)
  lost_move t [] h some = absurd (omega arith)
  lost_move t (m ∷ moves) h some = lost_by t m moves (access_walkable layout (At moves).past t) refl h some (lost_move t moves)

  -- from a place on that is not before, no walk finds it
  pub is_lost : (t : Access) (moves : List Move) (place : ℕ) → access_walkable layout (At moves).past t ≡ false → lost_at layout (At moves).past t ≤ place → place ≤ length moves → IsLost layout place (At moves).past t
  is_lost t moves place h low high = record {
    early = let l = places moves in omega arith;
    since = λ d le. lost_since layout t (At moves).past h d (omega arith);
  }

  -- ---- The last entering at CSSA 1

  abbrev pub Back : List Move → Move → Type 0
  Back older move = comes_back layout (At older) move ≡ true

  entering : (c : Change) (saved : ℕ) → enters_at_one c saved ≡ true → (enters c ≡ true) × (saved ≡ 1)
  entering (Enters lp v) saved h = (refl, eqb-true saved 1 h)
  entering Unchanged saved h = absurd (cc)
  entering (Maps p f flags) saved h = absurd (cc)
  entering (Blocks f) saved h = absurd (cc)
  entering Cycles saved h = absurd (cc)
  entering (WritesOut f va i k) saved h = absurd (cc)
  entering (Loads f k p va i b) saved h = absurd (cc)
  entering (Removes f) saved h = absurd (cc)
  entering (MakesVa f) saved h = absurd (cc)
  entering (Discards k) saved h = absurd (cc)
  entering (Resumes lp) saved h = absurd (cc)
  entering (Exits lp exit) saved h = absurd (cc)
  entering (Interrupts lp) saved h = absurd (cc)

  back_by : (m : Move) (moves : List Move) (one : Bool) → enters_at_one (changed layout (At moves) m) (saved_count (At moves).past) ≡ one → (if one then is_asked (At moves).control.phase else came_back layout tape moves) ≡ true → (came_back layout tape moves ≡ true → MoveAt moves (returned_at (At moves).past) Back) → MoveAt (m ∷ moves) (if one then length (At moves).past + 1 else returned_at (At moves).past) Back
  back_by m moves true e h go =
      let parts = entering (changed layout (At moves) m) (saved_count (At moves).past) e in
      let one : cssa (At moves).control ≡ 1 = sym (counts_right layout tape moves).saved_is ∙ parts.1 in
      record {
        newer = [];
        move = m;
        older = moves;
        stands = refl;
        place_is = (let l = places moves in omega arith);
        holds = and_from (enters (changed layout (At moves) m)) _ parts.0 (and_from (cssa (At moves).control == 1) (is_asked (At moves).control.phase) (eq-eqb (cssa (At moves).control) 1 one) h);
      }
  back_by m moves false e h go = older_move m moves (returned_at (At moves).past) Back (go h)

  pub back_move : (moves : List Move) → came_back layout tape moves ≡ true → MoveAt moves (returned_at (At moves).past) Back
  back_move [] h = absurd (cc)
  back_move (m ∷ moves) h = back_by m moves (enters_at_one (changed layout (At moves) m) (saved_count (At moves).past)) refl h (back_move moves)

  within_by : (n before : ℕ) (one : Bool) → before ≤ n → (if one then n + 1 else before) ≤ n + 1
  within_by n before true h = omega arith
  within_by n before false h = omega arith

  pub returned_within : (past : History) → returned_at past ≤ length past
  returned_within [] = omega arith
  returned_within (pair ∷ past) = let h = within_by (length past) (returned_at past) (enters_at_one (change_of pair) (saved_count past)) (returned_within past) in omega arith

  -- ---- The last resuming

  abbrev pub Early : List Move → Move → Type 0
  Early older move = resumes_early layout (At older) move ≡ true

  early_by : (m : Move) (moves : List Move) (again : Bool) → resumes (changed layout (At moves) m) ≡ again → (if again then (cssa (At moves).control == 1) && is_asked (At moves).control.phase else was_early layout tape moves) ≡ true → (was_early layout tape moves ≡ true → MoveAt moves (resumed_at (At moves).past) Early) → MoveAt (m ∷ moves) (if again then length (At moves).past + 1 else resumed_at (At moves).past) Early
  early_by m moves true e h go = record {
    newer = [];
    move = m;
    older = moves;
    stands = refl;
    place_is = (let l = places moves in omega arith);
    holds = and_from (resumes (changed layout (At moves) m)) _ e h;
  }
  early_by m moves false e h go = older_move m moves (resumed_at (At moves).past) Early (go h)

  pub early_move : (moves : List Move) → was_early layout tape moves ≡ true → MoveAt moves (resumed_at (At moves).past) Early
  early_move [] h = absurd (cc)
  early_move (m ∷ moves) h = early_by m moves (resumes (changed layout (At moves) m)) refl h (early_move moves)

  -- ---- The moves before the last fault

  faulting_by : (m : Move) (moves : List Move) (fault : Bool) → (At (moves_before_fault layout tape moves)).past ≡ past_before_fault (At moves).past → (At (if fault then moves else moves_before_fault layout tape moves)).past ≡ (if fault then (At moves).past else past_before_fault (At moves).past)
  faulting_by m moves true h = refl
  faulting_by m moves false h = h

  pub faulting_past : (moves : List Move) → (At (moves_before_fault layout tape moves)).past ≡ past_before_fault (At moves).past
  faulting_past [] = refl
  faulting_past (m ∷ moves) = faulting_by m moves (faults (changed layout (At moves) m)) (faulting_past moves)

  -- they are the older ones
  abbrev Older : List Move → List Move → Type 0
  Older some all = (newer : List Move) × (all ≡ newer ++ some)

  faulting_in : (m : Move) (moves : List Move) (fault : Bool) → Older (moves_before_fault layout tape moves) moves → Older (if fault then moves else moves_before_fault layout tape moves) (m ∷ moves)
  faulting_in m moves true h = (m ∷ [], refl)
  faulting_in m moves false h = (m ∷ h.0, ap (λ l. m ∷ l) h.1)

  pub faulting_older : (moves : List Move) → Older (moves_before_fault layout tape moves) moves
  faulting_older [] = ([], refl)
  faulting_older (m ∷ moves) = faulting_in m moves (faults (changed layout (At moves) m)) (faulting_older moves)
