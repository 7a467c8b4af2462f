-- A turn of the program that completes an instruction with no event: the tape, the turns and the laws of the control state.
use Rattle.std.proofs.Common.{◌≡◌, ℕ, zero, suc, ◌+◌, ◌<◌, ◌≤◌, List, [], ◌∷◌, refl, ap, sym, ◌∙◌, subst, arith, length}
use Rattle.std.proofs.lemmas.Bool.{eqb-true}
use Rattle.std.proofs.lemmas.Bool.Decides.{nat_tests}
use Rattle.std.proofs.lemmas.List.Sums.{take_while-cons}
use Rattle.std.specs.Prelude.{Bool, true, false, ◌||◌, not, cond, take_while, option_map, option_and_then, Some, None, ◌==◌}
use Rattle.std.specs.List.{list_all}
use Rattle.ak_core.specs.Layout.{Layout}
use Rattle.ak_core.specs.Mem.{Access}
use Rattle.ak_core.specs.declared.event.Event.{Event}
use Rattle.ak_core.specs.declared.event.Event.TheVariants.{Call, Miss, Trap, Break}
use Rattle.ak_model.specs.Paging.Histories.{History}
use Rattle.ak_model.specs.Flat.FlatRuns.{Flat, End, ending, is_forbidden, flat_run, after_ending, one_more}
use Rattle.ak_model.specs.Tapes.LastMoment.{FlatRuns}
use Rattle.ak_model.specs.Sound.Events.{completed_by, ending_at, call_at}
use Rattle.ak_model.specs.Control.ControlState.{Saved}
use Rattle.ak_model.specs.Tapes.ProgramTurns.{ProgramTurn}
use Rattle.ak_model.specs.Misses.Reached.{entered_at, reached_since, accesses_at, permitted_accesses, MayComplete}
use Rattle.ak_model.specs.Misses.KeptTranslations.{same_access, is_among}
use Rattle.ak_tlb.specs.Fills.{Fill}
use Rattle.ak_relation.specs.Program.FlatPlaces.{Reaches}
use Rattle.ak_relation.specs.Program.Turns.{IsGoing, TapeStands}
use Rattle.ak_relation.specs.Program.Reaching.{is_filled, AreReached}
use Rattle.ak_model.proofs.Misses.EqualAccesses.{access_is, access_self}

-- ---- Plain facts

-- nothing is saved
pub empty : (stack : List Saved) → length stack ≡ 0 → stack ≡ []
empty [] h = refl
empty (saved ∷ older) h = absurd (omega arith)

-- a number is itself
pub same_id : (n m : ℕ) → n ≡ m → (n == m) ≡ true
same_id n m e = grind (arith, nat_tests)

-- ---- The tape

-- no call on the tape is at the count of a program that goes on
pub no_call : (count : ℕ) (events : List Event) → IsGoing count events → call_at events count ≡ None
no_call count [] h = refl
no_call count (Call i zero a ∷ events) h = absurd h
no_call count (Call i (suc b) a ∷ events) h =
    let e : (i == count) ≡ false = let lt = h.0 in grind (arith, nat_tests) in rw e (no_call count events h.1)
no_call count (Miss i c ∷ events) h = no_call count events h.1
no_call count (Trap i v ∷ events) h = absurd h
no_call count (Break i ∷ events) h = absurd h

-- a program that goes on does so at a later count
pub going_more : (n m : ℕ) (events : List Event) → n ≤ m → IsGoing n events → IsGoing m events
going_more n m [] le h = tt
going_more n m (Call i zero a ∷ events) le h = h
going_more n m (Call i (suc b) a ∷ events) le h = let lt = h.0 in (omega arith, going_more n m events le h.1)
going_more n m (Miss i c ∷ events) le h = let lt = h.0 in (omega arith, going_more n m events le h.1)
going_more n m (Trap i v ∷ events) le h = h
going_more n m (Break i ∷ events) le h = h

module _ (layout : Layout) (image returned : List ℕ) (count : ℕ) (flat after : Flat) (at : Reaches layout image returned count flat) (next : ending layout flat ≡ End.Next after) where
  -- the flat run goes on
  pub reaches-next : Reaches layout image returned (count + 1) after
  reaches-next =
      let e : count + 1 ≡ suc count = omega arith in
      ap (flat_run layout image returned) e ∙ ap (one_more layout) at ∙ ap (λ x. after_ending x []) next

  -- the tape, with one more instruction complete
  pub tape-next : (events : List Event) → IsGoing count events → TapeStands layout (flat_run layout image returned) count events →
      TapeStands layout (flat_run layout image returned) (count + 1) events
  tape-next events going h = record {
    ordered = h.ordered;
    fit = h.fit;
    completed = λ i lt. below_or i (i == count) refl lt;
    traps = h.traps;
  }
    where
      below_or : (i : ℕ) (b : Bool) → (i == count) ≡ b → i < count + 1 → option_and_then completed_by (ending_at layout (flat_run layout image returned) i) ≡ Some (call_at events i)
      below_or i true e lt =
          subst (λ j. option_and_then completed_by (ending_at layout (flat_run layout image returned) j) ≡ Some (call_at events j)) (sym (eqb-true i count e))
          (ap (λ r. option_and_then completed_by (option_map (λ run. ending layout run.flat) r)) at ∙ ap completed_by next ∙ ap Some (sym (no_call count events going)))
      below_or i false e lt = h.completed i (grind (arith, nat_tests))

-- ---- What was cached was reached

module _ (layout : Layout) (past : History) (place : ℕ) where
  -- a cached access was reached
  pub filled_reached : (fills : List Fill) (t : Access) → AreReached layout past place fills → is_filled fills t ≡ true → reached_since layout place past t ≡ true
  filled_reached [] t h some = absurd (cc)
  filled_reached (fill ∷ fills) t h some = by_first (same_access t fill.access) refl (λ more. filled_reached fills t h.1 more) some
    where
      by_first : (b : Bool) → same_access t fill.access ≡ b → (is_filled fills t ≡ true → reached_since layout place past t ≡ true) → (b || is_filled fills t) ≡ true → reached_since layout place past t ≡ true
      by_first true e rest some = ap (reached_since layout place past) (access_is t fill.access e) ∙ h.0.reached
      by_first false e rest some = rest some

  all_reached : (ts : List Access) → ((t : Access) → is_among ts t ≡ true → reached_since layout place past t ≡ true) →
      list_all (λ t. reached_since layout place past t) (take_while (λ t. not (is_forbidden layout t)) ts) ≡ true
  all_reached [] h = refl
  all_reached (t ∷ ts) h =
      ap (list_all (λ u. reached_since layout place past u)) (take_while-cons (λ u. not (is_forbidden layout u)) t ts)
      ∙ by_first (not (is_forbidden layout t)) (all_reached ts (λ u e. h u (later (same_access u t) (is_among ts u) e)))
    where
      later : (a b : Bool) → b ≡ true → (a || b) ≡ true
      later true b e = refl
      later false b e = e

      by_first : (b : Bool) → list_all (λ u. reached_since layout place past u) (take_while (λ u. not (is_forbidden layout u)) ts) ≡ true →
          list_all (λ u. reached_since layout place past u) (cond b (t ∷ take_while (λ u. not (is_forbidden layout u)) ts) []) ≡ true
      by_first true rest = let own = h t (ap (λ b. b || is_among ts t) (access_self t)) in rw own rest
      by_first false rest = refl

  -- where all accesses of the turn's instruction are cached, it may complete
  pub filled-completes : (runs : FlatRuns) (turn : ProgramTurn) (fills : List Fill) → turn.past ≡ past → entered_at turn ≡ place → AreReached layout past place fills →
      ((t : Access) → is_among (accesses_at layout runs turn) t ≡ true → is_filled fills t ≡ true) → MayComplete layout runs turn
  filled-completes runs turn fills here entered h all =
      subst (λ older. list_all (λ t. reached_since layout (entered_at turn) older t) (permitted_accesses layout (accesses_at layout runs turn)) ≡ true) (sym here)
      (subst (λ n. list_all (λ t. reached_since layout n past t) (permitted_accesses layout (accesses_at layout runs turn)) ≡ true) (sym entered)
      (all_reached (accesses_at layout runs turn) (λ t among. filled_reached fills t h (all t among))))
