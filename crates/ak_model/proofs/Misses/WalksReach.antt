-- What a walk finds was reached: what completes, traps or faults where each access is walked for.
use Rattle.std.proofs.Common.{◌≡◌, ℕ, suc, ◌+◌, ◌≤◌, List, [], ◌∷◌, ◌++◌, length, take, arith, refl, ap, sym, ◌∙◌}
use Rattle.std.specs.Prelude.{true, false, not, Option, Some, None, is_some, unwrap_or, slice_get, nat_le, ◌==◌}
use Rattle.std.specs.List.{list_all}
use Rattle.std.proofs.Math.Seq.{take-append_seam}
use Rattle.std.proofs.lemmas.Bool.{le-leb, and_parts}
use Rattle.std.proofs.lemmas.List.{append-nil}
use Rattle.std.proofs.lemmas.List.Sums.{take_while-cons}
use Rattle.ak_core.specs.Layout.{Layout}
use Rattle.ak_core.specs.Mem.{Access}
use Rattle.ak_model.specs.Paging.Pages.{permits}
use Rattle.ak_model.specs.Paging.Histories.{History, Change, Unchanged, Maps, Blocks, Cycles, WritesOut, Loads, Removes, MakesVa, Discards, Enters, Resumes, Exits, Interrupts, change_of}
use Rattle.ak_model.specs.Paging.Inside.{since_after, since, inside}
use Rattle.ak_model.specs.Paging.Walk.{access_walkable}
use Rattle.ak_model.specs.Flat.FlatRuns.{is_forbidden}
use Rattle.ak_model.specs.Tapes.LastMoment.{FlatRuns}
use Rattle.ak_model.specs.Tapes.ProgramTurns.{ProgramTurn}
use Rattle.ak_model.specs.Misses.Reached.{reached_since, reached, accesses_at, permitted_accesses, MayComplete}
use Rattle.ak_model.specs.Misses.FaultingAccess.{may_succeed, MayFault}
use Rattle.ak_model.proofs.Paging.Tests.{either_way}

-- ---- The entering lies in the history

abbrev Within : ℕ → Option ℕ → Type 0
Within n None = Unit {0}
Within n (Some place) = place ≤ n

within_up : (n : ℕ) (o : Option ℕ) → Within n o → Within (suc n) o
within_up n None h = tt
within_up n (Some place) h = omega arith

after_within : (change : Change) (lp n : ℕ) (before : Option ℕ) → Within n before → Within (suc n) (since_after change lp (n + 1) before)
after_within (Enters q v) lp n before h = either_way (Within (suc n)) (lp == q) (Some (n + 1)) before (omega arith) (within_up n before h)
after_within (Resumes q) lp n before h = either_way (Within (suc n)) (lp == q) (Some (n + 1)) before (omega arith) (within_up n before h)
after_within (Exits q exit) lp n before h = either_way (Within (suc n)) (lp == q) None before tt (within_up n before h)
after_within (Interrupts q) lp n before h = either_way (Within (suc n)) (lp == q) None before tt (within_up n before h)
after_within Unchanged lp n before h = within_up n before h
after_within (Maps p f flags) lp n before h = within_up n before h
after_within (Blocks f) lp n before h = within_up n before h
after_within Cycles lp n before h = within_up n before h
after_within (WritesOut f va i k) lp n before h = within_up n before h
after_within (Loads f k p va i b) lp n before h = within_up n before h
after_within (Removes f) lp n before h = within_up n before h
after_within (MakesVa f) lp n before h = within_up n before h
after_within (Discards k) lp n before h = within_up n before h

since_within : (past : History) (lp : ℕ) → Within (length past) (since past lp)
since_within [] lp = tt
since_within (pair ∷ past) lp = after_within (change_of pair) lp (length past) (since past lp) (since_within past lp)

entered_within : (n : ℕ) (o : Option ℕ) → Within n o → is_some o ≡ true → unwrap_or o (n + 1) ≤ n
entered_within n (Some place) h k = h
entered_within n None h k = cc

-- ---- A walk now

module _ (layout : Layout) where
  reached_now : (past : History) (lp : ℕ) (t : Access) → inside past lp ≡ true → access_walkable layout past t ≡ true → reached_since layout (unwrap_or (since past lp) (length past + 1)) past t ≡ true
  reached_now [] lp t h k = cc
  reached_now (pair ∷ past) lp t h k =
      let within = entered_within (suc (length past)) (since (pair ∷ past) lp) (since_within (pair ∷ past) lp) h in
      let fits : nat_le (unwrap_or (since (pair ∷ past) lp) (length (pair ∷ past) + 1)) (length past + 1) ≡ true = le-leb _ _ (omega (arith, within)) in
      rw (fits, k) refl

  -- what a walk finds at the turn was reached
  pub walkable-reached : (turn : ProgramTurn) (t : Access) → inside turn.past turn.lp ≡ true → access_walkable layout turn.past t ≡ true → reached layout turn t ≡ true
  walkable-reached turn t h k = reached_now turn.past turn.lp t h k

  -- each access that a walk finds is permitted
  walkable_permitted : (past : History) (t : Access) → access_walkable layout past t ≡ true → is_forbidden layout t ≡ false
  walkable_permitted past t h = rw (and_parts (permits layout t.page.0 t.kind) _ h).0 refl

  -- and so none of these ends the accesses before the first forbidden one
  permitted-walkable : (past : History) (granted rest : List Access) → list_all (access_walkable layout past) granted ≡ true → permitted_accesses layout (granted ++ rest) ≡ granted ++ permitted_accesses layout rest
  permitted-walkable past [] rest h = refl
  permitted-walkable past (t ∷ granted) rest h =
      let both = and_parts (access_walkable layout past t) (list_all (access_walkable layout past) granted) h in
      let allowed = walkable_permitted past t both.0 in
      take_while-cons (λ u. not (is_forbidden layout u)) t (granted ++ rest)
      ∙ (rw (allowed, permitted-walkable past granted rest both.1) refl)

  -- a forbidden access ends them
  permitted-forbidden : (t : Access) (rest : List Access) → is_forbidden layout t ≡ true → permitted_accesses layout (t ∷ rest) ≡ []
  permitted-forbidden t rest h = take_while-cons (λ u. not (is_forbidden layout u)) t rest ∙ (rw h refl)

  -- ---- A turn of which each access is walked for

  module _ (runs : FlatRuns) (turn : ProgramTurn) (within : inside turn.past turn.lp ≡ true) where
    all_reached : (granted : List Access) → list_all (access_walkable layout turn.past) granted ≡ true → list_all (reached layout turn) granted ≡ true
    all_reached [] h = refl
    all_reached (t ∷ granted) h =
        let both = and_parts (access_walkable layout turn.past t) (list_all (access_walkable layout turn.past) granted) h in
        rw (walkable-reached turn t within both.0, all_reached granted both.1) refl

    all_granted : (granted : List Access) → list_all (access_walkable layout turn.past) granted ≡ true → list_all (may_succeed layout turn) granted ≡ true
    all_granted [] h = refl
    all_granted (t ∷ granted) h =
        let both = and_parts (access_walkable layout turn.past t) (list_all (access_walkable layout turn.past) granted) h in
        rw (walkable_permitted turn.past t both.0, walkable-reached turn t within both.0, all_granted granted both.1) refl

    -- a walk finds each access
    pub completes-walked : (granted : List Access) → accesses_at layout runs turn ≡ granted → list_all (access_walkable layout turn.past) granted ≡ true → MayComplete layout runs turn
    completes-walked granted e h =
        let permitted : permitted_accesses layout (accesses_at layout runs turn) ≡ granted =
        ap (permitted_accesses layout) (e ∙ sym (append-nil granted)) ∙ permitted-walkable turn.past granted [] h ∙ append-nil granted in
        ap (list_all (reached layout turn)) permitted ∙ all_reached granted h

    -- a walk finds each access before a forbidden one
    pub traps-walked : (granted rest : List Access) (t : Access) → accesses_at layout runs turn ≡ granted ++ t ∷ rest → list_all (access_walkable layout turn.past) granted ≡ true → is_forbidden layout t ≡ true → MayComplete layout runs turn
    traps-walked granted rest t e h forbidden =
        let permitted : permitted_accesses layout (accesses_at layout runs turn) ≡ granted =
        ap (permitted_accesses layout) e
        ∙ permitted-walkable turn.past granted (t ∷ rest) h
        ∙ ap (λ accesses. granted ++ accesses) (permitted-forbidden t rest forbidden)
        ∙ append-nil granted in
        ap (list_all (reached layout turn)) permitted ∙ all_reached granted h

    next_is : (granted rest : List Access) (t : Access) → slice_get (granted ++ t ∷ rest) (length granted) ≡ Some t
    next_is [] rest t = refl
    next_is (u ∷ granted) rest t = next_is granted rest t

    -- a walk finds each access before a permitted one, which none finds
    pub faults-walked : (granted rest : List Access) (t : Access) → accesses_at layout runs turn ≡ granted ++ t ∷ rest → list_all (access_walkable layout turn.past) granted ≡ true → is_forbidden layout t ≡ false → access_walkable layout turn.past t ≡ false → MayFault layout runs turn t
    faults-walked granted rest t e h permitted unmapped = record {
      place = length granted;
      stands = ap (λ accesses. slice_get accesses (length granted)) e ∙ next_is granted rest t;
      permitted = permitted;
      unmapped = unmapped;
      earlier = ap (λ accesses. list_all (may_succeed layout turn) (take (length granted) accesses)) e
          ∙ ap (list_all (may_succeed layout turn)) (take-append_seam granted (t ∷ rest))
          ∙ all_granted granted h;
    }
