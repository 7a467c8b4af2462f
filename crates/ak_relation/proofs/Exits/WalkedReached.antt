-- What was cached, or was walked just now, was reached: so an instruction may complete or trap, and an access may fault.
use Rattle.std.proofs.Common.{◌≡◌, ℕ, ◌+◌, ◌<◌, ◌≤◌, List, [], ◌∷◌, ◌++◌, length, take, refl, ap, sym, ◌∙◌, subst, arith}
use Rattle.std.proofs.lemmas.Bool.{ltb-true, eqb-true, le-leb, not-false}
use Rattle.std.proofs.lemmas.List.Folds.{list_any-append}
use Rattle.std.specs.Prelude.{Bool, true, false, ◌&&◌, ◌||◌, not, nat_lt, nat_le, slice_get, Some, None, unwrap_or, ◌==◌, if◌then◌else◌}
use Rattle.std.specs.List.{list_all}
use Rattle.ak_core.specs.Layout.{Layout}
use Rattle.ak_core.specs.Mem.{Access}
use Rattle.ak_core.specs.declared.event.Event.{Event}
use Rattle.ak_core.specs.declared.page.Kind.{Kind}
use Rattle.ak_core.specs.declared.page.Perm.TheVariants.{Rw, Rx}
use Rattle.ak_model.specs.Paging.Pages.{pages, all_pages, permits_by, permits, tcs_page, code_page}
use Rattle.ak_model.specs.Paging.Histories.{History}
use Rattle.ak_model.specs.Paging.Inside.{since}
use Rattle.ak_model.specs.Paging.Walk.{access_walkable}
use Rattle.ak_model.specs.Flat.FlatRuns.{Flat, line, is_forbidden}
use Rattle.ak_model.specs.Control.ControlState.{Control}
use Rattle.ak_model.specs.Tapes.ProgramTurns.{ProgramTurn, turn_at}
use Rattle.ak_model.specs.Misses.Reached.{reached_since, reached, entered_at, accesses_at, accesses_next, permitted_accesses, MayComplete}
use Rattle.ak_model.specs.Misses.FaultingAccess.{may_succeed}
use Rattle.ak_model.specs.Misses.KeptTranslations.{same_access, is_among, is_kept, granted_since, MayFaultUnkept}
use Rattle.ak_relation.specs.State.MachineState.{State}
use Rattle.ak_relation.specs.Program.FlatPlaces.{Reaches}
use Rattle.ak_relation.specs.State.Tables.{TablesStand}
use Rattle.ak_relation.specs.Program.Reaching.{is_filled, AreReached, granted_to, CachesGranted}
use Rattle.ak_relation.specs.Premises.EnterRows.{walk_in}
use Rattle.ak_relation.specs.Relation.Stands.{runs_at}
use Rattle.ak_tlb.specs.Fills.{Fill, accesses_of}
use Rattle.ak_relation.specs.Premises.Faulting.{AreWalked, Traps, IsNext, Faults}
use Rattle.ak_model.proofs.Misses.EqualAccesses.{access_is, access_self}
use Rattle.ak_relation.proofs.Program.Completing.{filled_reached}
use Rattle.ak_relation.proofs.Entering.EnterAnswers.{walk_same}
use Rattle.ak_model.proofs.Misses.KeptBySet.{kept_same}
use Rattle.ak_relation.proofs.Exits.Departing.{turn_with}
use Rattle.ak_model.proofs.Misses.Granted.{granted-same}
use Rattle.ak_model.proofs.Paging.SincePast.{since_past}

-- ---- Plain facts

both : (a b : Bool) → (a && b) ≡ true → (a ≡ true) × (b ≡ true)
both true true e = (refl, refl)
both true false e = absurd (cc)
both false b e = absurd (cc)

or_later : (a b : Bool) → b ≡ true → (a || b) ≡ true
or_later true b e = refl
or_later false b e = e

-- a page that permits an access is one of the enclave's
pub permits_low : (layout : Layout) (p : ℕ) (kind : Kind) → permits layout p kind ≡ true → p < all_pages layout
permits_low layout p kind h = program (nat_lt p (pages layout)) refl h
  where
    last : (b : Bool) → (p == code_page layout) ≡ b → permits_by (if b then Some Rx else None) kind ≡ true → p < all_pages layout
    last true e k = let is = eqb-true p (code_page layout) e in omega arith
    last false e k = absurd (cc)

    runtime : (b : Bool) → nat_lt p (code_page layout) ≡ b → permits_by (if b then Some Rw else (if p == code_page layout then Some Rx else None)) kind ≡ true → p < all_pages layout
    runtime true e k = let lt = ltb-true p (code_page layout) e in omega arith
    runtime false e k = last (p == code_page layout) refl k

    tcs : (b : Bool) → permits_by (if b then None else (if nat_lt p (code_page layout) then Some Rw else (if p == code_page layout then Some Rx else None))) kind ≡ true → p < all_pages layout
    tcs true k = absurd (cc)
    tcs false k = runtime (nat_lt p (code_page layout)) refl k

    program : (b : Bool) → nat_lt p (pages layout) ≡ b → permits_by (if b then slice_get layout.perms p else (if p == tcs_page layout then None
        else (if nat_lt p (code_page layout) then Some Rw else (if p == code_page layout then Some Rx else None)))) kind ≡ true → p < all_pages layout
    program true e k = let lt = ltb-true p (pages layout) e in omega arith
    program false e k = tcs (p == tcs_page layout) k

-- an access is cached just where it is one of the cached accesses
pub filled_among : (fills : List Fill) (t : Access) → is_filled fills t ≡ is_among (accesses_of fills) t
filled_among [] t = refl
filled_among (fill ∷ fills) t = ap (λ b. same_access t fill.access || b) (filled_among fills t)

-- what holds of each access of a list holds of all
pub all_among : (f : Access → Bool) (xs : List Access) → ((t : Access) → is_among xs t ≡ true → f t ≡ true) → list_all f xs ≡ true
all_among f [] h = refl
all_among f (x ∷ xs) h =
    let own = h x (ap (λ b. b || is_among xs x) (access_self x)) in rw own (all_among f xs (λ t e. h t (or_later (same_access t x) (is_among xs t) e)))

-- and the other way
pub among_all : (f : Access → Bool) (xs : List Access) (t : Access) → list_all f xs ≡ true → is_among xs t ≡ true → f t ≡ true
among_all f [] t h some = absurd (cc)
among_all f (x ∷ xs) t h some = let parts = both (f x) (list_all f xs) h in by_first (same_access t x) refl parts.0 (among_all f xs t parts.1) some
  where
    by_first : (b : Bool) → same_access t x ≡ b → f x ≡ true → (is_among xs t ≡ true → f t ≡ true) → (b || is_among xs t) ≡ true → f t ≡ true
    by_first true e own rest some = ap f (access_is t x e) ∙ own
    by_first false e own rest some = rest some

module _ (layout : Layout) (past : History) (lp place : ℕ) (is : since past lp ≡ Some place) (s : State) (h : TablesStand layout past s) where
  -- a walk just now reaches the access
  pub walk_reaches : (older : History) (t : Access) → past ≡ older → access_walkable layout past t ≡ true → reached_since layout place past t ≡ true
  walk_reaches [] t e w = absurd (let none : since [] lp ≡ Some place = subst (λ x. since x lp ≡ Some place) e is in cc)
  walk_reaches (pair ∷ older) t e w =
      let low : place ≤ length past = since_past past lp place is in
      let size : length past ≡ length (pair ∷ older) = ap length e in
      let early : nat_le place (length older + 1) ≡ true = le-leb place (length older + 1) (omega arith) in
      let found : access_walkable layout (pair ∷ older) t ≡ true = subst (λ x. access_walkable layout x t ≡ true) e w in
      subst (λ x. reached_since layout place x t ≡ true) (sym e) (rw (early, found) refl)

  walked_reached : (walked : List Access) (t : Access) → AreWalked layout s walked → is_among walked t ≡ true → reached_since layout place past t ≡ true
  walked_reached walked t found some =
      let walks = among_all (λ u. walk_in layout s u.page.0 u.kind) walked t found some in
      let permitted = (both (permits layout t.page.0 t.kind) _ walks).0 in
      walk_reaches past t refl (sym (walk_same layout past s h t.page.0 t.kind (permits_low layout t.page.0 t.kind permitted)) ∙ walks)

  -- what was cached or walked was reached
  pub cached_reached : (fills : List Fill) (walked : List Access) (t : Access) → AreReached layout past place fills → AreWalked layout s walked →
      (is_filled fills t || is_among walked t) ≡ true → reached_since layout place past t ≡ true
  cached_reached fills walked t cached found some = by_fill (is_filled fills t) refl some
    where
      by_fill : (b : Bool) → is_filled fills t ≡ b → (b || is_among walked t) ≡ true → reached_since layout place past t ≡ true
      by_fill true e some = filled_reached layout past place fills t cached e
      by_fill false e some = walked_reached walked t found some

module _ (layout : Layout) (image : List ℕ) (past : History) (control : Control) (turns : List ProgramTurn) (lp place : ℕ) (event : Event) (flat : Flat) (is : since past lp ≡ Some place) (s : State)
    (h : TablesStand layout past s) (fills : List Fill) (cached : AreReached layout past place fills) (at : Reaches layout image control.returned control.count flat) where
  entered : entered_at (turn_with lp past control event) ≡ place
  entered = ap (λ o. unwrap_or o (length past + 1)) is

  line_is : accesses_at layout (runs_at layout image control) (turn_with lp past control event) ≡ (line layout flat).accesses
  line_is = ap (accesses_next layout) at

  reached_at : (walked : List Access) (t : Access) → AreWalked layout s walked → (is_filled fills t || is_among walked t) ≡ true → reached layout (turn_with lp past control event) t ≡ true
  reached_at walked t found some = subst (λ n. reached_since layout n past t ≡ true) (sym entered) (cached_reached layout past lp place is s h fills walked t cached found some)

  -- the instruction that traps may do so
  pub traps_complete : (v : ℕ) → Traps layout s fills flat v → MayComplete layout (runs_at layout image control) (turn_with lp past control event)
  traps_complete v t =
      subst (λ accesses. list_all (reached layout (turn_with lp past control event)) (permitted_accesses layout accesses) ≡ true) (sym line_is)
      (all_among (reached layout (turn_with lp past control event)) (permitted_accesses layout (line layout flat).accesses) (λ u e. reached_at t.walked u t.found (t.covers u e)))

  -- the accesses before the next one may succeed
  pub next_succeed : (access : Access) (n : IsNext layout s fills flat access) →
      list_all (may_succeed layout (turn_with lp past control event)) (take n.number (accesses_at layout (runs_at layout image control) (turn_with lp past control event))) ≡ true
  next_succeed access n =
      subst (λ accesses. list_all (may_succeed layout (turn_with lp past control event)) (take n.number accesses) ≡ true) (sym line_is)
      (all_among (may_succeed layout (turn_with lp past control event)) (take n.number (line layout flat).accesses) succeeds)
    where
      succeeds : (t : Access) → is_among (take n.number (line layout flat).accesses) t ≡ true → may_succeed layout (turn_with lp past control event) t ≡ true
      succeeds t e =
          let allowed = among_all (λ u. not (is_forbidden layout u)) (take n.number (line layout flat).accesses) t n.allowed e in
          let was = reached_at n.walked t n.found (n.covers t e) in rw (allowed, was) refl

  -- the next access stands at its place of the turn's line
  pub next_stands : (access : Access) (n : IsNext layout s fills flat access) → slice_get (accesses_at layout (runs_at layout image control) (turn_with lp past control event)) n.number ≡ Some access
  next_stands access n = ap (λ accesses. slice_get accesses n.number) line_is ∙ n.stands

  -- the access that faults may do so, and is not kept
  pub faults_unkept : (access : Access) → CachesGranted fills (granted_to layout (runs_at layout image control) lp past control turns) → Faults layout s fills flat access →
      MayFaultUnkept layout (runs_at layout image control) (turn_with lp past control event) turns access
  faults_unkept access caches f =
      record {
        may_fault = record {
          place = f.next.number;
          stands = next_stands access f.next;
          permitted = f.permitted;
          unmapped = sym (walk_same layout past s h access.page.0 access.kind (permits_low layout access.page.0 access.kind (not-false (permits layout access.page.0 access.kind) f.permitted))) ∙ f.unmapped;
          earlier = next_succeed access f.next;
        };
        unkept = subst (λ accesses. is_kept (granted ++ take f.next.number accesses) access ≡ false) (sym line_is)
            (kept_same (granted ++ take f.next.number (line layout flat).accesses) (accesses_of fills ++ take f.next.number (line layout flat).accesses) same access ∙ f.unkept);
      }
    where
      granted : List Access
      granted = granted_since layout (runs_at layout image control) (turn_with lp past control event) turns

      same : (t : Access) → is_among (granted ++ take f.next.number (line layout flat).accesses) t ≡ is_among (accesses_of fills ++ take f.next.number (line layout flat).accesses) t
      same t =
          list_any-append (same_access t) granted (take f.next.number (line layout flat).accesses)
          ∙ ap (λ b. b || is_among (take f.next.number (line layout flat).accesses) t)
          (ap (λ g. is_among g t) (granted-same layout (runs_at layout image control) (turn_with lp past control event) (turn_at lp past control) turns refl refl)
          ∙ sym (caches t) ∙ filled_among fills t)
          ∙ sym (list_any-append (same_access t) (accesses_of fills) (take f.next.number (line layout flat).accesses))
