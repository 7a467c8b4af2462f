-- What holds of misses and breaks where translations are kept: breaks are forced also without, and both stay forced with more
-- values returned by calls.
use Rattle.std.proofs.Common.{◌≡◌, ℕ, List, [], ◌∷◌, ◌++◌, refl, ap, ◌∙◌}
use Rattle.std.specs.Prelude.{Bool, true, false, Option, Some, None, slice_get, take, filter, flat_map}
use Rattle.std.specs.List.{list_all}
use Rattle.std.proofs.lemmas.Bool.{and_parts}
use Rattle.ak_core.specs.Layout.{Layout}
use Rattle.ak_core.specs.Mem.{Access}
use Rattle.ak_core.specs.declared.event.Event.{Event}
use Rattle.ak_core.specs.declared.event.Event.TheVariants.{Call, Miss, Trap, Break}
use Rattle.ak_core.specs.declared.event.Stop.{Stop}
use Rattle.ak_model.specs.Flat.FlatRuns.{flat_run}
use Rattle.ak_model.specs.Tapes.LastMoment.{FlatRuns}
use Rattle.ak_model.specs.Tapes.ProgramTurns.{ProgramTurn}
use Rattle.ak_model.specs.Misses.Reached.{accesses_at, ComesTo}
use Rattle.ak_model.specs.Misses.FaultingAccess.{may_succeed, MayFault}
use Rattle.ak_model.specs.Sound.Forced.{EachTurn, IfCarriedOut, queue_by, BreakIsForced, BrokenBy}
use Rattle.ak_model.specs.Misses.KeptTranslations.{completes_by, is_same_stay, completed_since, granted_since, granted_before, is_kept, MayFaultUnkept}
use Rattle.ak_model.specs.Sound.ForcedMisses.{MissedBy}
use Rattle.ak_model.specs.Sound.BreaksAndStop.{MayBreak, BreakIsForcedUnkept, BrokenUnkeptBy}
use Rattle.ak_model.proofs.Tapes.MoreValuesReturned.{faults-comes, accesses-longer}
use Rattle.ak_model.proofs.Tapes.EachTurn.{each-from, broken-from, faults-from}

-- ---- Without what is kept

module _ (layout : Layout) (runs : FlatRuns) (stop : Option Stop) where
  forced_without : (turn : ProgramTurn) (older : List ProgramTurn) → BreakIsForcedUnkept layout runs stop turn older → BreakIsForced layout runs turn older
  forced_without turn older h =
      faults-from layout (queue_by layout older) (MayBreak layout runs stop turn older) (MayFault layout runs turn) (λ t may. may.unkept.may_fault) h

  -- each break that is forced where translations are kept is forced
  pub each-broken-without : (turns : List ProgramTurn) → EachTurn (λ turn. λ older. BrokenUnkeptBy layout runs stop turn older turn.event) turns → EachTurn (λ turn. λ older. BrokenBy layout runs turn older turn.event) turns
  each-broken-without turns h =
      each-from (λ turn. λ older. BrokenUnkeptBy layout runs stop turn older turn.event) (λ turn. λ older. BrokenBy layout runs turn older turn.event)
      (λ turn older here. broken-from (BreakIsForcedUnkept layout runs stop turn older) (BreakIsForced layout runs turn older) turn.event (forced_without turn older) here) turns h

-- ---- With more values returned by calls

-- what completes an instruction is carried out
carried : (event : Option Event) (fact : Type 0) → completes_by event ≡ true → IfCarriedOut event fact → fact
carried None fact e h = h
carried (Some (Call i b a)) fact e h = h
carried (Some (Miss i c)) fact e h = cc
carried (Some (Trap i v)) fact e h = cc
carried (Some (Break i)) fact e h = cc

-- lists of one turn after another, by two functions that agree on those that are taken
module _ (f g : ProgramTurn → List Access) (p : ProgramTurn → Bool) where
  one_alike : (turn : ProgramTurn) (older : List ProgramTurn) (b : Bool) → p turn ≡ b → (p turn ≡ true → f turn ≡ g turn) → flat_map f (filter p older) ≡ flat_map g (filter p older) → flat_map f (filter p (turn ∷ older)) ≡ flat_map g (filter p (turn ∷ older))
  one_alike turn older true e same h =
      rw e (ap (λ accesses. accesses ++ flat_map f (filter p older)) (same e) ∙ ap (λ accesses. g turn ++ accesses) h)
  one_alike turn older false e same h = rw e h

  all_alike : (turns : List ProgramTurn) → EachTurn (λ turn. λ older. p turn ≡ true → f turn ≡ g turn) turns → flat_map f (filter p turns) ≡ flat_map g (filter p turns)
  all_alike [] h = refl
  all_alike (turn ∷ older) h = one_alike turn older (p turn) refl h.0 (all_alike older h.1)

module _ (layout : Layout) (image returned more : List ℕ) where
  abbrev before : FlatRuns
  before = flat_run layout image returned

  abbrev longer : FlatRuns
  longer = flat_run layout image (returned ++ more)

  -- the flat run comes to the instruction of each of these turns that completes or traps
  abbrev CarriedOutEach : List ProgramTurn → Type 0
  CarriedOutEach turns = EachTurn (λ turn. λ older. IfCarriedOut turn.event (ComesTo before turn)) turns

  granted_longer : (turn : ProgramTurn) (older : List ProgramTurn) → CarriedOutEach older → granted_since layout longer turn older ≡ granted_since layout before turn older
  granted_longer turn older came =
      all_alike (accesses_at layout longer) (accesses_at layout before) (completed_since turn) older
      (each-from (λ earlier. λ older. IfCarriedOut earlier.event (ComesTo before earlier)) (λ earlier. λ older. completed_since turn earlier ≡ true → accesses_at layout longer earlier ≡ accesses_at layout before earlier)
      (λ earlier older here e. accesses-longer layout image returned more earlier
      (carried earlier.event (ComesTo before earlier) (and_parts (completes_by earlier.event) (is_same_stay turn earlier) e).0 here))
      older came)

  unkept_longer : (turn : ProgramTurn) (older : List ProgramTurn) (t : Access) → CarriedOutEach older → MayFaultUnkept layout before turn older t → MayFaultUnkept layout longer turn older t
  unkept_longer turn older t came h =
      let may = h.may_fault in
      let accesses : accesses_at layout longer turn ≡ accesses_at layout before turn = accesses-longer layout image returned more turn (faults-comes layout image returned more turn t may) in
      let granted : granted_before layout longer turn older may.place ≡ granted_before layout before turn older may.place =
      ap (λ since. since ++ take may.place (accesses_at layout longer turn)) (granted_longer turn older came)
      ∙ ap (λ all. granted_since layout before turn older ++ take may.place all) accesses in
      record {
        may_fault = record {
          place = may.place;
          stands = ap (λ all. slice_get all may.place) accesses ∙ may.stands;
          permitted = may.permitted;
          unmapped = may.unmapped;
          earlier = ap (λ all. list_all (may_succeed layout turn) (take may.place all)) accesses ∙ may.earlier;
        };
        unkept = ap (λ all. is_kept all t) granted ∙ h.unkept;
      }

  missed_longer : (turn : ProgramTurn) (older : List ProgramTurn) (event : Option Event) → CarriedOutEach older → MissedBy layout before turn older event → MissedBy layout longer turn older event
  missed_longer turn older None came h = tt
  missed_longer turn older (Some (Call i b a)) came h = tt
  missed_longer turn older (Some (Trap i v)) came h = tt
  missed_longer turn older (Some (Break i)) came h = tt
  missed_longer turn older (Some (Miss i c)) came h =
      record { access = h.access; faults = unkept_longer turn older h.access came h.faults; cluster = h.cluster; out = h.out }

  forced_longer : (stop : Option Stop) (turn : ProgramTurn) (older : List ProgramTurn) → CarriedOutEach older → BreakIsForcedUnkept layout before stop turn older → BreakIsForcedUnkept layout longer stop turn older
  forced_longer stop turn older came h =
      faults-from layout (queue_by layout older) (MayBreak layout before stop turn older) (MayBreak layout longer stop turn older)
      (λ t may. record { unkept = unkept_longer turn older t came may.unkept; named = may.named }) h

  -- each of these turns that misses
  pub each-missed-longer : (turns : List ProgramTurn) → CarriedOutEach turns → EachTurn (λ turn. λ older. MissedBy layout before turn older turn.event) turns → EachTurn (λ turn. λ older. MissedBy layout longer turn older turn.event) turns
  each-missed-longer [] came h = tt
  each-missed-longer (turn ∷ older) came h =
      (missed_longer turn older turn.event came.1 h.0, each-missed-longer older came.1 h.1)

  -- each of these turns that breaks
  pub each-broken-unkept-longer : (stop : Option Stop) (turns : List ProgramTurn) → CarriedOutEach turns → EachTurn (λ turn. λ older. BrokenUnkeptBy layout before stop turn older turn.event) turns → EachTurn (λ turn. λ older. BrokenUnkeptBy layout longer stop turn older turn.event) turns
  each-broken-unkept-longer stop [] came h = tt
  each-broken-unkept-longer stop (turn ∷ older) came h =
      (broken-from (BreakIsForcedUnkept layout before stop turn older) (BreakIsForcedUnkept layout longer stop turn older) turn.event (forced_longer stop turn older came.1) h.0, each-broken-unkept-longer stop older came.1 h.1)
