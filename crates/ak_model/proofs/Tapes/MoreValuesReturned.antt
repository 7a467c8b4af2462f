-- What holds of a journal's turns holds with more values returned by calls, as far as the flat run came.
use Rattle.std.proofs.Common.{◌≡◌, ℕ, List, ◌++◌, refl, ap, sym, ◌∙◌}
use Rattle.std.specs.Prelude.{Option, Some, None, slice_get, take}
use Rattle.std.specs.List.{list_all}
use Rattle.ak_core.specs.Layout.{Layout}
use Rattle.ak_core.specs.Mem.{Access}
use Rattle.ak_core.specs.declared.event.Event.{Event}
use Rattle.ak_core.specs.declared.event.Event.TheVariants.{Call, Miss, Trap, Break}
use Rattle.ak_model.specs.Flat.FlatRuns.{FlatRun, flat_run}
use Rattle.ak_model.specs.Tapes.LastMoment.{FlatRuns}
use Rattle.ak_model.specs.Tapes.ProgramTurns.{ProgramTurn}
use Rattle.ak_model.specs.Misses.Reached.{reached, accesses_next, accesses_at, ComesTo, permitted_accesses, MayComplete}
use Rattle.ak_model.specs.Misses.FaultingAccess.{may_succeed, MayFault}
use Rattle.ak_model.specs.Sound.Forced.{EachTurn, ReachedBy, queue_by, BreakIsForced, BrokenBy}
use Rattle.ak_model.proofs.Flat.MoreCallAnswers.{flat_run-longer}
use Rattle.ak_model.proofs.Tapes.EachTurn.{each-from, each-from_both, broken-from, faults-from}

-- runs by which the turn's instruction has the same accesses
module _ (layout : Layout) (runs runs' : FlatRuns) (turn : ProgramTurn) (same : accesses_at layout runs' turn ≡ accesses_at layout runs turn) where
  completes_alike : MayComplete layout runs turn → MayComplete layout runs' turn
  completes_alike h = ap (λ accesses. list_all (reached layout turn) (permitted_accesses layout accesses)) same ∙ h

  faults_alike : (t : Access) → MayFault layout runs turn t → MayFault layout runs' turn t
  faults_alike t h = record {
    place = h.place;
    stands = ap (λ accesses. slice_get accesses h.place) same ∙ h.stands;
    permitted = h.permitted;
    unmapped = h.unmapped;
    earlier = ap (λ accesses. list_all (may_succeed layout turn) (take h.place accesses)) same ∙ h.earlier;
  }

  reached_alike : (event : Option Event) → ReachedBy layout runs turn event → ReachedBy layout runs' turn event
  reached_alike None h = completes_alike h
  reached_alike (Some (Call i b a)) h = completes_alike h
  reached_alike (Some (Trap i v)) h = completes_alike h
  reached_alike (Some (Miss i c)) h = tt
  reached_alike (Some (Break i)) h = tt

module _ (layout : Layout) (image returned more : List ℕ) where
  abbrev before : FlatRuns
  before = flat_run layout image returned

  abbrev longer : FlatRuns
  longer = flat_run layout image (returned ++ more)

  -- the turn's instruction has the same accesses
  pub accesses-longer : (turn : ProgramTurn) → ComesTo before turn → accesses_at layout longer turn ≡ accesses_at layout before turn
  accesses-longer turn came =
      ap (accesses_next layout) (flat_run-longer layout image more returned turn.count came.0 came.1)
      ∙ sym (ap (accesses_next layout) came.1)

  pub comes-longer : (turn : ProgramTurn) → ComesTo before turn → ComesTo longer turn
  comes-longer turn came = (_, flat_run-longer layout image more returned turn.count came.0 came.1)

  pub completes-longer : (turn : ProgramTurn) → ComesTo before turn → MayComplete layout before turn → MayComplete layout longer turn
  completes-longer turn came h = completes_alike layout before longer turn (accesses-longer turn came) h

  access_comes : (o : Option FlatRun) (place : ℕ) (t : Access) → slice_get (accesses_next layout o) place ≡ Some t → (run : FlatRun) × (o ≡ Some run)
  access_comes (Some run) place t h = (run, refl)
  access_comes None place t h = cc

  -- an access stands in an instruction, and so the flat run comes to it
  pub faults-comes : (turn : ProgramTurn) (t : Access) → MayFault layout before turn t → ComesTo before turn
  faults-comes turn t h = access_comes (before turn.count) h.place t h.stands

  pub faults-longer : (turn : ProgramTurn) (t : Access) → MayFault layout before turn t → MayFault layout longer turn t
  faults-longer turn t h = faults_alike layout before longer turn (accesses-longer turn (faults-comes turn t h)) t h

  pub break-longer : (turn : ProgramTurn) (older : List ProgramTurn) → BreakIsForced layout before turn older → BreakIsForced layout longer turn older
  break-longer turn older h =
      faults-from layout (queue_by layout older) (MayFault layout before turn) (MayFault layout longer turn) (faults-longer turn) h

  -- the flat run comes to each of these turns
  abbrev pub ComesToEach : List ProgramTurn → Type 0
  ComesToEach turns = EachTurn (λ turn. λ older. ComesTo before turn) turns

  pub each-comes-longer : (turns : List ProgramTurn) → ComesToEach turns → EachTurn (λ turn. λ older. ComesTo longer turn) turns
  each-comes-longer turns came =
      each-from (λ turn. λ older. ComesTo before turn) (λ turn. λ older. ComesTo longer turn)
      (λ turn older here. comes-longer turn here) turns came

  -- each of these turns that completes or traps
  pub each-reached-longer : (turns : List ProgramTurn) → ComesToEach turns → EachTurn (λ turn. λ older. ReachedBy layout before turn turn.event) turns → EachTurn (λ turn. λ older. ReachedBy layout longer turn turn.event) turns
  each-reached-longer turns came h =
      each-from_both (λ turn. λ older. ComesTo before turn) (λ turn. λ older. ReachedBy layout before turn turn.event) (λ turn. λ older. ReachedBy layout longer turn turn.event)
      (λ turn older here. reached_alike layout before longer turn (accesses-longer turn here) turn.event) turns came h

  -- each of these turns that breaks
  pub each-broken-longer : (turns : List ProgramTurn) → EachTurn (λ turn. λ older. BrokenBy layout before turn older turn.event) turns → EachTurn (λ turn. λ older. BrokenBy layout longer turn older turn.event) turns
  each-broken-longer turns h =
      each-from (λ turn. λ older. BrokenBy layout before turn older turn.event) (λ turn. λ older. BrokenBy layout longer turn older turn.event)
      (λ turn older here. broken-from (BreakIsForced layout before turn older) (BreakIsForced layout longer turn older) turn.event (break-longer turn older) here) turns h
