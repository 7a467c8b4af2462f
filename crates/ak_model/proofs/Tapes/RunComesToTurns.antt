-- Where the events agree with the flat run, it comes to the instruction of each turn that completes or traps.
use Rattle.std.proofs.Common.{◌≡◌, ℕ, ◌<◌, List, [], ◌∷◌, ◌++◌, refl, ap, sym, ◌∙◌}
use Rattle.std.specs.Prelude.{reverse, Option, Some, None, option_map, option_and_then}
use Rattle.ak_core.specs.Layout.{Layout}
use Rattle.ak_core.specs.Journal.{Journal}
use Rattle.ak_core.specs.declared.event.Event.{Event}
use Rattle.ak_core.specs.declared.event.Event.TheVariants.{Call, Miss, Trap, Break}
use Rattle.ak_model.specs.Flat.FlatRuns.{End, FlatRun, ending, flat_run}
use Rattle.ak_model.specs.Tapes.LastMoment.{last_moment, FlatRuns, runs_of}
use Rattle.ak_model.specs.Sound.Events.{completed_by, vector_by, TrapIsForced, TrapsAreForced, EventsAreFlat}
use Rattle.ak_model.specs.Laws.Premises.{IsCounted}
use Rattle.ak_model.specs.Tapes.ProgramTurns.{ProgramTurn}
use Rattle.ak_model.specs.Misses.Reached.{ComesTo}
use Rattle.ak_model.specs.Sound.Forced.{EachTurn, turns_of, IfCarriedOut, ReachedBy, AccessesAreReached}
use Rattle.ak_model.proofs.Tapes.EachTurn.{each-from_both}
use Rattle.ak_model.proofs.Tapes.TurnCounts.{counts-each}
use Rattle.ak_model.proofs.Tapes.TurnEvents.{EachEvent, HoldsAt, events-each}
use Rattle.ak_model.proofs.Tapes.MoreValuesReturned.{completes-longer}

-- an end is that of an instruction, and so the run comes to it
some_end : {X : Type 0} (layout : Layout) (f : End → Option X) (o : Option FlatRun) (x : X) → option_and_then f (option_map (λ run. ending layout run.flat) o) ≡ Some x → (run : FlatRun) × (o ≡ Some run)
some_end layout f (Some run) x h = (run, refl)
some_end layout f None x h = cc

each_trap : (layout : Layout) (runs : FlatRuns) (tape : List Event) → TrapsAreForced layout runs tape → EachEvent (TrapIsForced layout runs) tape
each_trap layout runs [] h = tt
each_trap layout runs (event ∷ tape) h = (h.0, each_trap layout runs tape h.1)

module _ (image : List ℕ) (layout : Layout) (journal : Journal) (flat : EventsAreFlat image layout journal) where
  abbrev runs : FlatRuns
  runs = runs_of layout image journal

  abbrev bound : ℕ
  bound = (last_moment layout journal).control.count

  completes_comes : (turn : ProgramTurn) → turn.count < bound → ComesTo runs turn
  completes_comes turn below = some_end layout completed_by (runs turn.count) _ (flat.completed turn.count below)

  traps_comes : (turn : ProgramTurn) (i v : ℕ) → HoldsAt layout (TrapIsForced layout runs) turn.count (Some (Trap i v)) → ComesTo runs turn
  traps_comes turn i v h =
      let found = some_end layout vector_by (runs i) v h.1 in (found.0, ap runs (sym h.0) ∙ found.1)

  turn_comes : (turn : ProgramTurn) (event : Option Event) → IsCounted bound turn.count event → HoldsAt layout (TrapIsForced layout runs) turn.count event → IfCarriedOut event (ComesTo runs turn)
  turn_comes turn None below h = completes_comes turn below
  turn_comes turn (Some (Call i b a)) below h = completes_comes turn below
  turn_comes turn (Some (Trap i v)) below h = traps_comes turn i v h
  turn_comes turn (Some (Miss i c)) below h = tt
  turn_comes turn (Some (Break i)) below h = tt

  pub comes-each : EachTurn (λ turn. λ older. IfCarriedOut turn.event (ComesTo runs turn)) (turns_of layout journal)
  comes-each =
      each-from_both (λ turn. λ older. IsCounted bound turn.count turn.event) (λ turn. λ older. HoldsAt layout (TrapIsForced layout runs) turn.count turn.event) (λ turn. λ older. IfCarriedOut turn.event (ComesTo runs turn))
      (λ turn older below h. turn_comes turn turn.event below h) (turns_of layout journal)
      (counts-each layout journal.events (reverse journal.moves))
      (events-each layout (TrapIsForced layout runs) journal.events (reverse journal.moves) (each_trap layout runs journal.events flat.traps))

  module _ (more : List ℕ) where
    abbrev longer : FlatRuns
    longer = flat_run layout image ((last_moment layout journal).control.returned ++ more)

    reached_longer : (turn : ProgramTurn) (event : Option Event) → IfCarriedOut event (ComesTo runs turn) → ReachedBy layout runs turn event → ReachedBy layout longer turn event
    reached_longer turn None came h = completes-longer layout image _ more turn came h
    reached_longer turn (Some (Call i b a)) came h = completes-longer layout image _ more turn came h
    reached_longer turn (Some (Trap i v)) came h = completes-longer layout image _ more turn came h
    reached_longer turn (Some (Miss i c)) came h = tt
    reached_longer turn (Some (Break i)) came h = tt

    -- accesses that were reached stay so with more answers to calls
    pub stay-reached : AccessesAreReached image layout journal → EachTurn (λ turn. λ older. ReachedBy layout longer turn turn.event) (turns_of layout journal)
    stay-reached reached =
        each-from_both (λ turn. λ older. IfCarriedOut turn.event (ComesTo runs turn)) (λ turn. λ older. ReachedBy layout runs turn turn.event) (λ turn. λ older. ReachedBy layout longer turn turn.event)
        (λ turn older came h. reached_longer turn turn.event came h) (turns_of layout journal)
        comes-each reached.turns_reach
