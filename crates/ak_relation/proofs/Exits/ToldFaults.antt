-- What a turn of the program tells: the access by which it faulted, or none.
use Rattle.std.proofs.Common.{◌≡◌, ℕ, List, refl, ap, sym, ◌∙◌, subst}
use Rattle.std.specs.Prelude.{Bool, true, false, Option, Some, None, is_some}
use Rattle.ak_core.specs.Layout.{Layout}
use Rattle.ak_core.specs.Mem.{Access}
use Rattle.ak_core.specs.declared.event.Event.{Event}
use Rattle.ak_core.specs.declared.registers.Mode.{Mode}
use Rattle.ak_model.specs.Control.ControlState.{Control}
use Rattle.ak_model.specs.Flat.FlatRuns.{is_forbidden}
use Rattle.ak_model.specs.Paging.Histories.{History}
use Rattle.ak_model.specs.Paging.Inside.{inside, since}
use Rattle.ak_model.specs.Sound.Forced.{queue_by}
use Rattle.ak_model.specs.Tapes.LastMoment.{FlatRuns}
use Rattle.ak_model.specs.Tapes.ProgramTurns.{ProgramTurn}
use Rattle.ak_pager.specs.declared.turn.RtTurn.{RtTurn}
use Rattle.ak_relation.specs.Premises.Faulting.{ShowsDenied, ShowsFault}
use Rattle.ak_relation.specs.Program.FaultedTurns.{fault_event, is_of_access, IsFaultBy, MayEnd, NotesFault}
use Rattle.ak_relation.specs.Relation.Does.{at_moment}
use Rattle.ak_relation.specs.Relation.Stands.{runs_at, Stands}
use Rattle.ak_relation.specs.Relation.Tells.{turn_giving, TurnNotes, TellsTurn}
use Rattle.ak_relation.specs.State.MachineState.{State}
use Rattle.ak_relation.proofs.Exits.WalkedReached.{faults_unkept, next_stands, next_succeed}
use Rattle.ak_relation.proofs.Program.Seen.{comes_at, its_stay, now_program, sees}

module _ (layout : Layout) (lp : ℕ) (old : State) (mode : (old.processors lp).regs.mode ≡ Mode.Program) where
  module _ (image : List ℕ) (past : History) (control : Control) (turns : List ProgramTurn) (within : inside past lp ≡ true) (h : Stands layout image (at_moment past control turns old)) where
    abbrev runs : FlatRuns
    runs = runs_at layout image control

    -- what is noted of the program's turn is all that is told
    told : (event : Option Event) (noted : Option Access) →
        ((place : ℕ) → since past lp ≡ Some place → NotesFault layout runs (turn_giving lp past control event) turns noted) → TurnNotes layout runs lp past control turns event noted RtTurn.Go control.now
    told event noted notes = by_place (since past lp) refl
      where
        by_place : (o : Option ℕ) → since past lp ≡ o → TurnNotes layout runs lp past control turns event noted RtTurn.Go control.now
        by_place None e = absurd (let f : inside past lp ≡ false = ap is_some e in cc)
        by_place (Some place) e =
            subst (TurnNotes layout runs lp past control turns event noted RtTurn.Go) (sym (now_program layout image past control turns old lp place h e mode)) (notes place e, refl)

    -- the turn faulted by this access
    faulted : (t : Access) (b : Bool) → is_forbidden layout t ≡ b →
        MayEnd b layout runs (turn_giving lp past control (Some (fault_event layout old.queue old.count t))) turns t →
        IsFaultBy layout runs (turn_giving lp past control (Some (fault_event layout old.queue old.count t))) turns t
    faulted t b e ends = record {
      event = ap (λ queue. Some (fault_event layout queue old.count t)) h.queued ∙ ap (λ n. Some (fault_event layout (queue_by layout turns) n t)) h.counted;
      ends = subst (λ x. MayEnd x layout runs (turn_giving lp past control (Some (fault_event layout old.queue old.count t))) turns t) (sym e) ends;
    }

    fault_noted : (t : Access) → ShowsFault layout lp old t → TurnNotes layout runs lp past control turns (Some (fault_event layout old.queue old.count t)) (Some t) RtTurn.Go control.now
    fault_noted t shows =
        told (Some (fault_event layout old.queue old.count t)) (Some t)
        (λ place is.
        let stay = its_stay layout image past control turns old lp place h is mode in
        let f = shows h.bytes.flat (sees layout image past control turns old lp place h is mode) in
        faulted t false f.permitted
        (faults_unkept layout image past control turns lp place (fault_event layout old.queue old.count t) h.bytes.flat is old h.tables (old.processors lp).fills stay.fills
        (comes_at layout image past control turns old lp place h is mode) t stay.caches f))

    denied_noted : (t : Access) → ShowsDenied layout lp old t → TurnNotes layout runs lp past control turns (Some (fault_event layout old.queue old.count t)) (Some t) RtTurn.Go control.now
    denied_noted t shows =
        told (Some (fault_event layout old.queue old.count t)) (Some t)
        (λ place is.
        let event = fault_event layout old.queue old.count t in
        let stay = its_stay layout image past control turns old lp place h is mode in
        let at = comes_at layout image past control turns old lp place h is mode in
        let next = shows.1 h.bytes.flat (sees layout image past control turns old lp place h is mode) in
        faulted t true shows.0
        (record {
          place = next.number;
          stands = next_stands layout image past control turns lp place event h.bytes.flat is old h.tables (old.processors lp).fills stay.fills at t next;
          earlier = next_succeed layout image past control turns lp place event h.bytes.flat is old h.tables (old.processors lp).fills stay.fills at t next;
        }))

  -- an access that no walk finds
  pub fault_tells : (t : Access) → ShowsFault layout lp old t → TellsTurn layout lp old (Some (fault_event layout old.queue old.count t)) (Some t) RtTurn.Go
  fault_tells t shows image past control turns within h = fault_noted image past control turns within h t shows

  -- one that its page denies
  pub denied_tells : (t : Access) → ShowsDenied layout lp old t → TellsTurn layout lp old (Some (fault_event layout old.queue old.count t)) (Some t) RtTurn.Go
  denied_tells t shows image past control turns within h = denied_noted image past control turns within h t shows

  -- a turn that does not fault
  pub other_tells : (event : Option Event) → is_of_access event ≡ false → TellsTurn layout lp old event None RtTurn.Go
  other_tells event none image past control turns within h = told image past control turns within h event None (λ place is. none)
