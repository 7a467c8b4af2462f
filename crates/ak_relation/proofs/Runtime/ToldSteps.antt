-- What the outcome of a step tells, as `TellsTurn` has it.
use Rattle.std.proofs.Common.{◌≡◌, ℕ, List, refl, ap, sym, ◌∙◌, subst}
use Rattle.std.specs.Prelude.{true, false, Option, Some, None, is_some}
use Rattle.ak_core.specs.Layout.{Layout, IsValid}
use Rattle.ak_core.specs.Mem.{Access}
use Rattle.ak_core.specs.declared.event.StopCause.{StopCause}
use Rattle.ak_core.specs.declared.event.StopCause.TheVariants.{Unmapped, RuntimeUnmapped, FetchNotHonoured, ResumedEarly, Stuck}
use Rattle.ak_core.specs.declared.moves.Exit.{Exit}
use Rattle.ak_core.specs.declared.page.Lp.{Lp}
use Rattle.ak_core.specs.declared.registers.Regs.{Regs}
use Rattle.ak_model.specs.Control.ControlState.{Dead, Context, Program, Enter, Probe, Finish, Guard, Leave, Control}
use Rattle.ak_model.specs.Control.RuntimeTurn.{accesses, first_fault}
use Rattle.ak_model.specs.Paging.Histories.{History}
use Rattle.ak_model.specs.Paging.Inside.{inside, since}
use Rattle.ak_model.specs.Tapes.LastMoment.{FlatRuns}
use Rattle.ak_model.specs.Tapes.ProgramTurns.{ProgramTurn}
use Rattle.ak_model.proofs.Clusters.ValidClusters.{clusters_fit}
use Rattle.ak_model.proofs.Control.OrderlySteps.{ClustersFit}
use Rattle.ak_pager.specs.declared.turn.RtTurn.{RtTurn}
use Rattle.ak_ssa.specs.FramesFit.{HasRoom}
use Rattle.ak_ssa.proofs.Room.{room}
use Rattle.ak_relation.specs.Premises.Shows.{ShowsStep}
use Rattle.ak_relation.specs.Premises.Works.{IsLost, IsStep, Ends}
use Rattle.ak_relation.specs.Relation.Does.{at_moment}
use Rattle.ak_relation.specs.Relation.Journals.{CauseNamesBreak}
use Rattle.ak_relation.specs.Relation.Stands.{runs_at, Stands}
use Rattle.ak_relation.specs.Relation.StepNotes.{is_faulted, is_death, NotesRefusal, NamesItsBreak, StepNotes}
use Rattle.ak_relation.specs.Relation.Tells.{TurnNotes, TellsTurn}
use Rattle.ak_relation.specs.State.MachineState.{State}
use Rattle.ak_relation.proofs.Runtime.NotedBreaks.{forced, once}
use Rattle.ak_relation.proofs.Runtime.RuntimeTurns.{at, case_of, contract, seen}
use Rattle.ak_relation.proofs.Runtime.StepTurns.{none_refused, one_refused}

-- a step that ends as the machine shows did not fault
not_faulted : (lp : ℕ) (outcome : RtTurn) (regs : Regs) (old new : State) → Ends lp outcome regs old new → is_faulted outcome ≡ false
not_faulted lp RtTurn.Go regs old new ends = refl
not_faulted lp (RtTurn.Leave exit) regs old new ends = refl
not_faulted lp (RtTurn.Dead cause) regs old new ends = refl
not_faulted lp (RtTurn.Faulted t) regs old new ends = absurd ends

module _ (layout : Layout) (fit : ClustersFit layout) (has_room : HasRoom layout) (lp : Lp) (old new : State) (outcome : RtTurn) (s : ShowsStep layout lp.0 old new outcome)
    (image : List ℕ) (past : History) (control : Control) (turns : List ProgramTurn) (within : inside past lp.0 ≡ true) (h : Stands layout image (at_moment past control turns old)) where
  abbrev runs : FlatRuns
  runs = runs_at layout image control

  abbrev its_context : Context
  its_context = (at layout fit has_room lp old new outcome s image past control turns within h 0).context

  its_now : control.now ≡ Some its_context
  its_now = (at layout fit has_room lp old new outcome s image past control turns within h 0).is

  its_step : IsStep its_context
  its_step = (at layout fit has_room lp old new outcome s image past control turns within h 0).step

  module _ (place : ℕ) (is : since past lp.0 ≡ Some place) where
    -- all accesses were found
    module _ (e : s.refused ≡ None) where
      by_cause : (cause : StopCause) → outcome ≡ RtTurn.Dead cause → CauseNamesBreak layout runs turns cause
      by_cause (Unmapped p kind) dies =
          forced layout image past control turns old new lp outcome s.regs (old.processors lp.0).regs (record { page = p; kind = kind }) dies its_context
          (case_of layout fit has_room lp old new outcome s image past control turns within h 0 place is e)
          ((contract layout fit has_room lp old new outcome s image past control turns within h 0).works e).1
      by_cause (RuntimeUnmapped p kind) dies = tt
      by_cause (FetchNotHonoured p kind) dies = tt
      by_cause ResumedEarly dies = tt
      by_cause (Stuck p kind) dies = tt

      names : (o : RtTurn) → outcome ≡ o → NamesItsBreak layout runs turns o
      names RtTurn.Go is_it = tt
      names (RtTurn.Leave exit) is_it = tt
      names (RtTurn.Faulted t) is_it = tt
      names (RtTurn.Dead cause) is_it = by_cause cause is_it

      dead_once : control.phase ≡ Dead → (o : RtTurn) → outcome ≡ o → is_death o ≡ false
      dead_once dead RtTurn.Go is_it = refl
      dead_once dead (RtTurn.Leave exit) is_it = refl
      dead_once dead (RtTurn.Faulted t) is_it = refl
      dead_once dead (RtTurn.Dead cause) is_it =
          absurd (once layout image past control turns old new lp outcome s.regs (old.processors lp.0).regs dead cause is_it its_context
          (case_of layout fit has_room lp old new outcome s image past control turns within h 0 place is e)
          ((contract layout fit has_room lp old new outcome s image past control turns within h 0).works e).1)

      pub worked_notes : StepNotes layout runs past control its_context turns outcome
      worked_notes =
          let shown = (contract layout fit has_room lp old new outcome s image past control turns within h 0).works e in
          let left = s.works e past h.tables in
          record {
            refusal = subst (λ o. NotesRefusal o outcome)
                (sym (none_refused layout past lp.0 control its_context its_step its_now s.holds s.granted (seen layout fit has_room lp old new outcome s image past control turns within h 0).found shown.0))
                (not_faulted lp.0 outcome s.regs old new left.ends);
            once = λ dead. dead_once dead outcome refl;
            its_break = names outcome refl;
          }

    -- one was refused
    module _ (t : Access) (e : s.refused ≡ Some t) where
      pub refused_notes : StepNotes layout runs past control its_context turns outcome
      refused_notes =
          let shown = (contract layout fit has_room lp old new outcome s image past control turns within h 0).faults t e in
          let more = shown.0 in
          let sees = seen layout fit has_room lp old new outcome s image past control turns within h 0 in
          subst (StepNotes layout runs past control its_context turns) (sym shown.3)
          (record {
            refusal = subst (λ o. NotesRefusal o (RtTurn.Faulted t))
                (sym (one_refused layout past lp.0 control its_context its_step its_now s.holds s.granted more.0 t sees.found (subst (IsLost layout past) e sees.lost) more.1)) refl;
            once = λ dead. refl;
            its_break = tt;
          })

    by_refused : (o : Option Access) → s.refused ≡ o → StepNotes layout runs past control its_context turns outcome
    by_refused None e = worked_notes e
    by_refused (Some t) e = refused_notes t e

  by_place : (o : Option ℕ) → since past lp.0 ≡ o → StepNotes layout runs past control its_context turns outcome
  by_place None e = absurd (let f : inside past lp.0 ≡ false = ap is_some e in let clash : true ≡ false = sym within ∙ f in cc)
  by_place (Some place) e = by_refused place e s.refused refl

  -- as it is said of the context inside
  of_step : (context : Context) → IsStep context → StepNotes layout runs past control context turns outcome → TurnNotes layout runs lp.0 past control turns None None outcome (Some context)
  of_step Program step notes = absurd step
  of_step (Enter k v) step notes = (refl, notes)
  of_step (Probe i) step notes = (refl, notes)
  of_step Finish step notes = (refl, notes)
  of_step Guard step notes = (refl, notes)
  of_step (Leave b a) step notes = (refl, notes)

  pub step_told : TurnNotes layout runs lp.0 past control turns None None outcome control.now
  step_told =
      subst (TurnNotes layout runs lp.0 past control turns None None outcome) (sym its_now) (of_step its_context its_step (by_place (since past lp.0) refl))

-- a turn in the runtime's mode, for each valid layout
pub step_tells : (layout : Layout) → IsValid layout → (lp : Lp) (old new : State) (outcome : RtTurn) → ShowsStep layout lp.0 old new outcome →
    TellsTurn layout lp.0 old None None outcome
step_tells layout valid lp old new outcome s image past control turns within h =
    step_told layout (clusters_fit layout valid) (room layout valid) lp old new outcome s image past control turns within h

-- ---- A step that leaves

-- an exit tells no more than going on
module _ (layout : Layout) (runs : FlatRuns) (past : History) (control : Control) (context : Context) (turns : List ProgramTurn) (exit : Exit) where
  no_refusal : (o : Option Access) → NotesRefusal o (RtTurn.Leave exit) → NotesRefusal o RtTurn.Go
  no_refusal None none = refl
  no_refusal (Some t) e = absurd (cc)

  left_notes : StepNotes layout runs past control context turns (RtTurn.Leave exit) → StepNotes layout runs past control context turns RtTurn.Go
  left_notes notes = record { refusal = no_refusal (first_fault layout past (accesses layout control context)) notes.refusal; once = λ dead. refl; its_break = tt }

pub left_tells : (layout : Layout) (lp : ℕ) (old : State) (exit : Exit) → TellsTurn layout lp old None None (RtTurn.Leave exit) → TellsTurn layout lp old None None RtTurn.Go
left_tells layout lp old exit tells image past control turns within h = by_now control.now (tells image past control turns within h)
  where
    by_now : (now : Option Context) → TurnNotes layout (runs_at layout image control) lp past control turns None None (RtTurn.Leave exit) now →
        TurnNotes layout (runs_at layout image control) lp past control turns None None RtTurn.Go now
    by_now None notes = (refl, refl)
    by_now (Some Program) notes = (notes.0, refl)
    by_now (Some (Enter k v)) notes = (refl, left_notes layout (runs_at layout image control) past control (Enter k v) turns exit notes.1)
    by_now (Some (Probe i)) notes = (refl, left_notes layout (runs_at layout image control) past control (Probe i) turns exit notes.1)
    by_now (Some Finish) notes = (refl, left_notes layout (runs_at layout image control) past control Finish turns exit notes.1)
    by_now (Some Guard) notes = (refl, left_notes layout (runs_at layout image control) past control Guard turns exit notes.1)
    by_now (Some (Leave b a)) notes = (refl, left_notes layout (runs_at layout image control) past control (Leave b a) turns exit notes.1)
