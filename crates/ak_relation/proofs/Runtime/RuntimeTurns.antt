-- Every step of the runtime as a turn of the machine: its row where all accesses are found, and else the fault.
use Rattle.std.proofs.Common.{◌≡◌, ℕ, List, length, refl, ap, sym, ◌∙◌, subst}
use Rattle.std.specs.Prelude.{true, false, Option, Some, None, is_some}
use Rattle.ak_core.specs.Layout.{Layout}
use Rattle.ak_core.specs.Mem.{Access}
use Rattle.ak_core.specs.declared.page.Lp.{Lp}
use Rattle.ak_model.specs.Paging.Pages.{tcs_page}
use Rattle.ak_model.specs.Paging.Histories.{History}
use Rattle.ak_model.specs.Paging.Inside.{since, inside}
use Rattle.ak_model.specs.Control.ControlState.{Control}
use Rattle.ak_model.specs.Control.RuntimeTurn.{shown_fault}
use Rattle.ak_model.specs.Tapes.ProgramTurns.{ProgramTurn}
use Rattle.ak_model.proofs.Control.OrderlySteps.{ClustersFit}
use Rattle.ak_ssa.specs.FramesFit.{HasRoom}
use Rattle.ak_relation.specs.State.MachineState.{State, copy}
use Rattle.ak_pager.specs.RuntimePages.{OfCopy}
use Rattle.ak_relation.specs.Bytes.Pages.{IsTcs}
use Rattle.ak_relation.specs.Program.Reaching.{StaysBy, IsStaying}
use Rattle.ak_relation.specs.Relation.Stands.{runs_at, Stands}
use Rattle.ak_pager.specs.StepsTo.{StepsTo}
use Rattle.ak_pager.specs.declared.turn.RtTurn.{RtTurn}
use Rattle.ak_relation.specs.Premises.Works.{IsLost, exit_of, CauseIs}
use Rattle.ak_relation.specs.Premises.Shows.{MemorySees, ShowsStep}
use Rattle.ak_relation.specs.Relation.Does.{TurnFollows, past_after, at_moment, GoesTo, IsTurn}
use Rattle.ak_relation.proofs.Runtime.Allowed.{AtStep, at_step, gives, may_step}
use Rattle.ak_relation.proofs.Runtime.StepTurns.{faults}
use Rattle.ak_relation.proofs.Runtime.Faulted.{faulted, keeps, faulted_stands}
use Rattle.ak_relation.proofs.Runtime.RowTurns.{goes_there}
use Rattle.ak_relation.proofs.Runtime.Cases.{Case}
use Rattle.ak_relation.proofs.Runtime.StepCases.{steps}

module _ (layout : Layout) (fit : ClustersFit layout) (room : HasRoom layout) (lp : Lp) (old new : State) (outcome : RtTurn) (s : ShowsStep layout lp.0 old new outcome) where
  module _ (image : List ℕ) (past : History) (control : Control) (turns : List ProgramTurn) (within : inside past lp.0 ≡ true) (h : Stands layout image (at_moment past control turns old)) (all : ℕ) where
    -- what the turn comes to
    abbrev pub Done : Type 0
    Done = (g : GoesTo layout image (TurnFollows layout lp.0 past (exit_of layout outcome)) (at_moment past control turns old) (past_after past lp.0 all (exit_of layout outcome)) new None)
        × CauseIs control outcome g.control.cause

    pub seen : MemorySees layout past s.holds s.before s.granted s.refused old
    seen = s.sees past h.tables

    pub at : AtStep control.now
    at = at_step layout image past control turns old h lp.0 within s.holds s.before seen.memory s.mode

    pub contract : StepsTo layout control at.context (old.processors lp.0).regs s.before s.after s.granted s.refused outcome s.regs
    contract = s.steps control at.context h.bytes.flat (may_step layout image past control turns old h lp.0 within s.holds s.before seen.memory at.context at.step at.is)

    module _ (place : ℕ) (is : since past lp.0 ≡ Some place) where
      stay : IsStaying layout (runs_at layout image control) past control turns lp.0 (old.processors lp.0) place
      stay = subst (StaysBy layout (runs_at layout image control) past control turns lp.0 (old.processors lp.0)) is (h.reached.stays lp.0)

      tcs : IsTcs (length control.stack) control.pending (old.frames (old.processors lp.0).tcs)
      tcs = subst (λ o. OfCopy o (IsTcs (length control.stack) control.pending)) (ap (copy old) (h.tables.one_copy.placed (tcs_page layout) (old.processors lp.0).tcs stay.tcs.frame.holds)) h.bytes.pages.tcs

      -- all accesses were found
      abbrev pub case_of : s.refused ≡ None → Case layout image past control turns old new lp at.context outcome s.regs
      case_of e =
          let shown = contract.works e in let left = s.works e past h.tables in
          record {
            fit = fit;
            room = room;
            place = place;
            h = h;
            is = is;
            step = at.step;
            now = at.is;
            holds = s.holds;
            before = s.before;
            after = s.after;
            granted = s.granted;
            found = seen.found;
            accessed = shown.0;
            writes = left.writes;
            kept = left.kept;
            ends = left.ends;
          }

      worked : s.refused ≡ None → Done
      worked e =
          let shown = contract.works e in
          steps layout image past control turns old new lp outcome s.regs (old.processors lp.0).regs all at.context (case_of e)
          (gives layout image past control turns old h lp.0 within s.holds s.before seen.memory at.context at.step at.is) shown.1

      -- one was refused
      refused : (t : Access) → s.refused ≡ Some t → Done
      refused t e =
          let shown = contract.faults t e in let more = shown.0 in
          let lost = subst (IsLost layout past) e seen.lost in
          let turned = faults layout past lp.0 control at.context at.step at.is s.holds s.granted more.0 t seen.found lost more.1 in
          let saves = s.faults t e (length control.stack) control.pending tcs in
          let stands = faulted_stands layout fit image past control turns old new lp place all at.context h is at.step at.is t (turned control.rest) saves s.mode in
          let kept = keeps layout fit image past control turns old new lp place all at.context h is at.step at.is t (turned control.rest) saves s.mode in
          subst (λ o. (g : GoesTo layout image (TurnFollows layout lp.0 past (exit_of layout o)) (at_moment past control turns old) (past_after past lp.0 all (exit_of layout o)) new None) × CauseIs control o g.control.cause) (sym shown.3)
          (goes_there layout fit image past control turns old new lp place all at.context h is at.step at.is (faulted control at.context t) kept (Some (shown_fault layout)) turned stands)

      by_refused : (o : Option Access) → s.refused ≡ o → Done
      by_refused None e = worked e
      by_refused (Some t) e = refused t e

    -- the turn, and the cause after it
    pub by_place : (o : Option ℕ) → since past lp.0 ≡ o → Done
    by_place None e = absurd (let f : inside past lp.0 ≡ false = ap is_some e in let clash : true ≡ false = sym within ∙ f in cc)
    by_place (Some place) e = by_refused place e s.refused refl

  -- a turn in the runtime's mode
  pub runtime_turns : IsTurn layout lp.0 old new (exit_of layout outcome) None
  runtime_turns image past control turns within h all = let done = by_place image past control turns within h all (since past lp.0) refl in done.0
