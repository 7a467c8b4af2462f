-- A step of the runtime as a turn: what the machine shows of it.
use Rattle.std.proofs.Common.{◌≡◌, ℕ, Bool, true, false, List, [], ap, sym, ◌∙◌, subst}
use Rattle.std.specs.Prelude.{Option, Some, None}
use Rattle.ak_core.specs.Layout.{Layout}
use Rattle.ak_core.specs.Mem.{Access}
use Rattle.ak_core.specs.declared.registers.Mode.{Mode}
use Rattle.ak_core.specs.declared.registers.Regs.{Regs}
use Rattle.ak_model.specs.Control.ControlState.{Context, Control}
use Rattle.ak_model.specs.Flat.FlatRuns.{Flat}
use Rattle.ak_model.specs.Paging.Histories.{History}
use Rattle.ak_pte.specs.declared.table.Pte.{Pte}
use Rattle.ak_pager.specs.StepsTo.{memory_of, MayStep, StepsTo}
use Rattle.ak_pager.specs.declared.turn.RtTurn.{RtTurn}
use Rattle.ak_ssa.specs.SavedFrames.{ByPage}
use Rattle.ak_track.specs.Steps.{TrackStep}
use Rattle.ak_relation.specs.Bytes.Pages.{IsTcs}
use Rattle.ak_relation.specs.Premises.Saving.{Saves}
use Rattle.ak_relation.specs.Premises.Shows.{MemorySees, ShowsStep}
use Rattle.ak_relation.specs.Premises.Works.{Ends}
use Rattle.ak_relation.specs.State.MachineState.{Processor, State}
use Rattle.ak_relation.specs.State.Tables.{TablesStand}
use Rattle.ak_encls.specs.Enclave.{Enclave, frame_at}
use Rattle.ak_enclu.specs.Machines.{IsMachine}
use Rattle.ak_enclu.specs.declared.cpu.Cpu.{Cpu}
use Rattle.ak_memory.specs.Granting.{is_seen}
use Rattle.ak_turns.specs.Stepping.{StepDone}
use Rattle.ak_turns.proofs.Steps.WrittenFrames.{changed, memory_sees, writes, tables_kept}

module _ (layout : Layout) (cpu : Cpu) (table : List Pte) (encls : Enclave) (state : State) (m : IsMachine layout cpu table encls state)
    (new : List (List ℕ)) (before after : ℕ → List ℕ) (granted : List Access) (refused : Option Access) (outcome : RtTurn) (regs : Regs)
    (d : StepDone layout cpu table encls new before after granted refused outcome regs) where
  abbrev holds : ℕ → Bool
  holds p = is_seen encls.entries table [] p

  runtime_mode : (state.processors cpu.lp.0).regs.mode ≡ Mode.Runtime
  runtime_mode = ap (λ (r : Regs). r.mode) m.processor.regs ∙ d.mode

  steps : (control : Control) (context : Context) (flat : Flat) → MayStep layout control context flat (state.processors cpu.lp.0).regs (memory_of holds before) →
      StepsTo layout control context (state.processors cpu.lp.0).regs before after granted refused outcome regs
  steps control context flat =
      subst (λ (r : Regs). MayStep layout control context flat r (memory_of holds before) → StepsTo layout control context r before after granted refused outcome regs)
      (sym m.processor.regs) (d.steps control context flat)

  sees : (past : History) → TablesStand layout past state → MemorySees layout past holds before granted refused state
  sees past h = memory_sees layout past cpu table encls state h m new before after d.memory granted refused d.found d.lost

  -- no access was refused: the processor goes on, or has left
  pub shows_done : ((p : ℕ) → holds p ≡ false → after p ≡ before p) → (processors : ℕ → Processor) (track : List TrackStep) → Ends cpu.lp.0 outcome regs state (changed state processors track (frame_at new)) → ((t : Access) → refused ≡ Some t → ⊥) →
      ShowsStep layout cpu.lp.0 state (changed state processors track (frame_at new)) outcome
  shows_done unseen processors track ends never = record {
    mode = runtime_mode;
    holds = holds;
    before = before;
    after = after;
    granted = granted;
    refused = refused;
    regs = regs;
    steps = steps;
    sees = sees;
    works = λ none past h. record {
      writes = writes layout past cpu table encls state h m new before after d.memory unseen processors track;
      kept = tables_kept layout past cpu table encls state h m new before after d.memory unseen processors track;
      ends = ends;
    };
    faults = λ t e saved pending says. absurd (never t e);
  }

  inner : (x y : Access) → Some x ≡ Some y → x ≡ y
  inner x y e = cc

  -- one was: the processor was saved
  pub shows_refused : (end : State) (t : Access) (n : ℕ) (flag : Bool) → refused ≡ Some t → IsTcs n flag (state.frames (state.processors cpu.lp.0).tcs) →
      Saves layout cpu.lp.0 n true (ByPage t) state end → ShowsStep layout cpu.lp.0 state end outcome
  shows_refused end t n flag e told saves = record {
    mode = runtime_mode;
    holds = holds;
    before = before;
    after = after;
    granted = granted;
    refused = refused;
    regs = regs;
    steps = steps;
    sees = sees;
    works = λ none past h. absurd (let clash : None ≡ Some t = sym none ∙ e in cc);
    faults = λ u is saved pending says.
        let same : t ≡ u = inner t u (sym e ∙ is) in
        let count : n ≡ saved = sym told.saved_is ∙ says.saved_is in
        subst (λ (x : Access). Saves layout cpu.lp.0 saved true (ByPage x) state end) same
        (subst (λ (k : ℕ). Saves layout cpu.lp.0 k true (ByPage t) state end) count saves);
  }
