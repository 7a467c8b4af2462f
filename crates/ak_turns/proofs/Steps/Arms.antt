-- What each end of a step comes to, as the contract of the runtime's turn has it.
use Rattle.std.proofs.Common.{◌≡◌, ℕ, ◌≤◌, true, false, List, [], ◌==◌, refl, ap, sym, ◌∙◌, subst}
use Rattle.std.specs.Prelude.{Some, None}
use Rattle.ak_core.specs.Layout.{Layout}
use Rattle.ak_core.specs.Mem.{Access}
use Rattle.ak_core.specs.declared.event.StopCause.{StopCause}
use Rattle.ak_core.specs.declared.page.Entry.{Entry}
use Rattle.ak_core.specs.declared.moves.Exit.{Exit}
use Rattle.ak_epcm.specs.Entries.{entry_at, is_of_page}
use Rattle.ak_pte.specs.declared.table.Pte.{Pte}
use Rattle.ak_pager.specs.declared.turn.RtTurn.{RtTurn}
use Rattle.ak_ssa.specs.SavedFrames.{ByPage, why_of}
use Rattle.ak_ssa.specs.SavedRegisters.{AreRegs}
use Rattle.ak_ssa.specs.declared.cause.Why.{Why}
use Rattle.ak_tlb.specs.declared.translation.Translation.{Translation}
use Rattle.ak_track.specs.Steps.{LeavesBy}
use Rattle.ak_relation.specs.Premises.Works.{Ends, exit_of}
use Rattle.ak_relation.proofs.Runtime.ToldSteps.{left_tells}
use Rattle.ak_relation.specs.Relation.Causes.{NamesCause}
use Rattle.ak_relation.specs.Relation.Tells.{TellsTurn}
use Rattle.ak_relation.specs.State.MachineState.{State}
use Rattle.ak_encls.specs.Enclave.{Enclave, frame_at}
use Rattle.ak_enclu.specs.Passing.{outside_now, ExitsTo, Steps}
use Rattle.ak_enclu.specs.TcsBytes.{saved_of}
use Rattle.ak_enclu.specs.declared.cpu.Cpu.{Cpu}
use Rattle.ak_memory.specs.declared.memory.Memory.{Memory}
use Rattle.ak_turns.specs.Running.{IsRunning, Runs, TurnsTo, outcome_of}
use Rattle.ak_turns.specs.Stepping.{HasStepped}
use Rattle.ak_turns.specs.declared.notes.ProgramNote.{ProgramNote}
use Rattle.ak_turns.specs.declared.notes.RuntimeNote.{RuntimeNote}
use Rattle.ak_turns.proofs.Steps.OwnMachine.{OwnFrames, own_frames, few_saved_here}
use Rattle.ak_turns.proofs.Steps.RuntimeTurns.{StepTurns, same_frames, turn_goes, turn_quits, turn_faults}
use Rattle.ak_turns.proofs.Steps.StepTold.{turned_to}

-- what an asynchronous exit does, whatever is cached
recached : (cpu : Cpu) (cached : List Translation) (why : Why) (old new : Enclave) → ExitsTo cpu why old new → ExitsTo (record cpu { tlb = cached }) why old new
recached cpu cached why old new to = record {
  apart = to.apart;
  area = to.area;
  below = to.below;
  whole = to.whole;
  tcs = to.tcs;
  others = to.others;
  rest = to.rest;
  track = λ lps marks holds. to.track lps marks holds;
}

-- what an asynchronous exit asks of a processor and the enclave
pub record MayBeSaved (cpu : Cpu) (encls : Enclave) : Type 0 where
  pub tcs : is_of_page (entry_at encls.entries cpu.tcs.0) ≡ true
  pub area : is_of_page (entry_at encls.entries cpu.ssa.0) ≡ true
  pub apart : (cpu.tcs.0 == cpu.ssa.0) ≡ false
  pub saved : saved_of (frame_at encls.frames cpu.tcs.0) ≤ 2

-- a processor whose step was refused an access may be saved
pub may_be_saved : (layout : Layout) (cpu : Cpu) (memory : Memory) (r : Runs layout cpu memory) (after : Cpu) (mid : Memory) (outcome : RtTurn) →
    (s : HasStepped layout (record cpu { tlb = memory.tlb }) memory.table memory.encls mid.encls outcome after.regs) → after ≡ record cpu { regs = after.regs } →
    (t : Access) → outcome ≡ RtTurn.Faulted t → MayBeSaved after mid.encls
may_be_saved layout cpu memory r after mid outcome s cpu_is t e =
    let own : OwnFrames cpu memory.encls = own_frames layout cpu memory r in
    let entries : mid.encls.entries ≡ memory.encls.entries = ap (λ (x : Enclave). x.entries) s.rest in
    let same = same_frames layout cpu memory r mid.encls outcome after.regs s r.state r.machine t e cpu.tcs.0 in
    let few = few_saved_here layout cpu memory r in
    subst (λ (c : Cpu). MayBeSaved c mid.encls) (sym cpu_is)
    (record {
      tcs = ap (λ (x : List Entry). is_of_page (entry_at x cpu.tcs.0)) entries ∙ own.tcs;
      area = ap (λ (x : List Entry). is_of_page (entry_at x cpu.ssa.0)) entries ∙ own.area;
      apart = own.apart;
      saved = subst (λ (bytes : List ℕ). saved_of bytes ≤ 2) (sym same) few;
    })

module _ (layout : Layout) (cpu : Cpu) (memory : Memory) (r : Runs layout cpu memory) (after : Cpu) (mid : Memory) (outcome : RtTurn)
    (s : HasStepped layout (record cpu { tlb = memory.tlb }) memory.table memory.encls mid.encls outcome after.regs) (cpu_is : after ≡ record cpu { regs = after.regs }) (table : mid.table ≡ memory.table)
    (tlb : mid.tlb ≡ memory.tlb) (state : State) (m : IsRunning layout cpu memory state) where
  -- the processor goes on
  pub arm_goes : outcome ≡ RtTurn.Go → TurnsTo layout cpu.lp.0 state (record { exit = None; completed = false; program = ProgramNote.Plain; runtime = RuntimeNote.Quiet }) after mid
  arm_goes e =
      let t : StepTurns layout cpu.lp.0 state RtTurn.Go (record cpu { tlb = memory.tlb; regs = after.regs }) memory.table mid.encls =
      subst (λ o. StepTurns layout cpu.lp.0 state o (record cpu { tlb = memory.tlb; regs = after.regs }) memory.table mid.encls) e
      (turn_goes layout cpu memory r mid.encls outcome after.regs s state m e) in
      turned_to layout cpu.lp.0 state RtTurn.Go after mid None RuntimeNote.Quiet
      (subst (λ (c : Cpu). StepTurns layout cpu.lp.0 state RtTurn.Go (record c { tlb = mid.tlb }) mid.table mid.encls) (sym cpu_is)
      (subst (λ (entries : List Pte). StepTurns layout cpu.lp.0 state RtTurn.Go (record cpu { regs = after.regs; tlb = mid.tlb }) entries mid.encls) (sym table)
      (subst (λ (cached : List Translation). StepTurns layout cpu.lp.0 state RtTurn.Go (record cpu { regs = after.regs; tlb = cached }) memory.table mid.encls) (sym tlb) t)))
      refl (λ new named. named) (λ tells. tells)

  module _ (left : Cpu) (new : Memory) (is : left ≡ outside_now after) (mapped : new.table ≡ mid.table) (flushed : new.tlb ≡ []) where
    -- the processor outside, as it was before but for its registers
    gone : left ≡ outside_now (record cpu { regs = after.regs })
    gone = is ∙ ap outside_now cpu_is

    -- it has left
    told_left : (o : RtTurn) (exit : Exit) (note : RuntimeNote) → StepTurns layout cpu.lp.0 state o (outside_now (record cpu { tlb = memory.tlb; regs = after.regs })) memory.table new.encls →
        Some exit ≡ exit_of layout o → ((end : State) → NamesCause layout cpu.lp.0 state end (exit_of layout o) None o → NamesCause layout cpu.lp.0 state end (exit_of layout o) None (outcome_of note)) →
        (TellsTurn layout cpu.lp.0 state None None o → TellsTurn layout cpu.lp.0 state None None (outcome_of note)) →
        TurnsTo layout cpu.lp.0 state (record { exit = Some exit; completed = false; program = ProgramNote.Plain; runtime = note }) left new
    told_left o exit note t e named tells =
        turned_to layout cpu.lp.0 state o left new (Some exit) note
        (subst (λ (c : Cpu). StepTurns layout cpu.lp.0 state o (record c { tlb = new.tlb }) new.table new.encls) (sym gone)
        (subst (λ (entries : List Pte). StepTurns layout cpu.lp.0 state o (record (outside_now (record cpu { regs = after.regs })) { tlb = new.tlb }) entries new.encls) (sym (mapped ∙ table))
        (subst (λ (cached : List Translation). StepTurns layout cpu.lp.0 state o (record (outside_now (record cpu { regs = after.regs })) { tlb = cached }) memory.table new.encls) (sym flushed) t)))
        e named tells

    module _ (rest : new.encls ≡ record mid.encls { track = new.encls.track }) (steps : Steps mid.encls new.encls (LeavesBy after.lp.0)) where
      same_steps : Steps mid.encls new.encls (LeavesBy cpu.lp.0)
      same_steps = subst (λ (c : Cpu). Steps mid.encls new.encls (LeavesBy c.lp.0)) cpu_is (λ lps marks holds. steps lps marks holds)

      -- by an exit that the kernel is shown
      pub arm_leaves : (exit : Exit) → outcome ≡ RtTurn.Leave exit → TurnsTo layout cpu.lp.0 state (record { exit = Some exit; completed = false; program = ProgramNote.Plain; runtime = RuntimeNote.Quiet }) left new
      arm_leaves exit e =
          told_left (RtTurn.Leave exit) exit RuntimeNote.Quiet
          (subst (λ o. StepTurns layout cpu.lp.0 state o (outside_now (record cpu { tlb = memory.tlb; regs = after.regs })) memory.table new.encls) e
          (turn_quits layout cpu memory r mid.encls outcome after.regs s state m new.encls rest (λ lps marks holds. same_steps lps marks holds)
          (λ end quits. subst (λ o. Ends cpu.lp.0 o after.regs state end) (sym e) quits)
          (λ t f. absurd (let clash : RtTurn.Leave exit ≡ RtTurn.Faulted t = sym e ∙ f in cc))))
          refl (λ end named. named) (left_tells layout cpu.lp.0 state exit)

      -- by a death
      pub arm_dies : (cause : StopCause) → outcome ≡ RtTurn.Dead cause → TurnsTo layout cpu.lp.0 state (record { exit = Some Exit.Stopped; completed = false; program = ProgramNote.Plain; runtime = RuntimeNote.Dead cause }) left new
      arm_dies cause e =
          told_left (RtTurn.Dead cause) Exit.Stopped (RuntimeNote.Dead cause)
          (subst (λ o. StepTurns layout cpu.lp.0 state o (outside_now (record cpu { tlb = memory.tlb; regs = after.regs })) memory.table new.encls) e
          (turn_quits layout cpu memory r mid.encls outcome after.regs s state m new.encls rest (λ lps marks holds. same_steps lps marks holds)
          (λ end quits. subst (λ o. Ends cpu.lp.0 o after.regs state end) (sym e) quits)
          (λ t f. absurd (let clash : RtTurn.Dead cause ≡ RtTurn.Faulted t = sym e ∙ f in cc))))
          refl (λ end named. named) (λ tells. tells)

    -- or it was saved at a refused access
    pub arm_faults : (t : Access) (why : Why) (shown : Exit) → outcome ≡ RtTurn.Faulted t → why ≡ why_of layout (ByPage t) → shown ≡ Exit.Pf layout.base 4 → ExitsTo after why mid.encls new.encls → AreRegs after.regs →
        TurnsTo layout cpu.lp.0 state (record { exit = Some shown; completed = false; program = ProgramNote.Plain; runtime = RuntimeNote.Faulted t }) left new
    arm_faults t why shown e noted shown_is to words =
        let to_here : ExitsTo (record cpu { regs = after.regs }) (why_of layout (ByPage t)) mid.encls new.encls =
        subst (λ (w : Why). ExitsTo (record cpu { regs = after.regs }) w mid.encls new.encls) noted (subst (λ (c : Cpu). ExitsTo c why mid.encls new.encls) cpu_is to) in
        told_left (RtTurn.Faulted t) shown (RuntimeNote.Faulted t)
        (subst (λ o. StepTurns layout cpu.lp.0 state o (outside_now (record cpu { tlb = memory.tlb; regs = after.regs })) memory.table new.encls) e
        (turn_faults layout cpu memory r mid.encls outcome after.regs s state m t e new.encls
        (recached (record cpu { regs = after.regs }) memory.tlb (why_of layout (ByPage t)) mid.encls new.encls to_here) words))
        (ap Some shown_is) (λ end named. named) (λ tells. tells)
