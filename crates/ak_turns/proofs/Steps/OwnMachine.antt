-- What is known of a processor and its memory where some machine of theirs stands at a moment of a trace: the frames that the processor
-- holds, that frames are whole, and that a step of the runtime is defined.
use Rattle.std.proofs.Common.{◌≡◌, ℕ, ◌≤◌, Bool, true, false, List, [], length, refl, ap, sym, ◌∙◌, subst, ◌==◌, arith}
use Rattle.ak_core.specs.Layout.{Layout, IsValid}
use Rattle.ak_core.specs.declared.page.Entry.{Entry}
use Rattle.ak_core.specs.declared.registers.Mode.{Mode}
use Rattle.ak_core.specs.declared.registers.Regs.{Regs}
use Rattle.ak_model.specs.Paging.Pages.{tcs_page, ssa_page}
use Rattle.ak_epcm.proofs.PageFrames.{has_page_of_page}
use Rattle.ak_epcm.specs.Entries.{entry_at, has_page, is_of_page}
use Rattle.ak_pager.specs.Effects.{SomeStep}
use Rattle.ak_pager.specs.StepsTo.{memory_of, MayStep}
use Rattle.ak_relation.proofs.Exits.HeldFrames.{holds_frames}
use Rattle.ak_relation.proofs.Runtime.Allowed.{AtStep, at_step, may_step}
use Rattle.ak_relation.specs.Bytes.Pages.{IsTcs}
use Rattle.ak_relation.specs.Premises.Works.{IsMemory}
use Rattle.ak_relation.specs.Relation.HeldFrames.{HoldsFrames}
use Rattle.ak_encls.specs.Enclave.{Enclave, frame_at}
use Rattle.ak_enclu.specs.TcsBytes.{saved_of}
use Rattle.ak_enclu.specs.declared.cpu.Cpu.{Cpu}
use Rattle.ak_memory.specs.Granting.{is_seen}
use Rattle.ak_memory.specs.declared.memory.Memory.{Memory}
use Rattle.ak_turns.specs.Running.{Runs}
use Rattle.ak_turns.specs.Stepping.{IsStepMemory}
use Rattle.ak_turns.proofs.Steps.WrittenFrames.{memory as seen_memory}

-- the processor holds the frames of a TCS and of an area, which are two; the TCS says that so many contexts are saved, at most two
pub record OwnFrames (cpu : Cpu) (encls : Enclave) : Type 0 where
  pub saved : ℕ
  pub tcs : is_of_page (entry_at encls.entries cpu.tcs.0) ≡ true
  pub area : is_of_page (entry_at encls.entries cpu.ssa.0) ≡ true
  pub apart : (cpu.tcs.0 == cpu.ssa.0) ≡ false
  pub few : saved ≤ 2
  pub says : IsTcs saved false (frame_at encls.frames cpu.tcs.0)

module _ (layout : Layout) (cpu : Cpu) (memory : Memory) (r : Runs layout cpu memory) where
  -- the layout is valid
  pub valid : IsValid layout
  valid = r.stands.inputs.valid

  -- each frame is whole
  pub frames_whole : (f : ℕ) → length (frame_at memory.encls.frames f) ≡ 4096
  frames_whole f = ap length (sym (r.machine.paging.frames f)) ∙ r.stands.tables.frames.whole f

  has_page_here : (f g p : ℕ) → f ≡ g → has_page (entry_at r.state.entries f) p ≡ true → is_of_page (entry_at memory.encls.entries g) ≡ true
  has_page_here f g p same has =
      has_page_of_page (entry_at memory.encls.entries g) p
      (subst (λ (h : ℕ). has_page (entry_at memory.encls.entries h) p ≡ true) same (subst (λ (entries : List Entry). has_page (entry_at entries f) p ≡ true) r.machine.paging.entries has))

  -- the frames that the processor holds
  pub own_frames : OwnFrames cpu memory.encls
  own_frames =
      let h : HoldsFrames layout (length r.control.stack) r.state.entries r.state.frames (r.state.processors cpu.lp.0) =
      holds_frames layout r.image r.past r.control r.turns r.state r.stands cpu.lp.0 r.within in
      let tcs : (r.state.processors cpu.lp.0).tcs ≡ cpu.tcs.0 = r.machine.processor.tcs in
      let ssa : (r.state.processors cpu.lp.0).ssa ≡ cpu.ssa.0 = r.machine.processor.ssa in
      record {
        saved = length r.control.stack;
        tcs = has_page_here (r.state.processors cpu.lp.0).tcs cpu.tcs.0 (tcs_page layout) tcs h.tcs;
        area = has_page_here (r.state.processors cpu.lp.0).ssa cpu.ssa.0 (ssa_page layout (length r.control.stack)) ssa h.area;
        apart = ap (λ f. f == cpu.ssa.0) (sym tcs) ∙ ap (λ f. (r.state.processors cpu.lp.0).tcs == f) (sym ssa) ∙ h.apart;
        few = h.few;
        says = subst (IsTcs (length r.control.stack) false) (ap r.state.frames tcs ∙ r.machine.paging.frames cpu.tcs.0) h.says;
      }

  -- so the TCS says that two are saved at most
  pub few_saved_here : saved_of (frame_at memory.encls.frames cpu.tcs.0) ≤ 2
  few_saved_here =
      let own = own_frames in
      let told : saved_of (frame_at memory.encls.frames cpu.tcs.0) ≡ own.saved = own.says.saved_is in
      let few : own.saved ≤ 2 = own.few in omega arith

  module _ (bytes : ℕ → List ℕ) (bytes_are : (f p : ℕ) → has_page (entry_at memory.encls.entries f) p ≡ true → bytes p ≡ frame_at memory.encls.frames f) (mode : cpu.regs.mode ≡ Mode.Runtime) where
    abbrev holds : ℕ → Bool
    holds p = is_seen memory.encls.entries memory.table [] p

    idle : IsStepMemory memory.encls.entries memory.encls.frames memory.encls.frames bytes bytes
    idle = record { before_is = bytes_are; after_is = bytes_are; others = λ f away. refl; whole = frames_whole }

    sees : IsMemory layout r.past r.state holds bytes
    sees = seen_memory layout r.past (record cpu { tlb = memory.tlb }) memory.table memory.encls r.state r.stands.tables r.machine memory.encls.frames bytes bytes idle

    its_mode : (r.state.processors cpu.lp.0).regs.mode ≡ Mode.Runtime
    its_mode = ap (λ (regs : Regs). regs.mode) r.machine.processor.regs ∙ mode

    -- the context inside is a step of the runtime
    pub at : AtStep r.control.now
    at = at_step layout r.image r.past r.control r.turns r.state r.stands cpu.lp.0 r.within holds bytes sees its_mode

    -- which is defined
    pub may : MayStep layout r.control at.context r.stands.bytes.flat cpu.regs (memory_of holds bytes)
    may = subst (λ (regs : Regs). MayStep layout r.control at.context r.stands.bytes.flat regs (memory_of holds bytes)) r.machine.processor.regs
        (may_step layout r.image r.past r.control r.turns r.state r.stands cpu.lp.0 r.within holds bytes sees at.context at.step at.is)

    pub some_step : SomeStep layout cpu.regs holds bytes
    some_step = (r.control, at.context, r.stands.bytes.flat, may)
