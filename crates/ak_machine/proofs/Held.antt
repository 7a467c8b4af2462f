-- What the moment at which a machine stands says of its frames: the TCS has few saved contexts, and a processor that is inside holds
-- frames of pages.
use Rattle.std.proofs.Common.{◌≡◌, ℕ, ◌≤◌, true, false, List, length, ap, sym, ◌∙◌, subst, ◌==◌, arith}
use Rattle.std.specs.Prelude.{Option, Some, slice_get}
use Rattle.ak_core.specs.declared.page.Entry.{Entry}
use Rattle.ak_core.specs.declared.page.Lp.{Lp}
use Rattle.ak_epcm.proofs.PageFrames.{has_page_of_page}
use Rattle.ak_epcm.specs.Entries.{entry_at, has_page, is_of_page}
use Rattle.ak_model.specs.Flat.Instructions.{number_at}
use Rattle.ak_model.specs.Paging.Pages.{tcs_page, ssa_page}
use Rattle.ak_relation.proofs.Exits.HeldFrames.{has_frame, holds_frames, three_saved}
use Rattle.ak_relation.specs.Bytes.Pages.{IsTcs}
use Rattle.ak_relation.specs.Relation.HeldFrames.{HoldsFrames}
use Rattle.ak_pager.specs.RuntimePages.{OfCopy}
use Rattle.ak_relation.specs.State.MachineState.{State, copy}
use Rattle.ak_relation.specs.State.Tables.{FramesStand}
use Rattle.ak_encls.specs.Enclave.{frame_at}
use Rattle.ak_enclu.specs.Machines.{IsMachine}
use Rattle.ak_enclu.specs.Passing.{HasFewSaved}
use Rattle.ak_enclu.specs.TcsBytes.{saved_of}
use Rattle.ak_enclu.specs.declared.cpu.Cpu.{Cpu}
use Rattle.ak_machine.specs.Machines.{IsSound, IsState, Parts}
use Rattle.ak_machine.proofs.Processors.{one_machine}
use Rattle.ak_machine.proofs.Runs.{inside_there}

module _ (parts : Parts) (s : IsSound parts) where
  -- each frame is whole
  pub frames_whole : (f : ℕ) → length (frame_at parts.encls.frames f) ≡ 4096
  frames_whole f = ap length (sym (s.somewhere.machine.paging.frames f)) ∙ s.somewhere.stands.tables.frames.whole f

  pub frames_stand : (state : State) → IsState parts state → FramesStand state.frames
  frames_stand state machine = record { whole = λ f. ap length (machine.paging.frames f) ∙ frames_whole f }

  -- the TCS has three saved contexts at most
  pub few_saved : HasFewSaved parts.encls (tcs_page parts.layout)
  few_saved f has =
      let w = s.somewhere in
      let few : number_at (w.state.frames f) 24 4 ≤ 3 =
      three_saved parts.layout w.image w.past w.control w.turns w.state w.stands f
      (subst (λ (entries : List Entry). has_page (entry_at entries f) (tcs_page parts.layout) ≡ true) (sym w.machine.paging.entries) has) in
      subst (λ (bytes : List ℕ). saved_of bytes ≤ 3) (w.machine.paging.frames f) few

  -- and says so in two fields
  pub says_flag : (f : ℕ) → has_page (entry_at parts.encls.entries f) (tcs_page parts.layout) ≡ true →
      IsTcs (length s.somewhere.control.stack) s.somewhere.control.pending (frame_at parts.encls.frames f)
  says_flag f has =
      let w = s.somewhere in
      let n = length w.control.stack in
      let there =
      has_frame parts.layout w.past w.state w.stands.tables f (tcs_page parts.layout)
      (subst (λ (entries : List Entry). has_page (entry_at entries f) (tcs_page parts.layout) ≡ true) (sym w.machine.paging.entries) has) in
      let says : IsTcs n w.control.pending (w.state.frames f) =
      subst (λ (o : Option (List ℕ)). OfCopy o (IsTcs n w.control.pending)) (ap (copy w.state) (w.stands.tables.one_copy.placed (tcs_page parts.layout) f there)) w.stands.bytes.pages.tcs in
      subst (IsTcs n w.control.pending) (w.machine.paging.frames f) says

  -- the frames of a processor that is inside
  module _ (lp : Lp) (cpu : Cpu) (at : slice_get parts.cpus lp.0 ≡ Some cpu) (within : cpu.inside ≡ true) where
    its_machine : IsMachine parts.layout cpu parts.table parts.encls s.somewhere.state
    its_machine = one_machine parts lp cpu at s.somewhere.state s.somewhere.machine

    held : HoldsFrames parts.layout (length s.somewhere.control.stack) s.somewhere.state.entries s.somewhere.state.frames (s.somewhere.state.processors cpu.lp.0)
    held =
        let w = s.somewhere in
        holds_frames parts.layout w.image w.past w.control w.turns w.state w.stands cpu.lp.0 (inside_there parts s lp cpu at within)

    of_page : (f g p : ℕ) → f ≡ g → has_page (entry_at s.somewhere.state.entries f) p ≡ true → is_of_page (entry_at parts.encls.entries g) ≡ true
    of_page f g p same has =
        has_page_of_page (entry_at parts.encls.entries g) p
        (subst (λ (h : ℕ). has_page (entry_at parts.encls.entries h) p ≡ true) same
        (subst (λ (entries : List Entry). has_page (entry_at entries f) p ≡ true) s.somewhere.machine.paging.entries has))

    pub tcs_held : is_of_page (entry_at parts.encls.entries cpu.tcs.0) ≡ true
    tcs_held = of_page _ cpu.tcs.0 (tcs_page parts.layout) its_machine.processor.tcs held.tcs

    pub area_held : is_of_page (entry_at parts.encls.entries cpu.ssa.0) ≡ true
    area_held = of_page _ cpu.ssa.0 (ssa_page parts.layout (length s.somewhere.control.stack)) its_machine.processor.ssa held.area

    pub held_apart : (cpu.tcs.0 == cpu.ssa.0) ≡ false
    held_apart =
        ap (λ f. f == cpu.ssa.0) (sym its_machine.processor.tcs)
        ∙ ap (λ f. (s.somewhere.state.processors cpu.lp.0).tcs == f) (sym its_machine.processor.ssa)
        ∙ held.apart

    -- so many contexts are saved, and the TCS does not refuse resuming
    abbrev pub saved : ℕ
    saved = length s.somewhere.control.stack

    pub saved_few : saved ≤ 2
    saved_few = held.few

    pub tcs_says : IsTcs saved false (frame_at parts.encls.frames cpu.tcs.0)
    tcs_says =
        subst (IsTcs saved false) (ap s.somewhere.state.frames its_machine.processor.tcs ∙ s.somewhere.machine.paging.frames cpu.tcs.0) held.says

    pub held_few : saved_of (frame_at parts.encls.frames cpu.tcs.0) ≤ 2
    held_few =
        let told : saved_of (frame_at parts.encls.frames cpu.tcs.0) ≡ saved = tcs_says.saved_is in
        let few : saved ≤ 2 = saved_few in omega arith
