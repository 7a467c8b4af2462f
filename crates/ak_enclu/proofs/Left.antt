-- What an asynchronous exit or EEXIT does to a machine.
use Rattle.std.proofs.Common.{◌≡◌, ℕ, ◌+◌, ◌≤◌, Bool, true, false, List, [], length, take, drop, ◌==◌, refl, ap, sym, ◌∙◌, subst}
use Rattle.std.proofs.lemmas.Bool.{eqb-true}
use Rattle.std.specs.Prelude.{◌||◌}
use Rattle.ak_core.specs.Layout.{Layout}
use Rattle.ak_core.specs.declared.registers.Mode.{Mode}
use Rattle.ak_core.specs.declared.registers.Regs.{Regs}
use Rattle.ak_model.specs.Laws.Orderly.{after_miss_if}
use Rattle.ak_pte.specs.declared.table.Pte.{Pte}
use Rattle.ak_ssa.specs.FramesFit.{CauseFits}
use Rattle.ak_ssa.specs.SavedFrames.{SavedCause, area_place, why_of, saved_bytes}
use Rattle.ak_ssa.specs.SavedRegisters.{AreRegs}
use Rattle.ak_track.specs.Steps.{LeavesBy}
use Rattle.ak_relation.specs.Bytes.Pages.{IsTcs}
use Rattle.ak_relation.specs.Premises.Saving.{Saves, missed_in}
use Rattle.ak_relation.specs.Premises.Works.{Quits}
use Rattle.ak_relation.specs.State.MachineState.{State, Processor}
use Rattle.ak_relation.specs.State.Tables.{FramesStand}
use Rattle.ak_encls.specs.Enclave.{Enclave, frame_at}
use Rattle.ak_enclu.specs.Machines.{IsProcessor, IsMachine, LeadsToWhere}
use Rattle.ak_enclu.specs.Passing.{outside_now, ExitsTo, Steps}
use Rattle.ak_enclu.specs.TcsBytes.{refuses}
use Rattle.ak_enclu.specs.declared.cpu.Cpu.{Cpu}
use Rattle.ak_enclu.proofs.Changes.{moved, processor_there, processor_other, leaves_by, moved_machine, nothing_cached}
use Rattle.ak_enclu.proofs.Fields.{exited, exited_size}

-- the processor outside
abbrev gone : Cpu → Processor
gone cpu = record { inside = false; regs = cpu.regs; tcs = cpu.tcs.0; ssa = cpu.ssa.0; fills = [] }

is_gone : (cpu : Cpu) → IsProcessor (outside_now cpu) (gone cpu)
is_gone cpu = record { inside = refl; regs = refl; tcs = refl; ssa = refl; fills = nothing_cached }

-- a machine whose queue alone differs
queued : (layout : Layout) (cpu : Cpu) (table : List Pte) (encls : Enclave) (state : State) (queue : List ℕ) → IsMachine layout cpu table encls state
    → IsMachine layout cpu table encls (record state { queue = queue })
queued layout cpu table encls state queue m = record {
  processor = m.processor;
  mapped = m.mapped;
  paging = record {
    count = m.paging.count;
    entries = m.paging.entries;
    frames = m.paging.frames;
    sealed_pages = m.paging.sealed_pages;
    next = m.paging.next;
    track = m.paging.track;
    stamps = m.paging.stamps;
    within = m.paging.within;
  };
}

-- ---- EEXIT

module _ (layout : Layout) (state : State) (cpu : Cpu) (table : List Pte) (encls new : Enclave) (m : IsMachine layout cpu table encls state) where
  pub quits : new ≡ record encls { track = new.track } → Steps encls new (LeavesBy cpu.lp.0)
      → LeadsToWhere layout (outside_now cpu) table new (λ end. Quits cpu.lp.0 state end × (end ≡ record state { processors = end.processors; track = end.track }))
  quits rest steps =
      let end = moved state cpu.lp.0 (gone cpu) state.frames (LeavesBy cpu.lp.0) in
      let at = processor_there state cpu.lp.0 (gone cpu) in
      record {
        state = end;
        machine = subst (λ e. IsMachine layout (outside_now cpu) table e end) (sym rest)
            (moved_machine layout state cpu (outside_now cpu) table encls encls.frames new.track state.frames m (gone cpu) (LeavesBy cpu.lp.0) refl (is_gone cpu)
            (λ lps before holds. steps lps before holds) (leaves_by cpu.lp.0) m.paging.frames);
        does = (
          record {
            left = ap (λ (p : Processor). p.inside) at;
            flushed = ap (λ (p : Processor). p.fills) at;
            others = λ q other. processor_other state cpu.lp.0 q _ other;
            track = refl;
          },
          refl,
        );
      }

-- ---- An asynchronous exit

module _ (layout : Layout) (state : State) (cpu : Cpu) (table : List Pte) (encls new : Enclave) (saved : ℕ) (pending : Bool) (cause : SavedCause)
    (h : FramesStand state.frames) (m : IsMachine layout cpu table encls state) (to : ExitsTo cpu (why_of layout cause) encls new) where
  old_whole : (g : ℕ) → length (frame_at encls.frames g) ≡ 4096
  old_whole g = ap length (sym (m.paging.frames g)) ∙ h.whole g

  by_frame : (g : ℕ) (a b : Bool) → (g == cpu.tcs.0) ≡ a → (g == cpu.ssa.0) ≡ b → length (frame_at new.frames g) ≡ 4096
  by_frame g true b e d =
      ap (λ i. length (frame_at new.frames i)) (eqb-true g cpu.tcs.0 e) ∙ ap length to.tcs ∙ exited_size (frame_at encls.frames cpu.tcs.0) (why_of layout cause) (old_whole cpu.tcs.0)
  by_frame g false true e d = ap (λ i. length (frame_at new.frames i)) (eqb-true g cpu.ssa.0 d) ∙ to.whole
  by_frame g false false e d = ap length (to.others g e d) ∙ old_whole g

  abbrev queue : List ℕ
  queue = after_miss_if layout state.queue (missed_in layout state.queue cause (state.processors cpu.lp.0).regs.mode)

  abbrev moved_end : State
  moved_end = moved state cpu.lp.0 (gone cpu) (frame_at new.frames) (LeavesBy cpu.lp.0)

  pub saves : saved ≤ 2 → IsTcs saved pending (frame_at encls.frames cpu.tcs.0) → (cpu.regs.mode ≡ Mode.Runtime → AreRegs cpu.regs) → CauseFits layout cause
      → LeadsToWhere layout (outside_now cpu) table new (Saves layout cpu.lp.0 saved (refuses (why_of layout cause) || pending) cause state)
  saves few says words fits =
      let why = why_of layout cause in
      let at = processor_there state cpu.lp.0 (gone cpu) in
      let there : IsMachine layout (outside_now cpu) table new moved_end =
      subst (λ e. IsMachine layout (outside_now cpu) table e moved_end) (sym to.rest)
      (moved_machine layout state cpu (outside_now cpu) table encls new.frames new.track (frame_at new.frames) m (gone cpu) (LeavesBy cpu.lp.0) refl (is_gone cpu)
      (λ lps before holds. to.track lps before holds) (leaves_by cpu.lp.0) (λ f. refl)) in
      record {
        state = record moved_end { queue = queue };
        machine = queued layout (outside_now cpu) table new moved_end queue there;
        does = record {
          area = ap (λ g. take 200 (drop area_place (frame_at new.frames g))) m.processor.ssa ∙ to.area ∙ ap (λ r. saved_bytes r why) (sym m.processor.regs);
          words = subst (λ (r : Regs). r.mode ≡ Mode.Runtime → AreRegs r) (sym m.processor.regs) words;
          fits = fits;
          tcs = subst (IsTcs (saved + 1) (refuses why || pending)) (sym (ap (frame_at new.frames) m.processor.tcs ∙ to.tcs))
              (exited saved pending (frame_at encls.frames cpu.tcs.0) why (old_whole cpu.tcs.0) few says);
          frames = λ g e d. to.others g (ap (λ t. g == t) (sym m.processor.tcs) ∙ e) (ap (λ t. g == t) (sym m.processor.ssa) ∙ d) ∙ sym (m.paging.frames g);
          whole = λ g. by_frame g (g == cpu.tcs.0) (g == cpu.ssa.0) refl refl;
          left = ap (λ (p : Processor). p.inside) at;
          flushed = ap (λ (p : Processor). p.fills) at;
          others = λ q other. processor_other state cpu.lp.0 q _ other;
          track = refl;
          entries = refl;
          count = refl;
          queue = refl;
          stamps = refl;
          sealed_pages = refl;
          next = refl;
          table = refl;
        };
      }
