-- The machine after a step of the runtime: the processor has other registers, frames have other bytes, and the processor may have left.
use Rattle.std.proofs.Common.{◌≡◌, ℕ, Bool, true, false, List, ◌==◌, if◌then◌else◌, refl, ap, sym, ◌∙◌, subst}
use Rattle.std.proofs.lemmas.Bool.{eqb-true}
use Rattle.ak_core.specs.Layout.{Layout}
use Rattle.ak_core.specs.declared.registers.Regs.{Regs}
use Rattle.ak_pte.specs.declared.table.Pte.{Pte}
use Rattle.ak_track.specs.Steps.{LeavesBy}
use Rattle.ak_relation.specs.Premises.Works.{GoesOn, Quits}
use Rattle.ak_relation.specs.State.MachineState.{Processor, State}
use Rattle.ak_encls.specs.Enclave.{Enclave, frame_at}
use Rattle.ak_enclu.proofs.Changes.{processor_there, processor_other}
use Rattle.ak_enclu.proofs.Left.{quits}
use Rattle.ak_enclu.specs.Machines.{IsProcessor, IsMachine}
use Rattle.ak_enclu.specs.Passing.{outside_now, Steps}
use Rattle.ak_enclu.specs.declared.cpu.Cpu.{Cpu}
use Rattle.ak_turns.proofs.Steps.WrittenFrames.{changed}

-- the processor with other registers
abbrev pub with_regs : State → ℕ → Regs → ℕ → Processor
with_regs state lp regs q = if q == lp then record (state.processors lp) { regs = regs } else state.processors q

module _ (layout : Layout) (cpu : Cpu) (table : List Pte) (encls : Enclave) (state : State) (m : IsMachine layout cpu table encls state) (regs : Regs) (frames : List (List ℕ)) where
  -- the processor's new registers, and the frames' new bytes
  abbrev pub moved_on : State
  moved_on = changed state (with_regs state cpu.lp.0 regs) state.track (frame_at frames)

  there : with_regs state cpu.lp.0 regs cpu.lp.0 ≡ record (state.processors cpu.lp.0) { regs = regs }
  there = processor_there state cpu.lp.0 (record (state.processors cpu.lp.0) { regs = regs })

  same_inside : (q : ℕ) (b : Bool) → (q == cpu.lp.0) ≡ b → (if b then record (state.processors cpu.lp.0) { regs = regs } else state.processors q).inside ≡ (state.processors q).inside
  same_inside q true e = ap (λ r. (state.processors r).inside) (sym (eqb-true q cpu.lp.0 e))
  same_inside q false e = refl

  -- it is that of the processor with these registers, and of these frames
  pub moved_machine : IsMachine layout (record cpu { regs = regs }) table (record encls { frames = frames }) moved_on
  moved_machine = record {
    processor = subst (IsProcessor (record cpu { regs = regs })) (sym there)
        (record { inside = m.processor.inside; regs = refl; tcs = m.processor.tcs; ssa = m.processor.ssa; fills = m.processor.fills });
    mapped = m.mapped;
    paging = record {
      count = m.paging.count;
      entries = m.paging.entries;
      frames = λ f. refl;
      sealed_pages = m.paging.sealed_pages;
      next = m.paging.next;
      track = m.paging.track;
      stamps = m.paging.stamps;
      within = λ q low. same_inside q (q == cpu.lp.0) refl ∙ m.paging.within q low;
    };
  }

  -- the processor goes on
  pub goes_on : GoesOn cpu.lp.0 regs state moved_on
  goes_on = record {
    regs_are = ap (λ (p : Processor). p.regs) there;
    inside = ap (λ (p : Processor). p.inside) there;
    fills = ap (λ (p : Processor). p.fills) there;
    tcs = ap (λ (p : Processor). p.tcs) there;
    ssa = ap (λ (p : Processor). p.ssa) there;
    others = λ q other. processor_other state cpu.lp.0 q (record (state.processors cpu.lp.0) { regs = regs }) other;
    track = refl;
  }

  -- or has left
  pub record HasQuit (cpu' : Cpu) (encls' : Enclave) : Type 0 where
    pub end : State
    pub machine : IsMachine layout cpu' table encls' (changed state end.processors end.track (frame_at frames))
    pub quits : Quits cpu.lp.0 state (changed state end.processors end.track (frame_at frames))

  pub has_quit : (left : Enclave) → left ≡ record encls { frames = frames; track = left.track } → Steps (record encls { frames = frames }) left (LeavesBy cpu.lp.0) →
      HasQuit (outside_now (record cpu { regs = regs })) left
  has_quit left rest steps =
      let q = quits layout moved_on (record cpu { regs = regs }) table (record encls { frames = frames }) left moved_machine rest (λ lps before holds. steps lps before holds) in
      record {
        end = q.state;
        machine = subst (IsMachine layout (outside_now (record cpu { regs = regs })) table left) q.does.1 q.machine;
        quits = let own = q.does.0 in record {
          left = own.left;
          flushed = own.flushed;
          others = λ r other. own.others r other ∙ processor_other state cpu.lp.0 r (record (state.processors cpu.lp.0) { regs = regs }) other;
          track = own.track;
        };
      }
