-- A machine after a turn that goes on: one processor and the bytes of frames differ, and instructions may be complete.
use Rattle.std.proofs.Common.{◌≡◌, ℕ, ◌<◌, Bool, true, false, List, ◌==◌, if◌then◌else◌, refl, ap, sym, ◌∙◌, subst}
use Rattle.std.proofs.lemmas.Bool.{eq-eqb, eqb-true}
use Rattle.ak_core.specs.Layout.{Layout}
use Rattle.ak_pte.specs.declared.table.Pte.{Pte}
use Rattle.ak_relation.specs.State.MachineState.{State, Processor}
use Rattle.ak_track.specs.Steps.{inside_by}
use Rattle.ak_encls.specs.Enclave.{Enclave, frame_at}
use Rattle.ak_encls.specs.Paging.{IsPaging}
use Rattle.ak_enclu.specs.Machines.{IsProcessor, IsMachine}
use Rattle.ak_enclu.specs.declared.cpu.Cpu.{Cpu}

-- the machine with another processor, other bytes, and so many complete instructions
abbrev pub stepped : State → ℕ → Processor → (ℕ → List ℕ) → ℕ → State
stepped state lp processor frames count =
    record state { processors = λ q. if q == lp then processor else state.processors q; frames = frames; count = count }

pub stepped_there : (state : State) (lp : ℕ) (processor : Processor) → (if lp == lp then processor else state.processors lp) ≡ processor
stepped_there state lp processor = ap (λ b. if b then processor else state.processors lp) (eq-eqb lp lp refl)

pub stepped_other : (state : State) (lp q : ℕ) (processor : Processor) → (q == lp) ≡ false → (if q == lp then processor else state.processors q) ≡ state.processors q
stepped_other state lp q processor other = ap (λ b. if b then processor else state.processors q) other

-- it has the new processor and the new bytes
module _ (layout : Layout) (cpu after : Cpu) (table : List Pte) (encls : Enclave) (frames : List (List ℕ)) (state : State) (processor : Processor) (bytes : ℕ → List ℕ) (count : ℕ)
    (m : IsMachine layout cpu table encls state) (same : after.lp.0 ≡ cpu.lp.0) (is : IsProcessor after processor)
    (inside : processor.inside ≡ (state.processors cpu.lp.0).inside) (read : (f : ℕ) → bytes f ≡ frame_at frames f) where
  by_processor : (q : ℕ) (b : Bool) → (q == cpu.lp.0) ≡ b → q < layout.lps → (if b then processor else state.processors q).inside ≡ inside_by state.track q
  by_processor q true e low =
      inside ∙ ap (λ (p : ℕ). (state.processors p).inside) (sym (eqb-true q cpu.lp.0 e)) ∙ m.paging.within q low
  by_processor q false e low = m.paging.within q low

  paging : IsPaging layout (record encls { frames = frames }) (stepped state cpu.lp.0 processor bytes count)
  paging = record {
    count = m.paging.count;
    entries = m.paging.entries;
    frames = read;
    sealed_pages = m.paging.sealed_pages;
    next = m.paging.next;
    track = m.paging.track;
    stamps = m.paging.stamps;
    within = λ q low. by_processor q (q == cpu.lp.0) refl low;
  }

  pub stepped_machine : IsMachine layout after table (record encls { frames = frames }) (stepped state cpu.lp.0 processor bytes count)
  stepped_machine = record {
    processor = subst (λ (lp : ℕ). IsProcessor after (if lp == cpu.lp.0 then processor else state.processors lp)) (sym same)
        (subst (IsProcessor after) (sym (stepped_there state cpu.lp.0 processor)) is);
    mapped = m.mapped;
    paging = paging;
  }
