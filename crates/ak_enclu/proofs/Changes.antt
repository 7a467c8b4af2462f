-- The machine after a processor entered or left.
use Rattle.std.proofs.Common.{◌≡◌, ℕ, ◌<◌, Bool, true, false, List, [], ◌∷◌, ◌==◌, if◌then◌else◌, refl, ap, sym, ◌∙◌, subst, arith}
use Rattle.std.proofs.lemmas.Bool.{eq-eqb}
use Rattle.ak_core.specs.Layout.{Layout}
use Rattle.ak_pte.specs.declared.table.Pte.{Pte}
use Rattle.ak_tlb.specs.Fills.{HoldsFills}
use Rattle.ak_track.proofs.Places.{counted_more}
use Rattle.ak_track.specs.Steps.{TrackStep, EntersBy, LeavesBy, inside_by, inside_after}
use Rattle.ak_track.specs.Tracking.{Marks, StampOf}
use Rattle.ak_track.specs.declared.track.Stamp.{Stamp}
use Rattle.ak_relation.specs.State.MachineState.{State, Processor}
use Rattle.ak_encls.specs.Enclave.{Enclave, frame_at, stamp_at}
use Rattle.ak_encls.specs.Paging.{IsPaging}
use Rattle.ak_enclu.specs.Machines.{IsProcessor, IsMachine}
use Rattle.ak_enclu.specs.Passing.{Steps}
use Rattle.ak_enclu.specs.declared.cpu.Cpu.{Cpu}

-- the machine with another processor, other bytes, and one more step
abbrev pub moved : State → ℕ → Processor → (ℕ → List ℕ) → TrackStep → State
moved state lp processor frames step =
    record state { processors = λ q. if q == lp then processor else state.processors q; frames = frames; track = step ∷ state.track }

pub processor_there : (state : State) (lp : ℕ) (processor : Processor) → (if lp == lp then processor else state.processors lp) ≡ processor
processor_there state lp processor = ap (λ b. if b then processor else state.processors lp) (eq-eqb lp lp refl)

pub processor_other : (state : State) (lp q : ℕ) (processor : Processor) → (q == lp) ≡ false → (if q == lp then processor else state.processors q) ≡ state.processors q
processor_other state lp q processor other = ap (λ b. if b then processor else state.processors q) other

-- a step of a processor by which it is inside, or outside
pub record IsStepOf (lp : ℕ) (inside : Bool) (step : TrackStep) : Type 0 where
  pub after : (q : ℕ) (before : Bool) → inside_after step q before ≡ (if q == lp then inside else before)

pub enters_by : (lp : ℕ) → IsStepOf lp true (EntersBy lp)
enters_by lp = record { after = λ q before. refl }

pub leaves_by : (lp : ℕ) → IsStepOf lp false (LeavesBy lp)
leaves_by lp = record { after = λ q before. refl }

-- nothing is cached
pub nothing_cached : HoldsFills [] []
nothing_cached = record { once = tt; last = λ t f found. found; kept = λ few. record { all = λ t. refl; count = refl } }

stamped : (stamp : Stamp) (lps : ℕ) (steps : List TrackStep) (place : ℕ) (step : TrackStep) → StampOf stamp lps steps place → StampOf stamp lps (step ∷ steps) place
stamped stamp lps steps place step h = record {
  within = let before = h.within in omega arith;
  count = counted_more lps place steps step h.within ∙ h.count;
}

-- it has the new processor and the new paging part
module _ (layout : Layout) (state : State) (cpu after : Cpu) (table : List Pte) (encls : Enclave) (frames : List (List ℕ)) (track : Marks) (bytes_of : ℕ → List ℕ)
    (m : IsMachine layout cpu table encls state) (processor : Processor) (step : TrackStep) (same : after.lp.0 ≡ cpu.lp.0) (is : IsProcessor after processor)
    (steps : Steps encls (record encls { frames = frames; track = track }) step) (of : IsStepOf cpu.lp.0 processor.inside step)
    (read : (f : ℕ) → bytes_of f ≡ frame_at frames f) where
  abbrev new : State
  new = moved state cpu.lp.0 processor bytes_of step

  inside_there : (q : ℕ) (b : Bool) → q < layout.lps → (if b then processor else state.processors q).inside ≡ (if b then processor.inside else inside_by state.track q)
  inside_there q true low = refl
  inside_there q false low = m.paging.within q low

  paging : IsPaging layout (record encls { frames = frames; track = track }) new
  paging = record {
    count = m.paging.count;
    entries = m.paging.entries;
    frames = read;
    sealed_pages = m.paging.sealed_pages;
    next = m.paging.next;
    track = steps layout.lps state.track m.paging.track;
    stamps = λ f blocked. stamped (stamp_at encls.stamps f) layout.lps state.track (state.stamps f) step (m.paging.stamps f blocked);
    within = λ q low. inside_there q (q == cpu.lp.0) low ∙ sym (of.after q (inside_by state.track q));
  }

  pub moved_machine : IsMachine layout after table (record encls { frames = frames; track = track }) new
  moved_machine = record {
    processor = subst (IsProcessor after) (sym (ap new.processors same ∙ processor_there state cpu.lp.0 processor)) is;
    mapped = m.mapped;
    paging = paging;
  }
