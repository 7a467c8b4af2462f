-- What entering and leaving leave of a processor and of the enclave's paging part. (SDM volume 3D, EENTER, ERESUME, EEXIT,
-- "Asynchronous Enclave Exit".)
use Rattle.std.specs.Prelude.{◌≡◌, ℕ, ◌≤◌, ◌<◌, true, false, List, [], ◌∷◌, length, take, slice_set, ◌==◌}
use Rattle.ak_core.specs.declared.registers.Regs.{Regs}
use Rattle.ak_epcm.specs.Entries.{entry_at, has_page}
use Rattle.ak_pte.specs.declared.table.Pte.{Pte}
use Rattle.ak_ssa.specs.SavedFrames.{HasSaved, area_place}
use Rattle.ak_ssa.specs.declared.cause.Why.{Why}
use Rattle.ak_track.specs.Steps.{TrackStep, EntersBy, LeavesBy}
use Rattle.ak_track.specs.Tracking.{HoldsSteps}
use Rattle.ak_encls.specs.Enclave.{Enclave, frame_at}
use Rattle.ak_pte.specs.Table.{pte_at}
use Rattle.ak_enclu.specs.TcsBytes.{saved_of, after_exit}
use Rattle.ak_enclu.specs.declared.areas.Held.{Held}
use Rattle.ak_enclu.specs.declared.cpu.Cpu.{Cpu}

-- the bytes of the TCS, where the page table names its frame
abbrev pub tcs_at : Enclave → List Pte → ℕ → List ℕ
tcs_at encls table tcs = frame_at encls.frames (pte_at table tcs).frame.0

-- the TCS, where a frame holds it, has at most three saved contexts
abbrev pub HasFewSaved : Enclave → ℕ → Type 0
HasFewSaved encls tcs = (f : ℕ) → has_page (entry_at encls.entries f) tcs ≡ true → saved_of (frame_at encls.frames f) ≤ 3

-- the processor with these registers inside, holding these frames, with nothing cached
abbrev pub inside_with : Cpu → Regs → Held → Cpu
inside_with cpu regs held = record cpu { regs = regs; inside = true; tcs = held.tcs; ssa = held.ssa; tlb = [] }

-- the processor outside, with nothing cached
abbrev pub outside_now : Cpu → Cpu
outside_now cpu = record cpu { inside = false; tlb = [] }

-- tracking has a step more
abbrev pub Steps : Enclave → Enclave → TrackStep → Type 0
Steps old new step = (lps : ℕ) (steps : List TrackStep) → HoldsSteps old.track lps steps → HoldsSteps new.track lps (step ∷ steps)

-- processor lp entered: the TCS in this frame has these bytes, tracking has the step, and all else stays
pub record EntersTo (lp tcs : ℕ) (bytes : List ℕ) (old new : Enclave) : Type 0 where
  pub within : tcs < length old.frames
  pub leaves : new ≡ record old { frames = slice_set old.frames tcs bytes; track = new.track }
  pub track : Steps old new (EntersBy lp)

-- a processor left in the midst: registers and cause are in the area that it holds, its TCS has one context more, tracking has the step,
-- and all else stays
pub record ExitsTo (cpu : Cpu) (why : Why) (old new : Enclave) : Type 0 where
  pub apart : (cpu.tcs.0 == cpu.ssa.0) ≡ false
  pub area : HasSaved area_place (frame_at new.frames cpu.ssa.0) cpu.regs why
  pub below : take area_place (frame_at new.frames cpu.ssa.0) ≡ take area_place (frame_at old.frames cpu.ssa.0)
  pub whole : length (frame_at new.frames cpu.ssa.0) ≡ 4096
  pub tcs : frame_at new.frames cpu.tcs.0 ≡ after_exit why (frame_at old.frames cpu.tcs.0)
  pub others : (g : ℕ) → (g == cpu.tcs.0) ≡ false → (g == cpu.ssa.0) ≡ false → frame_at new.frames g ≡ frame_at old.frames g
  pub rest : new ≡ record old { frames = new.frames; track = new.track }
  pub track : Steps old new (LeavesBy cpu.lp.0)
