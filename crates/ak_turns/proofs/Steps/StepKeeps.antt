-- What a turn of the runtime leaves of the processor and of the memory.
use Rattle.std.proofs.Common.{◌≡◌, ℕ, Bool, false, List, [], refl, ap, sym, ◌∙◌, subst}
use Rattle.std.specs.Prelude.{Some, None}
use Rattle.ak_core.specs.Layout.{Layout}
use Rattle.ak_core.specs.declared.moves.Exit.{Exit}
use Rattle.ak_core.specs.declared.registers.Regs.{Regs}
use Rattle.ak_track.specs.Steps.{LeavesBy}
use Rattle.ak_track.specs.Tracking.{HoldsSteps, Marks}
use Rattle.ak_encls.specs.Enclave.{Enclave}
use Rattle.ak_enclu.specs.Passing.{outside_now, Steps}
use Rattle.ak_enclu.specs.declared.cpu.Cpu.{Cpu}
use Rattle.ak_memory.specs.declared.memory.Memory.{Memory}
use Rattle.ak_turns.specs.Running.{Runs, TurnKeeps}
use Rattle.ak_turns.proofs.ProgramTurns.Keeping.{cycles_stay, is_inside}

-- an enclave of which tracking alone differs
pub only_track : (old new : Enclave) → new ≡ record old { track = new.track } → new ≡ record old { frames = new.frames; track = new.track }
only_track old new rest =
    let same : old.frames ≡ new.frames = sym (ap (λ (e : Enclave). e.frames) rest) in rest ∙ ap (λ (frames : List (List ℕ)). record old { frames = frames; track = new.track }) same

module _ (layout : Layout) (cpu : Cpu) (memory : Memory) (runs : Runs layout cpu memory) (regs : Regs) (mid new : Memory) (rest : mid.encls ≡ record memory.encls { frames = mid.encls.frames })
    (mid_table : mid.table ≡ memory.table) where
  mid_track : mid.encls.track ≡ memory.encls.track
  mid_track = ap (λ (e : Enclave). e.track) rest

  -- the processor goes on
  pub keeps_gone_on : TurnKeeps None cpu (record cpu { regs = regs }) memory mid
  keeps_gone_on =
      record {
        cpu_is = ap (λ (b : Bool). record cpu { regs = regs; inside = b }) (is_inside layout cpu memory runs);
        uncached = λ none. none;
        flushed = λ some. absurd (cc);
        table = mid_table;
        encls = rest ∙ ap (λ (t : Marks). record memory.encls { frames = mid.encls.frames; track = t }) (sym mid_track);
        cycles = ap (λ (t : Marks). t.cycles) mid_track;
      }

  -- it left, by a step of tracking
  module _ (exit : Exit) (left : Cpu) (is : left ≡ outside_now (record cpu { regs = regs })) (mapped : new.table ≡ mid.table) (flushed : new.tlb ≡ [])
      (only : new.encls ≡ record mid.encls { frames = new.encls.frames; track = new.encls.track }) (steps : Steps mid.encls new.encls (LeavesBy cpu.lp.0)) where
    pub keeps_left : TurnKeeps (Some exit) cpu left memory new
    keeps_left =
        let P : Cpu → Type 0 = λ c. c ≡ record cpu { regs = c.regs; inside = false; tlb = c.tlb } in
        let before = subst (λ (t : Marks). HoldsSteps t layout.lps runs.state.track) (sym mid_track) runs.machine.paging.track in
        let after = steps layout.lps runs.state.track before in
        record {
          cpu_is = subst P (sym is) refl;
          uncached = λ none. ap (λ (c : Cpu). c.tlb) is;
          flushed = λ some. flushed;
          table = mapped ∙ mid_table;
          encls = only ∙ ap (λ (e : Enclave). record e { frames = new.encls.frames; track = new.encls.track }) rest;
          cycles = cycles_stay mid.encls.track new.encls.track layout.lps cpu.lp.0 runs.state.track before after ∙ ap (λ (t : Marks). t.cycles) mid_track;
        }
