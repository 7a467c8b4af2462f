-- What a turn of the program leaves of the processor and of the memory.
use Rattle.std.proofs.Common.{◌≡◌, ℕ, Bool, true, false, List, [], ◌∷◌, refl, ap, sym, ◌∙◌, subst}
use Rattle.std.proofs.lemmas.List.{length-map}
use Rattle.std.specs.Prelude.{Some, None}
use Rattle.ak_core.specs.Layout.{Layout}
use Rattle.ak_core.specs.declared.moves.Exit.{Exit}
use Rattle.ak_core.specs.declared.registers.Regs.{Regs}
use Rattle.ak_exec.specs.declared.turn.Turn.{Turn}
use Rattle.ak_model.specs.Paging.Tracking.{without}
use Rattle.ak_ssa.specs.declared.cause.Why.{Why}
use Rattle.ak_track.specs.Steps.{TrackStep, LeavesBy, cycles_by}
use Rattle.ak_track.specs.Tracking.{HoldsSteps, Marks}
use Rattle.ak_encls.specs.Enclave.{Enclave}
use Rattle.ak_enclu.specs.Passing.{outside_now, ExitsTo}
use Rattle.ak_enclu.specs.declared.cpu.Cpu.{Cpu}
use Rattle.ak_memory.specs.declared.memory.Memory.{Memory}
use Rattle.ak_turns.specs.Instructing.{Instructs}
use Rattle.ak_turns.specs.Running.{Runs, TurnKeeps}

-- a step by which a processor leaves begins no cycle
pub cycles_stay : (old new : Marks) (lps lp : ℕ) (steps : List TrackStep) → HoldsSteps old lps steps → HoldsSteps new lps (LeavesBy lp ∷ steps) → new.cycles ≡ old.cycles
cycles_stay old new lps lp steps before after = sym after.count ∙ length-map (cycles_by lps steps) (without lp) ∙ before.count

module _ (layout : Layout) (cpu : Cpu) (memory : Memory) (runs : Runs layout cpu memory) where
  -- the processor is inside
  pub is_inside : cpu.inside ≡ true
  is_inside = sym runs.machine.processor.inside ∙ runs.stands.tables.presence.within cpu.lp.0 ∙ runs.within

  module _ (turn : Turn) (regs : Regs) (mid new : Memory) (d : Instructs layout turn cpu.regs regs memory mid) (mapped : new.table ≡ mid.table) where
    pub keeps_completed : (after : Regs) → new.encls ≡ mid.encls → TurnKeeps None cpu (record cpu { regs = after }) memory new
    keeps_completed after same =
        let P : Enclave → Type 0 = λ e. e ≡ record memory.encls { frames = e.frames; track = e.track } in
        let track : mid.encls.track ≡ memory.encls.track = ap (λ (e : Enclave). e.track) d.kept.rest in
        let of_mid : P mid.encls = d.kept.rest ∙ ap (λ (t : Marks). record memory.encls { frames = mid.encls.frames; track = t }) (sym track) in
        record {
          cpu_is = ap (λ (b : Bool). record cpu { regs = after; inside = b }) is_inside;
          uncached = λ none. none;
          flushed = λ some. absurd (cc);
          table = mapped ∙ d.table;
          encls = subst P (sym same) of_mid;
          cycles = ap (λ (e : Enclave). e.track.cycles) (same ∙ d.kept.rest);
        }

    pub keeps_left : (exit : Exit) (left : Cpu) (why : Why) → left ≡ outside_now (record cpu { regs = regs }) → ExitsTo (record cpu { regs = regs }) why mid.encls new.encls → new.tlb ≡ []
        → TurnKeeps (Some exit) cpu left memory new
    keeps_left exit left why is to flushed =
        let P : Cpu → Type 0 = λ c. c ≡ record cpu { regs = c.regs; inside = false; tlb = c.tlb } in
        let track : memory.encls.track ≡ mid.encls.track = sym (ap (λ (e : Enclave). e.track) d.kept.rest) in
        let before = subst (λ (t : Marks). HoldsSteps t layout.lps runs.state.track) track runs.machine.paging.track in
        let after = to.track layout.lps runs.state.track before in
        record {
          cpu_is = subst P (sym is) refl;
          uncached = λ none. ap (λ (c : Cpu). c.tlb) is;
          flushed = λ some. flushed;
          table = mapped ∙ d.table;
          encls = to.rest ∙ ap (λ (e : Enclave). record e { frames = new.encls.frames; track = new.encls.track }) d.kept.rest;
          cycles = cycles_stay mid.encls.track new.encls.track layout.lps cpu.lp.0 runs.state.track before after ∙ ap (λ (t : Marks). t.cycles) (sym track);
        }
