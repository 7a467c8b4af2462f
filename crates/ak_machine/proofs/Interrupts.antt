-- An interrupt of a processor that is inside.
use Rattle.std.proofs.Common.{◌≡◌, ℕ, Bool, true, false, List, ◌∷◌, set, refl, ap, sym, ◌∙◌, subst, arith, ◌==◌}
use Rattle.std.proofs.lemmas.List.{length-map, length-set}
use Rattle.std.specs.Prelude.{None, Some, slice_get}
use Rattle.ak_core.specs.declared.moves.Answer.TheVariants.{Ok}
use Rattle.ak_core.specs.declared.moves.Move.TheVariants.{Interrupt}
use Rattle.ak_core.specs.declared.page.Lp.{Lp}
use Rattle.ak_model.specs.Paging.Tracking.{without}
use Rattle.ak_relation.proofs.Exits.InterruptMoves.{interrupt_moves}
use Rattle.ak_relation.specs.Bytes.Pages.{IsTcs, flag_number}
use Rattle.ak_relation.specs.Premises.Saving.{Saves}
use Rattle.ak_relation.specs.Relation.Does.{IsMove}
use Rattle.ak_relation.specs.State.MachineState.{State}
use Rattle.ak_ssa.specs.SavedFrames.{NoCause}
use Rattle.ak_ssa.specs.SavedRegisters.{AreRegs}
use Rattle.ak_ssa.specs.declared.cause.Why.{Why}
use Rattle.ak_track.specs.Steps.{TrackStep, LeavesBy, cycles_by}
use Rattle.ak_track.specs.Tracking.{HoldsSteps, Marks}
use Rattle.ak_encls.specs.Enclave.{Enclave, frame_at}
use Rattle.ak_enclu.proofs.Left.{saves}
use Rattle.ak_enclu.specs.Machines.{LeadsToWhere}
use Rattle.ak_enclu.specs.Passing.{ExitsTo, outside_now}
use Rattle.ak_enclu.specs.declared.cpu.Cpu.{Cpu}
use Rattle.ak_pte.specs.declared.table.Pte.{Pte}
use Rattle.ak_machine.specs.Machines.{IsSound, IsState, Parts}
use Rattle.ak_machine.specs.Moves.{Moves, MovesTo, plainly}
use Rattle.ak_machine.proofs.Held.{frames_stand, saved, saved_few, tcs_says}
use Rattle.ak_machine.proofs.Plain.{counts_none, plain_moves}
use Rattle.ak_machine.proofs.Processors.{numbered, one_machine, replaced, same_inside}

-- a step by which a processor leaves begins no cycle
left_cycles : (old new : Marks) (lps lp : ℕ) (steps : List TrackStep) → HoldsSteps old lps steps → HoldsSteps new lps (LeavesBy lp ∷ steps) → new.cycles ≡ old.cycles
left_cycles old new lps lp steps before after = sym after.count ∙ length-map (cycles_by lps steps) (without lp) ∙ before.count

-- a TCS says one flag
one_flag : (a b : Bool) → flag_number a ≡ flag_number b → a ≡ b
one_flag true true e = refl
one_flag false false e = refl
one_flag true false e = absurd (cc)
one_flag false true e = absurd (cc)

module _ (parts : Parts) (s : IsSound parts) (lp : Lp) (cpu : Cpu) (at : slice_get parts.cpus lp.0 ≡ Some cpu) (within : cpu.inside ≡ true)
    (words : AreRegs cpu.regs) (encls : Enclave) (to : ExitsTo cpu Why.Interrupt parts.encls encls) where
  abbrev k : ℕ
  k = saved parts s lp cpu at within

  abbrev after : Parts
  after = record parts { encls = encls; cpus = set parts.cpus lp.0 (outside_now cpu) }

  left : (state : State) → IsState parts state → LeadsToWhere parts.layout (outside_now cpu) parts.table encls (Saves parts.layout cpu.lp.0 k false NoCause state)
  left state machine =
      saves parts.layout state cpu parts.table parts.encls encls k false NoCause (frames_stand parts s state machine) (one_machine parts lp cpu at state machine) to
      (saved_few parts s lp cpu at within) (tcs_says parts s lp cpu at within) (λ mode. words) tt

  module _ (state : State) (machine : IsState parts state) where
    end : State
    end = (left state machine).state

    saved_so : (n : ℕ) (pending : Bool) → IsTcs n pending (state.frames (state.processors cpu.lp.0).tcs) → Saves parts.layout cpu.lp.0 n pending NoCause state (left state machine).state
    saved_so n pending says =
        let here : IsTcs k false (frame_at parts.encls.frames cpu.tcs.0) = tcs_says parts s lp cpu at within in
        let m = one_machine parts lp cpu at state machine in
        let there : IsTcs n pending (frame_at parts.encls.frames cpu.tcs.0) =
        subst (IsTcs n pending) (ap state.frames m.processor.tcs ∙ machine.paging.frames cpu.tcs.0) says in
        let number : k ≡ n = sym here.saved_is ∙ there.saved_is in
        let flag : false ≡ pending = one_flag false pending (sym here.pending_is ∙ there.pending_is) in
        subst (λ (f : Bool). Saves parts.layout cpu.lp.0 n f NoCause state (left state machine).state) flag
        (subst (λ (i : ℕ). Saves parts.layout cpu.lp.0 i false NoCause state (left state machine).state) number (left state machine).does)

    is_move : IsMove parts.layout state (left state machine).state (Interrupt cpu.lp) Ok None
    is_move =
        interrupt_moves parts.layout cpu.lp state (left state machine).state
        (ap (λ (q : Lp). (state.processors q.0).inside) (numbered parts lp cpu at state machine) ∙ same_inside parts lp cpu at state machine ∙ within)
        saved_so

    interrupted_to : MovesTo parts.layout state (Interrupt lp) (plainly Ok) after
    interrupted_to =
        let l = left state machine in
        let number = numbered parts lp cpu at state machine in
        plain_moves parts.layout state l.state (Interrupt lp) Ok after
        (replaced parts lp cpu at state machine (outside_now cpu) encls l.state l.machine refl
        (λ q other. l.does.others q (ap (λ (i : Lp). q == i.0) number ∙ other)))
        l.does.count refl
        (subst (λ (q : Lp). IsMove parts.layout state l.state (Interrupt q) Ok None) number is_move)

  pub interrupt_made : Moves parts (Interrupt lp) (plainly Ok) after
  interrupt_made =
      let w = s.somewhere in
      let cycles = left_cycles parts.encls.track encls.track parts.layout.lps cpu.lp.0 w.state.track w.machine.paging.track (to.track parts.layout.lps w.state.track w.machine.paging.track) in
      record {
        layout = refl;
        each = length-set parts.cpus lp.0 (outside_now cpu);
        sized = refl;
        moved = interrupted_to;
        refused = λ undone. absurd (cc);
        counts = counts_none parts.encls encls Ok refl (ap (λ (e : Enclave). e.handles) to.rest) cycles (ap (λ (e : Enclave). e.measure) to.rest);
        few = omega arith;
      }

  -- the same, over a page table and a processor that are those
  pub interrupt_all : (table : List Pte) → table ≡ parts.table → (c : Cpu) → c ≡ outside_now cpu →
      Moves parts (Interrupt lp) (plainly Ok) (record { layout = parts.layout; encls = encls; table = table; cpus = set parts.cpus lp.0 c })
  interrupt_all table same_table c is =
      subst (λ (t : List Pte). Moves parts (Interrupt lp) (plainly Ok) (record { layout = parts.layout; encls = encls; table = t; cpus = set parts.cpus lp.0 c })) (sym same_table)
      (subst (λ (x : Cpu). Moves parts (Interrupt lp) (plainly Ok) (record parts { encls = encls; cpus = set parts.cpus lp.0 x })) (sym is) interrupt_made)
