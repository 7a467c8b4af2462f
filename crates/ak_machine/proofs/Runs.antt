-- A run of a processor, and the refusal of a run and of an interrupt.
use Rattle.std.proofs.Common.{◌≡◌, ℕ, ◌≤◌, ◌<◌, true, false, not, length, set, nat_lt, refl, ap, sym, ◌∙◌, subst, arith, if◌then◌else◌}
use Rattle.std.proofs.lemmas.Bool.Decides.{nat_tests}
use Rattle.std.proofs.lemmas.List.{length-set}
use Rattle.std.specs.Prelude.{None, Some, slice_get}
use Rattle.ak_core.specs.declared.moves.Answer.{Answer}
use Rattle.ak_core.specs.declared.moves.Answer.TheVariants.{NoLp, Outside}
use Rattle.ak_core.specs.declared.moves.Move.TheVariants.{Interrupt, Run}
use Rattle.ak_core.specs.declared.page.Lp.{Lp}
use Rattle.ak_model.specs.Paging.Inside.{inside}
use Rattle.ak_relation.proofs.Runs.OutsideMoves.{interrupt_refused, run_refused}
use Rattle.ak_relation.specs.Relation.Does.{IsMove}
use Rattle.ak_relation.specs.Relation.TurnByTurn.{outside_answer}
use Rattle.ak_relation.specs.State.MachineState.{State}
use Rattle.ak_encls.specs.Enclave.{Enclave}
use Rattle.ak_enclu.specs.Machines.{IsMachine}
use Rattle.ak_enclu.specs.declared.cpu.Cpu.{Cpu}
use Rattle.ak_memory.specs.declared.memory.Memory.{Memory}
use Rattle.ak_turns.specs.WholeRuns.{RunKeeps, RunsTo, Stays}
use Rattle.ak_turns.specs.declared.notes.Ran.{Ran}
use Rattle.ak_machine.specs.declared.applied.Applied.{Applied}
use Rattle.ak_machine.specs.Machines.{IsSound, IsState, Parts}
use Rattle.ak_machine.specs.Moves.{Moves, MovesTo, plainly}
use Rattle.ak_machine.proofs.Plain.{stays}
use Rattle.ak_machine.proofs.Processors.{lp_low, numbered, one_machine, replaced, same_inside}

-- what a run comes to
abbrev pub run_applied : Ran → Applied
run_applied ran = record { answer = Answer.Exit ran.exit; completed = ran.completed; program = ran.program; runtime = ran.runtime }

-- ---- No such processor

module _ (parts : Parts) (s : IsSound parts) (lp : Lp) (none : parts.layout.lps ≤ lp.0) where
  none_inside : (state : State) → IsState parts state → (state.processors lp.0).inside ≡ false
  none_inside state machine = machine.processors.no_more lp.0 (let many = s.each in omega (arith, none, many))

  named : outside_answer parts.layout lp.0 ≡ NoLp
  named = let unknown : nat_lt lp.0 parts.layout.lps ≡ false = grind (arith, nat_tests, none) in ap (λ b. if not b then NoLp else Outside) unknown

  pub no_run : (n : ℕ) → Moves parts (Run lp n) (plainly NoLp) parts
  no_run n = stays parts (Run lp n) NoLp refl (λ state machine.
      subst (λ (a : Answer). IsMove parts.layout state state (Run lp n) a None) named (run_refused parts.layout state lp (none_inside state machine) n))

  pub no_interrupt : Moves parts (Interrupt lp) (plainly NoLp) parts
  no_interrupt = stays parts (Interrupt lp) NoLp refl (λ state machine.
      subst (λ (a : Answer). IsMove parts.layout state state (Interrupt lp) a None) named (interrupt_refused parts.layout state lp (none_inside state machine)))

-- ---- A processor that is outside

module _ (parts : Parts) (s : IsSound parts) (lp : Lp) (cpu : Cpu) (at : slice_get parts.cpus lp.0 ≡ Some cpu) where
  pub lp_known : lp.0 < parts.layout.lps
  lp_known = let low = lp_low parts lp cpu at in let many = s.each in omega (arith, low, many)

  known : nat_lt lp.0 parts.layout.lps ≡ true
  known = let low = lp_known in grind (arith, nat_tests, low)

  pub own_low : cpu.lp.0 < parts.layout.lps
  own_low = subst (λ (q : Lp). q.0 < parts.layout.lps) (sym (numbered parts lp cpu at s.somewhere.state s.somewhere.machine)) lp_known

  module _ (out : cpu.inside ≡ false) where
    answered : outside_answer parts.layout lp.0 ≡ Outside
    answered = ap (λ b. if not b then NoLp else Outside) known

    outside_there : (state : State) → IsState parts state → (state.processors lp.0).inside ≡ false
    outside_there state machine = same_inside parts lp cpu at state machine ∙ out

    pub outside_run : (n : ℕ) → Moves parts (Run lp n) (plainly Outside) parts
    outside_run n = stays parts (Run lp n) Outside refl (λ state machine.
        subst (λ (a : Answer). IsMove parts.layout state state (Run lp n) a None) answered (run_refused parts.layout state lp (outside_there state machine) n))

    pub outside_interrupt : Moves parts (Interrupt lp) (plainly Outside) parts
    outside_interrupt = stays parts (Interrupt lp) Outside refl (λ state machine.
        subst (λ (a : Answer). IsMove parts.layout state state (Interrupt lp) a None) answered (interrupt_refused parts.layout state lp (outside_there state machine)))

  -- ---- A run

  module _ (within : cpu.inside ≡ true) where
    pub inside_there : inside s.somewhere.past cpu.lp.0 ≡ true
    inside_there =
        let w = s.somewhere in
        sym (w.stands.tables.presence.within cpu.lp.0)
        ∙ ap (λ (q : Lp). (w.state.processors q.0).inside) (numbered parts lp cpu at w.state w.machine)
        ∙ same_inside parts lp cpu at w.state w.machine
        ∙ within

    pub stays_inside : Stays parts.layout cpu parts.table parts.encls
    stays_inside =
        let w = s.somewhere in
        record {
          image = w.image;
          past = w.past;
          control = w.control;
          turns = w.turns;
          state = w.state;
          machine = one_machine parts lp cpu at w.state w.machine;
          stands = w.stands;
          within = inside_there;
        }

  module _ (n : ℕ) (ran : Ran) (after : Cpu) (old new : Memory) (here : old.encls ≡ parts.encls) (keeps : RunKeeps cpu after old new) (few : ran.completed ≤ n)
      (to : (state : State) → IsMachine parts.layout cpu parts.table parts.encls state → RunsTo parts.layout cpu.lp n state ran after parts.table new.encls) where
    abbrev ended : Parts
    ended = record parts { encls = new.encls; cpus = set parts.cpus lp.0 after }

    run_to : (state : State) → IsState parts state → MovesTo parts.layout state (Run lp n) (run_applied ran) ended
    run_to state machine =
        let same_lp : after.lp ≡ cpu.lp = ap (λ (c : Cpu). c.lp) keeps.cpu_is in
        let number = numbered parts lp cpu at state machine in
        let r : RunsTo parts.layout lp n state ran after parts.table new.encls =
        subst (λ (q : Lp). RunsTo parts.layout q n state ran after parts.table new.encls) number (to state (one_machine parts lp cpu at state machine)) in
        record {
          new = r.new;
          machine = replaced parts lp cpu at state machine after new.encls r.new r.machine same_lp r.others;
          count = r.count;
          move = r.move;
          cause = r.cause;
          notes = r.notes;
        }

    pub run_made : Moves parts (Run lp n) (run_applied ran) ended
    run_made =
        let rest : new.encls ≡ record parts.encls { frames = new.encls.frames; track = new.encls.track } =
        keeps.encls ∙ ap (λ (e : Enclave). record e { frames = new.encls.frames; track = new.encls.track }) here in
        let cycles : new.encls.track.cycles ≡ parts.encls.track.cycles = keeps.cycles ∙ ap (λ (e : Enclave). e.track.cycles) here in
        let spare : new.encls.handles.spare ≡ parts.encls.handles.spare = ap (λ (e : Enclave). e.handles.spare) rest in
        let given : length new.encls.handles.sealed_pages ≡ length parts.encls.handles.sealed_pages = ap (λ (e : Enclave). length e.handles.sealed_pages) rest in
        record {
          layout = refl;
          each = length-set parts.cpus lp.0 after;
          sized = refl;
          moved = run_to;
          refused = λ undone. absurd (cc);
          counts = record { spare = omega (arith, spare); given = omega (arith, given); cycles = omega (arith, cycles); measure = ap (λ (e : Enclave). e.measure) rest };
          few = few;
        }
