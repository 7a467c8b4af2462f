-- A processor that goes on after a turn stands at a moment of the trace again.
use Rattle.std.proofs.Common.{◌≡◌, true, sym, subst}
use Rattle.std.specs.Prelude.{Option, None}
use Rattle.ak_core.specs.Layout.{Layout}
use Rattle.ak_core.specs.declared.moves.Exit.{Exit}
use Rattle.ak_core.specs.declared.page.Lp.{Lp}
use Rattle.ak_model.specs.Paging.Inside.{inside}
use Rattle.ak_relation.specs.Relation.Does.{IsTurn}
use Rattle.ak_relation.specs.State.MachineState.{State}
use Rattle.ak_enclu.specs.declared.cpu.Cpu.{Cpu}
use Rattle.ak_memory.specs.declared.memory.Memory.{Memory}
use Rattle.ak_turns.specs.Running.{IsRunning, Runs, TurnsTo, event_of}
use Rattle.ak_turns.specs.declared.notes.Turned.{Turned}

pub runs_on : (layout : Layout) (cpu after : Cpu) (memory new : Memory) (turned : Turned) → Runs layout cpu memory
    → ((state : State) → IsRunning layout cpu memory state → TurnsTo layout cpu.lp.0 state turned after new) → after.lp ≡ cpu.lp → turned.exit ≡ None → Runs layout after new
runs_on layout cpu after memory new turned runs turns same stays =
    let t = turns runs.state runs.machine in
    let turn = subst (λ (exit : Option Exit). IsTurn layout cpu.lp.0 runs.state t.new exit (event_of layout runs.state.queue runs.state.count turned.program)) stays t.turn in
    let goes = turn runs.image runs.past runs.control runs.turns runs.within runs.stands 0 in
    record {
      image = runs.image;
      past = runs.past;
      control = goes.control;
      turns = goes.turns;
      state = t.new;
      machine = t.machine;
      stands = goes.stands;
      within = subst (λ (lp : Lp). inside runs.past lp.0 ≡ true) (sym same) runs.within;
    }
