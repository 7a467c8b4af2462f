use Rattle.std.proofs.Common.{◌≡◌, ◌≤◌, true}
use Rattle.ak_relation.specs.State.MachineState.{State}
use Rattle.ak_turns.specs.Running.{IsRunning}
use Rattle.ak_turns.specs.WholeRuns.{RunsSoFar, RunsWith, StillRuns}
use Rattle.ak_turns.proofs.running.take_turns.Given as goal

abbrev pub invariant-loop-taken : goal.invariant-loop-taken
invariant-loop-taken l = record {
  runs : RunsWith l.layout l.program l.cpu l.memory;
  so_far : (state : State) → IsRunning l.layout l.initial.cpu l.initial.memory state → RunsSoFar l.layout l.initial.cpu.lp.0 l._taken state l.completed l.program l.cpu l.memory;
  keeps : StillRuns l.initial.cpu l.cpu l.initial.memory l.memory;
  inside : l.cpu.inside ≡ true;
  few : l.completed ≤ l._taken;
}
