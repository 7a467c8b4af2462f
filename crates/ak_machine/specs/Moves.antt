-- What a move of the kernel does to a machine.
use Rattle.std.specs.Prelude.{◌≡◌, ℕ, ◌+◌, ◌≤◌, false, length}
use Rattle.ak_core.specs.Layout.{Layout}
use Rattle.ak_core.specs.declared.moves.Answer.{Answer}
use Rattle.ak_core.specs.declared.moves.Move.{Move}
use Rattle.ak_core.specs.declared.moves.Move.TheVariants.{Run}
use Rattle.ak_model.specs.Kernels.Repeats.{is_done}
use Rattle.ak_relation.specs.Relation.Causes.{NamesMoveCause}
use Rattle.ak_relation.specs.Relation.Does.{IsMove}
use Rattle.ak_relation.specs.Relation.Tells.{TellsMove}
use Rattle.ak_relation.specs.State.MachineState.{State}
use Rattle.ak_encls.specs.Answering.{given_by}
use Rattle.ak_encls.specs.Enclave.{Enclave}
use Rattle.ak_turns.specs.Running.{fault_in, outcome_of}
use Rattle.ak_turns.specs.WholeRuns.{event_after}
use Rattle.ak_turns.specs.declared.notes.ProgramNote.{ProgramNote}
use Rattle.ak_turns.specs.declared.notes.RuntimeNote.{RuntimeNote}
use Rattle.ak_machine.specs.Machines.{IsState, Parts}
use Rattle.ak_machine.specs.declared.applied.Applied.{Applied}

-- what a move with this answer comes to, where no turn was made
abbrev pub plainly : Answer → Applied
plainly a = record { answer = a; completed = 0; program = ProgramNote.Plain; runtime = RuntimeNote.Quiet }

-- the turns that a move may make
abbrev pub turns_in : Move → ℕ
turns_in (Run lp n) = n
turns_in _ = 0

-- the move leads from this state to one of the machine of these parts; it is one of the definitions, with its answer and its event; so
-- many instructions were completed; the cause of death is the one that the runtime's note names; and the move tells what the two notes
-- say
pub record MovesTo (layout : Layout) (old : State) (m : Move) (applied : Applied) (parts : Parts) : Type 0 where
  pub new : State
  pub machine : IsState parts new
  pub count : new.count ≡ old.count + applied.completed
  pub move : IsMove layout old new m applied.answer (event_after layout old.queue new.count applied.program)
  pub cause : NamesMoveCause layout old new m applied.answer (event_after layout old.queue new.count applied.program) (outcome_of applied.runtime)
  pub notes : TellsMove layout old new m applied.answer (event_after layout old.queue new.count applied.program) (fault_in applied.program) (outcome_of applied.runtime)

-- a write-out that is done gives a handle and takes one of the spare; a move makes one cycle of tracking at most; and the measurement
-- stays as the build left it
pub record Counts (old new : Enclave) (a : Answer) : Type 0 where
  pub spare : new.handles.spare + given_by a ≡ old.handles.spare
  pub given : length new.handles.sealed_pages ≡ length old.handles.sealed_pages + given_by a
  pub cycles : new.track.cycles ≤ old.track.cycles + 1
  pub measure : new.measure ≡ old.measure

-- the move is made from each state of the machine, and keeps the layout, and how many processors and entries of the page table there
-- are; one that is refused changes nothing
pub record Moves (before : Parts) (m : Move) (applied : Applied) (after : Parts) : Type 0 where
  pub layout : after.layout ≡ before.layout
  pub each : length after.cpus ≡ length before.cpus
  pub sized : length after.table ≡ length before.table
  pub moved : (state : State) → IsState before state → MovesTo before.layout state m applied after
  pub refused : is_done applied.answer ≡ false → after ≡ before
  pub counts : Counts before.encls after.encls applied.answer
  pub few : applied.completed ≤ turns_in m
