-- A run of turns of a processor that is inside: it is a move of the definitions.
use Rattle.std.specs.Prelude.{◌≡◌, ℕ, ◌+◌, ◌-◌, true, false, List, [], Option, Some, None, ◌==◌}
use Rattle.ak_core.specs.Layout.{Layout}
use Rattle.ak_core.specs.declared.event.Event.{Event}
use Rattle.ak_core.specs.declared.event.Event.TheVariants.{Call, Trap}
use Rattle.ak_core.specs.declared.moves.Answer.{Answer}
use Rattle.ak_core.specs.declared.moves.Move.TheVariants.{Run}
use Rattle.ak_core.specs.declared.page.Lp.{Lp}
use Rattle.ak_model.specs.Control.ControlState.{Context, Leave, Control}
use Rattle.ak_model.specs.Paging.Histories.{History}
use Rattle.ak_model.specs.Paging.Inside.{inside}
use Rattle.ak_model.specs.Tapes.ProgramTurns.{ProgramTurn}
use Rattle.ak_pte.specs.declared.table.Pte.{Pte}
use Rattle.ak_relation.specs.Program.FaultedTurns.{fault_event}
use Rattle.ak_relation.specs.Relation.Causes.{NamesMoveCause}
use Rattle.ak_relation.specs.Relation.Does.{IsMove, at_moment}
use Rattle.ak_relation.specs.Relation.Stands.{Stands}
use Rattle.ak_relation.specs.Relation.Tells.{TellsMove}
use Rattle.ak_relation.specs.Relation.TurnByTurn.{AreTurns}
use Rattle.ak_relation.specs.State.MachineState.{State}
use Rattle.ak_encls.specs.Enclave.{Enclave}
use Rattle.ak_enclu.specs.Machines.{IsMachine}
use Rattle.ak_enclu.specs.declared.cpu.Cpu.{Cpu}
use Rattle.ak_memory.specs.declared.memory.Memory.{Memory}
use Rattle.ak_turns.specs.Running.{IsRunning, Runs, fault_in, outcome_of}
use Rattle.ak_turns.specs.declared.notes.ProgramNote.{ProgramNote}
use Rattle.ak_turns.specs.declared.notes.Ran.{Ran}

-- some machine with this processor, page table and paging part stands at a moment of a trace, and the processor is inside
pub record Stays (layout : Layout) (cpu : Cpu) (table : List Pte) (encls : Enclave) : Type 0 where
  pub image : List ℕ
  pub past : History
  pub control : Control
  pub turns : List ProgramTurn
  pub state : State
  pub machine : IsMachine layout cpu table encls state
  pub stands : Stands layout image (at_moment past control turns state)
  pub within : inside past cpu.lp.0 ≡ true

-- the event that the program showed, where so many instructions are complete after it
abbrev pub event_after : Layout → List ℕ → ℕ → ProgramNote → Option Event
event_after layout queue count ProgramNote.Plain = None
event_after layout queue count (ProgramNote.Called b a) = Some (Call (count - 1) b a)
event_after layout queue count (ProgramNote.Trapped v) = Some (Trap count v)
event_after layout queue count (ProgramNote.Faulted t) = Some (fault_event layout queue count t)

-- a run of up to so many turns leads from the machine to one with this processor, page table and paging part, and is a move of the
-- definitions: with its exit, its event, the instructions that were completed, and the cause that the runtime's note names; and it tells
-- what the two notes say
pub record RunsTo (layout : Layout) (lp : Lp) (turns : ℕ) (old : State) (ran : Ran) (cpu : Cpu) (table : List Pte) (encls : Enclave) : Type 0 where
  pub new : State
  pub machine : IsMachine layout cpu table encls new
  pub others : (q : ℕ) → (q == lp.0) ≡ false → new.processors q ≡ old.processors q
  pub count : new.count ≡ old.count + ran.completed
  pub move : IsMove layout old new (Run lp turns) (Answer.Exit ran.exit) (event_after layout old.queue new.count ran.program)
  pub cause : NamesMoveCause layout old new (Run lp turns) (Answer.Exit ran.exit) (event_after layout old.queue new.count ran.program) (outcome_of ran.runtime)
  pub notes : TellsMove layout old new (Run lp turns) (Answer.Exit ran.exit) (event_after layout old.queue new.count ran.program) (fault_in ran.program) (outcome_of ran.runtime)

-- what a run leaves: the processor is the one that it was, and holds the frames that it held; nothing is cached in the memory; and of
-- the memory's parts only bytes of frames and tracking differ
pub record RunKeeps (cpu cpu' : Cpu) (old new : Memory) : Type 0 where
  pub cpu_is : cpu' ≡ record cpu { regs = cpu'.regs; inside = cpu'.inside; tlb = cpu'.tlb }
  pub uncached : new.tlb ≡ []
  pub table : new.table ≡ old.table
  pub encls : new.encls ≡ record old.encls { frames = new.encls.frames; track = new.encls.track }
  pub cycles : new.encls.track.cycles ≡ old.encls.track.cycles

-- ---- While it runs

-- what the program showed last
abbrev pub note_or : ProgramNote → ProgramNote → ProgramNote
note_or ProgramNote.Plain earlier = earlier
note_or note earlier = note

-- these turns lead from the machine to one with this processor and this memory, with one event at most
pub record RunsSoFar (layout : Layout) (lp taken : ℕ) (old : State) (completed : ℕ) (note : ProgramNote) (cpu : Cpu) (memory : Memory) : Type 0 where
  pub new : State
  pub machine : IsRunning layout cpu memory new
  pub others : (q : ℕ) → (q == lp) ≡ false → new.processors q ≡ old.processors q
  pub count : new.count ≡ old.count + completed
  pub queue : new.queue ≡ old.queue
  pub turns : AreTurns layout lp taken old new (event_after layout old.queue new.count note)

-- the context of a processor that goes on after this note: it is about to leave with a call, where that was shown
abbrev pub GoesWith : ProgramNote → Option Context → Type 0
GoesWith ProgramNote.Plain now = Unit {0}
GoesWith (ProgramNote.Called b a) now = now ≡ Some (Leave b a)
GoesWith (ProgramNote.Trapped v) now = ⊥
GoesWith (ProgramNote.Faulted t) now = ⊥

-- the machine stands at a moment, with the processor inside, in such a context
pub record RunsWith (layout : Layout) (note : ProgramNote) (cpu : Cpu) (memory : Memory) : Type 0 where
  pub runs : Runs layout cpu memory
  pub goes : GoesWith note runs.control.now

-- a processor that was running, and what is left of it
pub record StillRuns (cpu cpu' : Cpu) (old new : Memory) : Type 0 where
  pub cpu_is : cpu' ≡ record cpu { regs = cpu'.regs; inside = cpu'.inside; tlb = cpu'.tlb }
  pub uncached : cpu.tlb ≡ [] → cpu'.tlb ≡ []
  pub table : new.table ≡ old.table
  pub encls : new.encls ≡ record old.encls { frames = new.encls.frames; track = new.encls.track }
  pub cycles : new.encls.track.cycles ≡ old.encls.track.cycles
