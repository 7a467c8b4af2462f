-- A turn of a processor that is inside, of a machine whose memory has the translations that this processor has cached: it is a turn of
-- the definitions.
use Rattle.std.specs.Prelude.{◌≡◌, ℕ, ◌+◌, Bool, true, false, List, [], Option, Some, None, IsSome, is_none, ◌==◌, if◌then◌else◌}
use Rattle.ak_core.specs.Layout.{Layout}
use Rattle.ak_core.specs.Mem.{Access}
use Rattle.ak_core.specs.declared.event.Event.{Event}
use Rattle.ak_core.specs.declared.event.Event.TheVariants.{Call, Trap}
use Rattle.ak_core.specs.declared.moves.Exit.{Exit}
use Rattle.ak_model.specs.Control.ControlState.{Control}
use Rattle.ak_model.specs.Paging.Histories.{History}
use Rattle.ak_model.specs.Paging.Inside.{inside}
use Rattle.ak_model.specs.Tapes.ProgramTurns.{ProgramTurn}
use Rattle.ak_pager.specs.declared.turn.RtTurn.{RtTurn}
use Rattle.ak_relation.specs.Program.FaultedTurns.{fault_event}
use Rattle.ak_relation.specs.Relation.Causes.{NamesCause}
use Rattle.ak_relation.specs.Relation.Does.{IsTurn, at_moment}
use Rattle.ak_relation.specs.Relation.Stands.{Stands}
use Rattle.ak_relation.specs.Relation.Tells.{TellsTurn}
use Rattle.ak_relation.specs.State.MachineState.{State}
use Rattle.ak_enclu.specs.Machines.{IsMachine}
use Rattle.ak_enclu.specs.declared.cpu.Cpu.{Cpu}
use Rattle.ak_memory.specs.declared.memory.Memory.{Memory}
use Rattle.ak_turns.specs.declared.notes.ProgramNote.{ProgramNote}
use Rattle.ak_turns.specs.declared.notes.RuntimeNote.{RuntimeNote}
use Rattle.ak_turns.specs.declared.notes.Turned.{Turned}

-- ---- The machine

-- the machine has this processor and this memory
abbrev pub IsRunning : Layout → Cpu → Memory → State → Type 0
IsRunning layout cpu memory state = IsMachine layout (record cpu { tlb = memory.tlb }) memory.table memory.encls state

-- some such machine stands at a moment of a trace, and the processor is inside
pub record Runs (layout : Layout) (cpu : Cpu) (memory : Memory) : Type 0 where
  pub image : List ℕ
  pub past : History
  pub control : Control
  pub turns : List ProgramTurn
  pub state : State
  pub machine : IsRunning layout cpu memory state
  pub stands : Stands layout image (at_moment past control turns state)
  pub within : inside past cpu.lp.0 ≡ true

-- ---- What a turn tells

-- the event that the program showed, after so many completed instructions
abbrev pub event_of : Layout → List ℕ → ℕ → ProgramNote → Option Event
event_of layout queue count ProgramNote.Plain = None
event_of layout queue count (ProgramNote.Called b a) = Some (Call count b a)
event_of layout queue count (ProgramNote.Trapped v) = Some (Trap count v)
event_of layout queue count (ProgramNote.Faulted t) = Some (fault_event layout queue count t)

-- the access by which the program faulted, if the note is of one
abbrev pub fault_in : ProgramNote → Option Access
fault_in (ProgramNote.Faulted t) = Some t
fault_in _ = None

-- how many instructions were completed
abbrev pub completed_in : Bool → ℕ
completed_in completed = if completed then 1 else 0

-- a call is completed, and where the program leaves by a vector or a fault nothing is
abbrev pub TellsOf : ProgramNote → Bool → Type 0
TellsOf ProgramNote.Plain completed = Unit {0}
TellsOf (ProgramNote.Called b a) completed = completed ≡ true
TellsOf (ProgramNote.Trapped v) completed = completed ≡ false
TellsOf (ProgramNote.Faulted t) completed = completed ≡ false

-- the outcome of the runtime's step that the note tells
abbrev pub outcome_of : RuntimeNote → RtTurn
outcome_of RuntimeNote.Quiet = RtTurn.Go
outcome_of (RuntimeNote.Faulted t) = RtTurn.Faulted t
outcome_of (RuntimeNote.Dead cause) = RtTurn.Dead cause

-- ---- A turn

-- the turn leads from the machine to one with this processor and this memory, and is one of the definitions: with its exit, the event
-- that the program showed, the instructions that were completed, and the cause that the runtime's note names; and it tells what the two
-- notes say
pub record TurnsTo (layout : Layout) (lp : ℕ) (old : State) (turned : Turned) (cpu : Cpu) (memory : Memory) : Type 0 where
  pub new : State
  pub machine : IsRunning layout cpu memory new
  pub others : (q : ℕ) → (q == lp) ≡ false → new.processors q ≡ old.processors q
  pub count : new.count ≡ old.count + completed_in turned.completed
  pub queue : turned.exit ≡ None → new.queue ≡ old.queue
  pub turn : IsTurn layout lp old new turned.exit (event_of layout old.queue old.count turned.program)
  pub cause : NamesCause layout lp old new turned.exit (event_of layout old.queue old.count turned.program) (outcome_of turned.runtime)
  pub notes : TellsTurn layout lp old (event_of layout old.queue old.count turned.program) (fault_in turned.program) (outcome_of turned.runtime)

-- what a turn with this exit leaves: the processor is outside where it left, holds the frames that it held, and is the one that it was;
-- and of the memory's parts only bytes of frames and tracking differ, but for what is cached
pub record TurnKeeps (exit : Option Exit) (cpu cpu' : Cpu) (old new : Memory) : Type 0 where
  pub cpu_is : cpu' ≡ record cpu { regs = cpu'.regs; inside = is_none exit; tlb = cpu'.tlb }
  pub uncached : cpu.tlb ≡ [] → cpu'.tlb ≡ []
  pub flushed : IsSome exit → new.tlb ≡ []
  pub table : new.table ≡ old.table
  pub encls : new.encls ≡ record old.encls { frames = new.encls.frames; track = new.encls.track }
  pub cycles : new.encls.track.cycles ≡ old.encls.track.cycles
