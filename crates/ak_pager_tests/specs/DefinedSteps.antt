-- Steps that are defined, by what bytes and registers say.
use Rattle.std.specs.Prelude.{◌≡◌, ℕ, ◌<◌, Bool, true, List, [], length, All, Some, slice_get, ◌+◌, ◌*◌}
use Rattle.ak_core.specs.Layout.{Layout}
use Rattle.ak_core.specs.declared.registers.Regs.{Regs}
use Rattle.ak_model.specs.Control.ControlState.{Phase, New, Running, Calling, Asked, Ended, Trapped, Dead, Program, Saved}
use Rattle.ak_model.specs.Flat.FlatRuns.{Flat}
use Rattle.ak_model.specs.Flat.Instructions.{number_at}
use Rattle.ak_model.specs.Laws.Orderly.{IsDistinct}
use Rattle.ak_ssa.specs.declared.cause.Why.{Why}
use Rattle.ak_ssa.specs.declared.cause.Why.TheVariants.{Interrupt, Vector, PageFault}
use Rattle.ak_ssa.specs.ReadFrames.{cause_of}
use Rattle.ak_ssa.specs.SavedFrames.{why_of}
use Rattle.ak_ssa.specs.FramesFit.{CauseFits}
use Rattle.ak_pager.specs.RuntimePages.{Copies, IsArea, AreasStand, IsState, phase_number, SaysMore}
use Rattle.ak_pager.specs.StepsTo.{IsReason, AreReasons, IsAskedFor}
use Rattle.ak_pager_tests.specs.declared.phase.Phase.{Phase as ReadPhase}

-- the phase of the definitions
abbrev pub phase_of : ReadPhase → Phase
phase_of ReadPhase.New = New
phase_of ReadPhase.Running = Running
phase_of ReadPhase.Calling = Calling
phase_of (ReadPhase.Asked c) = Asked c
phase_of (ReadPhase.Ended s) = Ended s
phase_of (ReadPhase.Trapped v) = Trapped v
phase_of ReadPhase.Dead = Dead

-- the program is at these registers; no step depends on its bytes
abbrev pub program_at : Regs → Flat
program_at regs = record { regs = regs; bytes = [] }

-- the bytes of STATE say this phase
pub record SaysPhase (phase : Phase) (bytes : List ℕ) : Type 0 where
  pub number : number_at bytes 0 8 ≡ phase_number phase
  pub more : SaysMore phase bytes

-- they say this queue, of different clusters of the layout
pub record SaysQueue (layout : Layout) (queue : List ℕ) (bytes : List ℕ) : Type 0 where
  pub size : number_at bytes 24 8 ≡ length queue
  pub clusters : (i c : ℕ) → slice_get queue i ≡ Some c → number_at bytes (1024 + 2 * i) 2 ≡ c
  pub distinct : IsDistinct queue
  pub known : All (λ c. c < layout.clusters) queue

-- they say this phase and a queue that goes with it
pub record SaysState (layout : Layout) (phase : Phase) (program : Regs) (bytes : List ℕ) : Type 0 where
  pub queue : List ℕ
  pub is_queue : SaysQueue layout queue bytes
  pub asked : IsAskedFor layout queue phase
  pub state : IsState layout phase queue (program_at program) bytes

-- what was noted of an exit is nothing, a vector, or an access of a page of the enclave
pub record IsCause (layout : Layout) (why : Why) : Type 0 where
  pub is : why_of layout (cause_of layout why) ≡ why
  pub fits : CauseFits layout (cause_of layout why)

-- registers that are equal one by one
pub record AreSame (regs other : Regs) : Type 0 where
  pub gpr : regs.gpr ≡ other.gpr
  pub rip : regs.rip ≡ other.rip
  pub cf : regs.cf ≡ other.cf
  pub zf : regs.zf ≡ other.zf
  pub sf : regs.sf ≡ other.sf
  pub of : regs.of ≡ other.of
  pub mode : regs.mode ≡ other.mode

-- of the program a vector that is no page fault's
abbrev pub IsProgramWhy : Why → Type 0
IsProgramWhy Interrupt = Unit {0}
IsProgramWhy (Vector v) = v ≡ 14 → ⊥
IsProgramWhy (PageFault address kind) = Unit {0}

-- of the runtime no vector
abbrev pub IsRuntimeWhy : Why → Type 0
IsRuntimeWhy (Vector v) = ⊥
IsRuntimeWhy _ = Unit {0}

-- the bytes of an area have a saved context, which is the program's in the oldest area alone
pub record HasSavedContext (layout : Layout) (phase : Phase) (queue : List ℕ) (flat : Flat) (is_oldest : Bool) (bytes : List ℕ) : Type 0 where
  pub saved : Saved
  pub area : IsArea layout phase queue flat saved bytes
  pub reason : IsReason saved.context saved.reason
  pub oldest : saved.context ≡ Program → is_oldest ≡ true

-- so many areas have one each
pub record HaveSavedContexts (layout : Layout) (phase : Phase) (queue : List ℕ) (flat : Flat) (memory : Copies) (count : ℕ) : Type 0 where
  pub stack : List Saved
  pub count_is : length stack ≡ count
  pub reasons : AreReasons stack
  pub areas : AreasStand layout phase queue flat memory stack
