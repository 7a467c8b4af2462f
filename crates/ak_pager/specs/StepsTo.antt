-- What one step of the runtime does to a memory that holds some pages, and to registers; and what must hold before it.
use Rattle.std.specs.Prelude.{◌≡◌, ◌≢◌, ℕ, suc, ◌+◌, ◌*◌, ◌<◌, Bool, false, List, [], ◌∷◌, ◌++◌, length, slice_get, All, Option, Some, None}
use Rattle.std.specs.Bool.{then_some}
use Rattle.ak_core.specs.Layout.{Layout}
use Rattle.ak_core.specs.Mem.{Access}
use Rattle.ak_core.specs.declared.registers.Mode.{Mode}
use Rattle.ak_core.specs.declared.registers.Regs.{Regs}
use Rattle.ak_model.specs.Paging.Pages.{ssa_page, state_page}
use Rattle.ak_model.specs.Clusters.Queue.{is_in}
use Rattle.ak_model.specs.Flat.Instructions.{reg_of, rcx, number_at}
use Rattle.ak_model.specs.Flat.FlatRuns.{Flat}
use Rattle.ak_model.specs.Control.ControlState.{Phase, Calling, Asked, Context, Program, Enter, Reason, Raised, Denied, Missed, Broke, Faulted, Saved, Control}
use Rattle.ak_model.specs.Control.RuntimeTurn.{accesses}
use Rattle.ak_model.specs.Laws.StepRows.{HasRow}
use Rattle.ak_model.specs.Laws.Orderly.{IsDistinct}
use Rattle.ak_pager.specs.declared.turn.RtTurn.{RtTurn}
use Rattle.ak_pager.specs.Contexts.{IsAtStep, Gives}
use Rattle.ak_ssa.specs.SavedFrames.{SavedFrame, area_place, state_place, HasFrame}
use Rattle.ak_ssa.specs.SavedRegisters.{AreRegs}
use Rattle.ak_ssa.specs.FramesFit.{FrameFits}
use Rattle.ak_pager.specs.RuntimePages.{OfCopy, Copies, phase_number, SaysMore, AreasStand, IsState}
use Rattle.ak_pager.specs.Rows.{StateChange, StateStays, StateSets, AreaChange, AreasStay, AreasGuard, AreaGets, StepEnd, GoesWith, GoesProbing, LeavesWith, DiesOf, Row, Reads, kept_bytes, guard_frame, row_of}

-- ---- Before the step

-- what the entry step of this number saved may be at most
abbrev pub IsSmall : Context → Type 0
IsSmall (Enter k v) = k < 3
IsSmall _ = Unit {0}

-- a reason of the program's stands with its context alone, and a fault of the runtime's never does
abbrev pub IsReason : Context → Reason → Type 0
IsReason context (Raised v) = context ≡ Program
IsReason context Denied = context ≡ Program
IsReason context (Missed c) = context ≡ Program
IsReason context Broke = context ≡ Program
IsReason context (Faulted t) = context ≢ Program
IsReason context _ = Unit {0}

-- in each saved context; and only the oldest is the program's
abbrev pub AreReasons : List Saved → Type 0
AreReasons [] = Unit {0}
AreReasons (saved ∷ older) = IsReason saved.context saved.reason × (saved.context ≡ Program → older ≡ []) × AreReasons older

-- a cluster that is asked for is one of the layout's, and out
abbrev pub IsAskedFor : Layout → List ℕ → Phase → Type 0
IsAskedFor layout queue (Asked c) = (c < layout.clusters) × (is_in queue c ≡ false)
IsAskedFor layout queue _ = Unit {0}

-- the pages that a memory holds, with their bytes
abbrev pub memory_of : (ℕ → Bool) → (ℕ → List ℕ) → Copies
memory_of holds bytes p = then_some (holds p) (bytes p)

-- a control state for which a step is defined, and which registers and memory give, where the program is at this flat state
pub record MayStep (layout : Layout) (control : Control) (context : Context) (flat : Flat) (regs : Regs) (memory : Copies) : Type 0 where
  pub mode : regs.mode ≡ Mode.Runtime
  pub row : HasRow layout control context
  pub small : IsSmall context
  pub reasons : AreReasons control.stack
  pub distinct : IsDistinct control.queue
  pub known : All (λ c. c < layout.clusters) control.queue
  pub asked : IsAskedFor layout control.queue control.phase
  pub registers : Gives layout control.phase flat context regs
  pub state : OfCopy (memory (state_page layout)) (IsState layout control.phase control.queue flat)
  pub areas : AreasStand layout control.phase control.queue flat memory control.stack

-- ---- After the step

-- the step's end shows in outcome and registers; which registers stay where the processor leaves is left open
abbrev pub EndsAs : Layout → StepEnd → RtTurn → Regs → Type 0
EndsAs layout (GoesWith after) outcome regs = (outcome ≡ RtTurn.Go) × (regs ≡ after)
EndsAs layout (GoesProbing i) outcome regs = (outcome ≡ RtTurn.Go) × IsAtStep layout regs 48 × (reg_of regs rcx ≡ i)
EndsAs layout (LeavesWith exit) outcome regs = outcome ≡ RtTurn.Leave exit
EndsAs layout (DiesOf cause) outcome regs = outcome ≡ RtTurn.Dead cause

-- bytes of STATE with this phase, queue and frame
pub record HasState (phase : Phase) (queue : List ℕ) (frame bytes : List ℕ) : Type 0 where
  pub phase_is : number_at bytes 0 8 ≡ phase_number phase
  pub more : SaysMore phase bytes
  pub size : number_at bytes 24 8 ≡ length queue
  pub clusters : (i c : ℕ) → slice_get queue i ≡ Some c → number_at bytes (1024 + 2 * i) 2 ≡ c
  pub frame_is : kept_bytes bytes ≡ frame

-- STATE after the step
abbrev pub StateIs : StateChange → List ℕ → List ℕ → Type 0
StateIs StateStays old new = new ≡ old
StateIs (StateSets phase queue frame) old new = HasState phase queue frame new

-- the areas after the step
abbrev pub AreasAre : Layout → AreaChange → (ℕ → List ℕ) → (ℕ → List ℕ) → Type 0
AreasAre layout AreasStay old new = (i : ℕ) → i < 3 → new (ssa_page layout i) ≡ old (ssa_page layout i)
AreasAre layout (AreasGuard n) old new =
    ((i : ℕ) → i < n → HasFrame layout area_place (new (ssa_page layout i)) (guard_frame layout))
    × ((i : ℕ) → i < 3 → (i < n → ⊥) → new (ssa_page layout i) ≡ old (ssa_page layout i))
AreasAre layout (AreaGets frame) old new =
    HasFrame layout area_place (new (ssa_page layout 0)) frame
    × ((i : ℕ) → i < 3 → (i < 1 → ⊥) → new (ssa_page layout i) ≡ old (ssa_page layout i))

-- the row shows in the memory's bytes, in outcome and registers
pub record Performs (layout : Layout) (row : Row) (old new : ℕ → List ℕ) (outcome : RtTurn) (regs : Regs) : Type 0 where
  pub ends : EndsAs layout row.ends outcome regs
  pub state : StateIs row.state (old (state_page layout)) (new (state_page layout))
  pub areas : AreasAre layout row.areas old new
  pub others : (p : ℕ) → p ≢ state_page layout → ((i : ℕ) → i < 3 → p ≢ ssa_page layout i) → new p ≡ old p

-- the frame that STATE keeps in a phase that keeps one; the bytes have just one that fits
abbrev pub ReadsKept : Layout → Phase → List ℕ → SavedFrame → Type 0
ReadsKept layout Calling bytes frame = HasFrame layout state_place bytes frame × AreRegs frame.regs
ReadsKept layout (Asked c) bytes frame = HasFrame layout state_place bytes frame × AreRegs frame.regs
ReadsKept layout _ bytes frame = Unit {0}

-- the newest saved frame, at an entry with something saved
abbrev pub ReadsSaved : Layout → (ℕ → List ℕ) → Context → SavedFrame → Type 0
ReadsSaved layout bytes (Enter (suc k) v) frame = HasFrame layout area_place (bytes (ssa_page layout k)) frame × FrameFits layout frame
ReadsSaved layout bytes _ frame = Unit {0}

-- what is read, with these two frames
abbrev pub reads_of : Layout → Phase → List ℕ → (ℕ → List ℕ) → SavedFrame → SavedFrame → Reads
reads_of layout phase queue bytes kept saved =
    record { phase = phase; queue = queue; state = bytes (state_page layout); first = bytes (ssa_page layout 0); kept = kept; saved = saved }

-- the step where no access is refused: its row, whichever frames the bytes have
abbrev pub WorksBy : Layout → Control → Context → Regs → (ℕ → List ℕ) → (ℕ → List ℕ) → RtTurn → Regs → Type 0
WorksBy layout control context before old new outcome after =
    (kept saved : SavedFrame) → ReadsKept layout control.phase (old (state_page layout)) kept → ReadsSaved layout old context saved →
    Performs layout (row_of layout (reads_of layout control.phase control.queue old kept saved) before context) old new outcome after

-- one step: the accesses in order; the first refused one faults and changes nothing; else its row
pub record StepsTo (layout : Layout) (control : Control) (context : Context) (before : Regs) (old new : ℕ → List ℕ) (granted : List Access) (refused : Option Access) (outcome : RtTurn) (after : Regs) : Type 0 where
  pub works : refused ≡ None → (granted ≡ accesses layout control context) × WorksBy layout control context before old new outcome after
  pub faults : (t : Access) → refused ≡ Some t →
      ((later : List Access) × (granted ++ t ∷ later ≡ accesses layout control context)) × (new ≡ old) × (after ≡ before) × (outcome ≡ RtTurn.Faulted t)
