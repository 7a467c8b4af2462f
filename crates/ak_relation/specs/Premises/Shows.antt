-- What the machine promises of a turn in the runtime's mode: the runtime's step over a memory of its frames, and what it does with the
-- outcome.
use Rattle.std.specs.Prelude.{◌≡◌, ℕ, Bool, true, List, Option, Some, None}
use Rattle.ak_core.specs.Layout.{Layout}
use Rattle.ak_core.specs.Mem.{Access}
use Rattle.ak_core.specs.declared.registers.Mode.{Mode}
use Rattle.ak_core.specs.declared.registers.Regs.{Regs}
use Rattle.ak_model.specs.Paging.Histories.{History}
use Rattle.ak_model.specs.Flat.FlatRuns.{Flat}
use Rattle.ak_model.specs.Control.ControlState.{Context, Control}
use Rattle.ak_relation.specs.State.MachineState.{State}
use Rattle.ak_relation.specs.Bytes.Pages.{IsTcs}
use Rattle.ak_ssa.specs.SavedFrames.{ByPage}
use Rattle.ak_relation.specs.State.Tables.{TablesStand}
use Rattle.ak_relation.specs.Premises.Saving.{Saves}
use Rattle.ak_pager.specs.StepsTo.{memory_of, MayStep, StepsTo}
use Rattle.ak_pager.specs.declared.turn.RtTurn.{RtTurn}
use Rattle.ak_relation.specs.Premises.Works.{IsMemory, AreFound, IsLost, Writes, KeepsTables, Ends}

-- what the memory sees, by the machine's tables
pub record MemorySees (layout : Layout) (past : History) (holds : ℕ → Bool) (before : ℕ → List ℕ) (granted : List Access) (refused : Option Access) (old : State) : Type 0 where
  pub memory : IsMemory layout past old holds before
  pub found : AreFound layout past holds granted
  pub lost : IsLost layout past refused

-- what a step with no refused access leaves in the machine
pub record StepLeaves (layout : Layout) (past : History) (lp : ℕ) (holds : ℕ → Bool) (before after : ℕ → List ℕ) (outcome : RtTurn) (regs : Regs) (old new : State) : Type 0 where
  pub writes : Writes layout past holds before after old new
  pub kept : KeepsTables layout past old new
  pub ends : Ends lp outcome regs old new

-- the registers are in the runtime's mode; for each control state for which a step is defined, its contract holds of registers, bytes and
-- accesses before and after; and the machine does as the outcome says. A refused access saves the context
pub record ShowsStep (layout : Layout) (lp : ℕ) (old new : State) (outcome : RtTurn) : Type 0 where
  pub mode : (old.processors lp).regs.mode ≡ Mode.Runtime
  pub holds : ℕ → Bool
  pub before : ℕ → List ℕ
  pub after : ℕ → List ℕ
  pub granted : List Access
  pub refused : Option Access
  pub regs : Regs
  pub steps : (control : Control) (context : Context) (flat : Flat) → MayStep layout control context flat (old.processors lp).regs (memory_of holds before) →
      StepsTo layout control context (old.processors lp).regs before after granted refused outcome regs
  pub sees : (past : History) → TablesStand layout past old → MemorySees layout past holds before granted refused old
  pub works : refused ≡ None → (past : History) → TablesStand layout past old → StepLeaves layout past lp holds before after outcome regs old new
  pub faults : (t : Access) → refused ≡ Some t → (saved : ℕ) (pending : Bool) → IsTcs saved pending (old.frames (old.processors lp).tcs) → Saves layout lp saved true (ByPage t) old new
