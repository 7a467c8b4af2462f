-- What the machine shows of a step of the runtime: its memory over the frames, what a step writes there, and whether the processor
-- goes on or leaves.
use Rattle.std.specs.Prelude.{◌≡◌, ℕ, Bool, true, false, List, [], ◌∷◌, length, Option, Some, None, ◌==◌}
use Rattle.ak_core.specs.Layout.{Layout}
use Rattle.ak_core.specs.Mem.{Access}
use Rattle.ak_core.specs.declared.registers.Regs.{Regs}
use Rattle.ak_model.specs.Paging.Holdings.{VaFrame, PageFrame}
use Rattle.ak_model.specs.Paging.Histories.{History}
use Rattle.ak_model.specs.Paging.Frames.{held}
use Rattle.ak_model.specs.Paging.Walk.{access_walkable}
use Rattle.ak_core.specs.declared.event.StopCause.{StopCause}
use Rattle.ak_core.specs.declared.event.StopCause.TheVariants.{Unmapped}
use Rattle.ak_model.specs.Control.ControlState.{Context, Program, Cause, ByBreak, Named, Control, first_cause}
use Rattle.ak_track.specs.Steps.{LeavesBy}
use Rattle.ak_relation.specs.State.MachineState.{State}
use Rattle.ak_model.specs.Control.RuntimeTurn.{shown_fault, stuck_cause}
use Rattle.ak_core.specs.declared.moves.Exit.{Exit}
use Rattle.ak_relation.specs.Relation.Stands.{copies_at}
use Rattle.ak_pager.specs.declared.turn.RtTurn.{RtTurn}

-- a context of the runtime's
abbrev pub IsStep : Context → Type 0
IsStep Program = ⊥
IsStep _ = Unit {0}

-- ---- Memory

-- a memory that holds some of the pages that are in frames, with their bytes
abbrev pub IsMemory : Layout → History → State → (ℕ → Bool) → (ℕ → List ℕ) → Type 0
IsMemory layout past state holds bytes = (p : ℕ) → holds p ≡ true → copies_at layout past state p ≡ Some (bytes p)

-- walks found these accesses, of pages that the memory holds
abbrev pub AreFound : Layout → History → (ℕ → Bool) → List Access → Type 0
AreFound layout past holds [] = Unit {0}
AreFound layout past holds (t ∷ accesses) = (access_walkable layout past t ≡ true) × (holds t.page.0 ≡ true) × AreFound layout past holds accesses

-- no walk found the refused access, if there is one
abbrev pub IsLost : Layout → History → Option Access → Type 0
IsLost layout past None = Unit {0}
IsLost layout past (Some t) = access_walkable layout past t ≡ false

-- the pages that the memory holds have new bytes, and each other page has those that it had
pub record Writes (layout : Layout) (past : History) (holds : ℕ → Bool) (before after : ℕ → List ℕ) (old new : State) : Type 0 where
  pub read : IsMemory layout past old holds before
  pub wrote : IsMemory layout past new holds after
  pub stays : (p : ℕ) → holds p ≡ false → copies_at layout past new p ≡ copies_at layout past old p

-- the same of frames, as the machine has it: the memory's pages are in the frames that its page table names; these have the new bytes, and
-- each frame that holds none of them stays
pub record WritesFrames (layout : Layout) (past : History) (holds : ℕ → Bool) (before after : ℕ → List ℕ) (old new : State) : Type 0 where
  pub found : (p : ℕ) → holds p ≡ true → held layout past (old.table p).frame ≡ PageFrame p
  pub read : (p : ℕ) → holds p ≡ true → old.frames (old.table p).frame ≡ before p
  pub wrote : (p : ℕ) → holds p ≡ true → new.frames (old.table p).frame ≡ after p
  pub others : (g : ℕ) → ((p : ℕ) → holds p ≡ true → held layout past g ≡ PageFrame p → ⊥) → new.frames g ≡ old.frames g
  pub sealed_pages : new.sealed_pages ≡ old.sealed_pages

-- ---- The processor

-- all tables stay, and so do frames of slots
pub record KeepsTables (layout : Layout) (past : History) (old new : State) : Type 0 where
  pub slots : (g : ℕ) → held layout past g ≡ VaFrame → new.frames g ≡ old.frames g
  pub whole : (g : ℕ) → length (new.frames g) ≡ 4096
  pub entries : new.entries ≡ old.entries
  pub stamps : new.stamps ≡ old.stamps
  pub sealed_pages : new.sealed_pages ≡ old.sealed_pages
  pub next : new.next ≡ old.next
  pub table : new.table ≡ old.table
  pub count : new.count ≡ old.count
  pub queue : new.queue ≡ old.queue

-- the processor goes on with these registers; nothing was cached
pub record GoesOn (lp : ℕ) (regs : Regs) (old new : State) : Type 0 where
  pub regs_are : (new.processors lp).regs ≡ regs
  pub inside : (new.processors lp).inside ≡ (old.processors lp).inside
  pub fills : (new.processors lp).fills ≡ (old.processors lp).fills
  pub tcs : (new.processors lp).tcs ≡ (old.processors lp).tcs
  pub ssa : (new.processors lp).ssa ≡ (old.processors lp).ssa
  pub others : (q : ℕ) → (q == lp) ≡ false → new.processors q ≡ old.processors q
  pub track : new.track ≡ old.track

-- the processor leaves, and has nothing cached any more
pub record Quits (lp : ℕ) (old new : State) : Type 0 where
  pub left : (new.processors lp).inside ≡ false
  pub flushed : (new.processors lp).fills ≡ []
  pub others : (q : ℕ) → (q == lp) ≡ false → new.processors q ≡ old.processors q
  pub track : new.track ≡ LeavesBy lp ∷ old.track

-- ---- Its end

-- the exit that the outcome of a step shows
abbrev pub exit_of : Layout → RtTurn → Option Exit
exit_of layout RtTurn.Go = None
exit_of layout (RtTurn.Leave exit) = Some exit
exit_of layout (RtTurn.Dead cause) = Some Exit.Stopped
exit_of layout (RtTurn.Faulted t) = Some (shown_fault layout)

-- what the processor does by the outcome: it goes on, or leaves; a refused step is saved, which is said elsewhere
abbrev pub Ends : ℕ → RtTurn → Regs → State → State → Type 0
Ends lp RtTurn.Go regs old new = GoesOn lp regs old new
Ends lp (RtTurn.Leave exit) regs old new = Quits lp old new
Ends lp (RtTurn.Dead cause) regs old new = Quits lp old new
Ends lp (RtTurn.Faulted t) regs old new = ⊥

-- ---- Causes

-- a cause of death as the control state has it: an unmapped page of the program is the program's own
abbrev pub named_by : StopCause → Cause
named_by (Unmapped p k) = ByBreak
named_by cause = Named cause

-- the cause after a step: the first stays; the enclave dies of one, or is stuck at the third fault
abbrev pub CauseIs : Control → RtTurn → Option Cause → Type 0
CauseIs control RtTurn.Go after = after ≡ control.cause
CauseIs control (RtTurn.Leave exit) after = after ≡ control.cause
CauseIs control (RtTurn.Dead cause) after = after ≡ first_cause control.cause (named_by cause)
CauseIs control (RtTurn.Faulted t) after = after ≡ stuck_cause control t
