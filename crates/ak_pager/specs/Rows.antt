-- What each step of the runtime does, as a table over plain values: what it writes into STATE and the saved-state areas, how it
-- ends, and the registers after it. (The table of the runtime's steps is this project's own.)
use Rattle.std.specs.Prelude.{ℕ, zero, suc, ◌+◌, ◌*◌, List, [], ◌∷◌, ◌++◌, take, drop, nat_lt, ◌==◌, if◌then◌else◌}
use Rattle.ak_core.specs.Layout.{Layout}
use Rattle.ak_core.specs.Mem.{Access}
use Rattle.ak_core.specs.declared.moves.Exit.{Exit}
use Rattle.ak_core.specs.declared.event.StopCause.{StopCause}
use Rattle.ak_core.specs.declared.event.StopCause.TheVariants.{Unmapped, RuntimeUnmapped, FetchNotHonoured, ResumedEarly}
use Rattle.ak_core.specs.declared.registers.Mode.{Mode}
use Rattle.ak_core.specs.declared.registers.Regs.{Regs}
use Rattle.ak_model.specs.Paging.Pages.{pages, code_page}
use Rattle.ak_model.specs.Clusters.Queue.{drops}
use Rattle.ak_model.specs.Flat.Instructions.{reg_of, with_reg, rax, rcx, rdi, rsi}
use Rattle.ak_model.specs.Flat.FlatRuns.{zeroed}
use Rattle.ak_model.specs.Control.ControlState.{Phase, New, Running, Calling, Asked, Ended, Trapped, Dead, Context, Program, Enter, Probe, Finish, Guard, Leave, Reason, Denied, Missed, Broke}
use Rattle.ak_ssa.specs.SavedFrames.{SavedCause, NoCause, ByVector, ByPage, SavedFrame, frame_bytes, area_place, state_place, guard_regs}
use Rattle.ak_pager.specs.Contexts.{reason_for}

-- ---- What a row says

-- STATE stays, or has this phase and queue, and the 200 bytes of a frame; its other bytes are left open
pub data StateChange : Type 0 where
  StateStays : StateChange
  StateSets : (phase : Phase) (queue : List ℕ) (frame : List ℕ) → StateChange

-- the areas stay, the first so many have the guard's frame, or the first has this frame
pub data AreaChange : Type 0 where
  AreasStay : AreaChange
  AreasGuard : (areas : ℕ) → AreaChange
  AreaGets : (frame : SavedFrame) → AreaChange

-- the processor goes on with these registers, or at the probe of this number; or it leaves, or the enclave dies of this cause
pub data StepEnd : Type 0 where
  GoesWith : (regs : Regs) → StepEnd
  GoesProbing : (number : ℕ) → StepEnd
  LeavesWith : (exit : Exit) → StepEnd
  DiesOf : (cause : StopCause) → StepEnd

-- a row of the table
pub record Row : Type 0 where
  pub state : StateChange
  pub areas : AreaChange
  pub ends : StepEnd

-- the row that only leaves
abbrev pub leaving : Exit → Row
leaving exit = record { state = StateStays; areas = AreasStay; ends = LeavesWith exit }

-- ---- What a step reads

-- what a step may read: phase and queue, the bytes of STATE and of SSA(0), the frame that STATE keeps, and the newest saved frame.
-- Where there is no such frame, the row does not depend on it
pub record Reads : Type 0 where
  pub phase : Phase
  pub queue : List ℕ
  pub state : List ℕ
  pub first : List ℕ
  pub kept : SavedFrame
  pub saved : SavedFrame

-- the frame in STATE's bytes
abbrev pub kept_bytes : List ℕ → List ℕ
kept_bytes state = take 200 (drop state_place state)

-- the frame in an area's bytes
abbrev pub area_bytes : List ℕ → List ℕ
area_bytes area = take 200 (drop area_place area)

-- STATE with another phase, queue and frame as they were
abbrev pub with_phase : Reads → Phase → StateChange
with_phase r phase = StateSets phase r.queue (kept_bytes r.state)

-- the frame of the guard
abbrev pub guard_frame : Layout → SavedFrame
guard_frame layout = record { regs = guard_regs (layout.base + 4096 * code_page layout); cause = NoCause }

-- ---- Entries with something saved

-- the enclave dies, and the first areas are guards
abbrev pub dying : Reads → ℕ → StopCause → Row
dying r areas cause = record { state = with_phase r Dead; areas = AreasGuard areas; ends = DiesOf cause }

-- the program's vector ends it
abbrev pub trapping : Reads → ℕ → Row
trapping r v = record { state = with_phase r (Trapped v); areas = AreasGuard 1; ends = LeavesWith (Exit.Trapped v) }

-- the runtime asks for a cluster, and keeps the program's frame
abbrev pub asking : Layout → Reads → ℕ → Row
asking layout r c =
    let d = drops layout r.queue c in
    record { state = StateSets (Asked c) (drop d r.queue) (area_bytes r.first); areas = AreasGuard 1; ends = LeavesWith (Exit.Ask d c) }

-- a page fault of the program, by its reason
abbrev pub program_row : Layout → Reads → Access → Reason → Row
program_row layout r t Denied = trapping r 14
program_row layout r t Broke = dying r 1 (Unmapped t.page t.kind)
program_row layout r t (Missed c) = asking layout r c
program_row layout r t _ = leaving Exit.Nothing

-- a fault while the runtime dealt with another: only a probe accesses a page of the program then
abbrev pub second_cause : Layout → Access → StopCause
second_cause layout t = if nat_lt t.page.0 (pages layout) then FetchNotHonoured t.page t.kind else RuntimeUnmapped t.page t.kind

-- a page fault, by whose it was
abbrev pub mode_row : Layout → Reads → Access → Mode → Row
mode_row layout r t Mode.Runtime = dying r 1 (RuntimeUnmapped t.page t.kind)
mode_row layout r t Mode.Program = program_row layout r t (reason_for layout r.queue Program t)

-- what was saved last, by what was noted of its exit
abbrev pub saved_row : Layout → Reads → ℕ → SavedCause → Row
saved_row layout r k NoCause = leaving Exit.Nothing
saved_row layout r k (ByVector v) = trapping r v
saved_row layout r k (ByPage t) = if k == 2 then dying r 2 (second_cause layout t) else mode_row layout r t r.saved.regs.mode

-- ---- All rows

-- an entry, by phase: the program's first registers, its registers with an answer, the first probe, or what was saved
abbrev pub entry_row : Layout → Reads → ℕ → ℕ → Phase → Row
entry_row layout r k v (Ended s) = leaving (Exit.Ended s)
entry_row layout r k v (Trapped x) = leaving (Exit.Trapped x)
entry_row layout r k v Dead = leaving Exit.Stopped
entry_row layout r zero v New =
    record { state = with_phase r Running; areas = AreasStay; ends = GoesWith (zeroed (layout.base + layout.entry)) }
entry_row layout r zero v Calling =
    record { state = with_phase r Running; areas = AreasStay; ends = GoesWith (with_reg r.kept.regs rax v) }
entry_row layout r (suc zero) v (Asked c) = record { state = StateStays; areas = AreasStay; ends = GoesProbing 0 }
entry_row layout r k v _ = saved_row layout r k r.saved.cause

-- the end of the probes: the frame goes back, with nothing noted
abbrev pub finish_row : Reads → Phase → Row
finish_row r (Asked c) = record {
  state = StateSets Running (r.queue ++ c ∷ []) (kept_bytes r.state);
  areas = AreaGets (record r.kept { cause = NoCause });
  ends = LeavesWith Exit.Ready;
}
finish_row r _ = leaving Exit.Nothing

-- the guard
abbrev pub guard_row : Reads → Phase → Row
guard_row r (Asked c) = record { state = with_phase r Dead; areas = AreasStay; ends = DiesOf ResumedEarly }
guard_row r (Trapped x) = leaving (Exit.Trapped x)
guard_row r _ = leaving Exit.Stopped

-- the program's frame, as a leave step keeps it: it goes on at RCX
abbrev pub left_frame : Regs → SavedFrame
left_frame regs = record { regs = record regs { rip = reg_of regs rcx; mode = Mode.Program }; cause = NoCause }

-- a call leaves, or the program ends
abbrev pub leave_row : Layout → Reads → Regs → ℕ → ℕ → Row
leave_row layout r regs zero s =
    record { state = StateSets (Ended s) r.queue (frame_bytes layout (left_frame regs)); areas = AreasStay; ends = LeavesWith (Exit.Ended s) }
leave_row layout r regs (suc b) a =
    record { state = StateSets Calling r.queue (frame_bytes layout (left_frame regs)); areas = AreasStay; ends = LeavesWith (Exit.Call (suc b) a) }

-- the row of a context
abbrev pub row_of : Layout → Reads → Regs → Context → Row
row_of layout r regs (Enter k v) = entry_row layout r k v r.phase
row_of layout r regs (Probe i) = record { state = StateStays; areas = AreasStay; ends = GoesProbing (suc i) }
row_of layout r regs Finish = finish_row r r.phase
row_of layout r regs Guard = guard_row r r.phase
row_of layout r regs (Leave b a) = leave_row layout r regs (reg_of regs rdi) (reg_of regs rsi)
row_of layout r regs Program = leaving Exit.Nothing
