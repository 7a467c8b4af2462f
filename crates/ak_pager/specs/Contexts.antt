-- What the registers of a context are, and what was noted of the exit by which it was saved. (SDM volume 3D, EENTER, "Asynchronous
-- Enclave Exit"; the addresses of the runtime's steps are this project's own.)
use Rattle.std.specs.Prelude.{◌≡◌, ◌≢◌, ℕ, ◌+◌, ◌*◌, List, length, Option, Some, None, if◌then◌else◌}
use Rattle.ak_core.specs.Layout.{Layout}
use Rattle.ak_core.specs.Mem.{Access}
use Rattle.ak_core.specs.declared.registers.Mode.{Mode}
use Rattle.ak_core.specs.declared.registers.Regs.{Regs}
use Rattle.ak_model.specs.Paging.Pages.{code_page, cluster_at}
use Rattle.ak_model.specs.Clusters.Queue.{is_in}
use Rattle.ak_model.specs.Flat.Instructions.{reg_of, with_reg, rax, rcx, rsi, rdi}
use Rattle.ak_model.specs.Flat.FlatRuns.{Flat, is_forbidden, zeroed}
use Rattle.ak_model.specs.Control.RuntimeTurn.{asked_pages}
use Rattle.ak_model.specs.Control.ControlState.{Phase, Context, Program, Enter, Probe, Finish, Guard, Leave, Reason, Interrupted, Cleared, Raised, Denied, Missed, Broke, Faulted}
use Rattle.ak_ssa.specs.SavedFrames.{SavedCause, NoCause, ByVector, ByPage}

-- ---- Registers

-- the address of a step in CODE
abbrev pub step_address : Layout → ℕ → ℕ
step_address layout offset = layout.base + 4096 * code_page layout + offset

-- a step of the runtime comes next
pub record IsAtStep (layout : Layout) (regs : Regs) (offset : ℕ) : Type 0 where
  pub mode : regs.mode ≡ Mode.Runtime
  pub rip : regs.rip ≡ step_address layout offset

-- equal but for RIP and the mode
pub record SameButRip (regs other : Regs) : Type 0 where
  pub gpr : regs.gpr ≡ other.gpr
  pub cf : regs.cf ≡ other.cf
  pub zf : regs.zf ≡ other.zf
  pub sf : regs.sf ≡ other.sf
  pub of : regs.of ≡ other.of

-- the registers that an entering leaves
abbrev pub entry_regs : Layout → ℕ → ℕ → Regs
entry_regs layout k v = record (with_reg (with_reg (zeroed (step_address layout 0)) rax k) rdi v) { mode = Mode.Runtime }

-- the registers are those of a context, where the program is at this flat state
abbrev pub Gives : Layout → Phase → Flat → Context → Regs → Type 0
Gives layout phase flat Program regs = regs ≡ flat.regs
Gives layout phase flat (Enter k v) regs = regs ≡ entry_regs layout k v
Gives layout phase flat (Probe i) regs = IsAtStep layout regs 48 × (reg_of regs rcx ≡ i)
Gives layout phase flat Finish regs = IsAtStep layout regs 48 × (reg_of regs rcx ≡ length (asked_pages layout phase))
Gives layout phase flat Guard regs = IsAtStep layout regs 16
Gives layout phase flat (Leave b a) regs =
    IsAtStep layout regs 32 × SameButRip regs flat.regs × (reg_of regs rdi ≡ b) × (reg_of regs rsi ≡ a)

-- the registers of the context inside, if there is one
abbrev pub GivesNow : Layout → Phase → Flat → Option Context → Regs → Type 0
GivesNow layout phase flat None regs = Unit {0}
GivesNow layout phase flat (Some context) regs = Gives layout phase flat context regs

-- ---- Reasons

-- the reason for a page fault in this context: the program's is denied, or a break or a miss of its cluster
abbrev pub reason_for : Layout → List ℕ → Context → Access → Reason
reason_for layout queue Program t =
    if is_forbidden layout t then Denied
    else (if is_in queue (cluster_at layout t.page.0) then Broke else Missed (cluster_at layout t.page.0))
reason_for layout queue _ t = Faulted t

-- a page fault was noted, with an access that gives this reason
pub record IsByPage (layout : Layout) (queue : List ℕ) (context : Context) (reason : Reason) (cause : SavedCause) : Type 0 where
  pub access : Access
  pub noted : cause ≡ ByPage access
  pub gives : reason_for layout queue context access ≡ reason

-- what was noted of an exit, by its reason: of an interrupt, and where it was cleared, nothing
abbrev pub IsNoted : Layout → List ℕ → Context → Reason → SavedCause → Type 0
IsNoted layout queue context Interrupted cause = cause ≡ NoCause
IsNoted layout queue context Cleared cause = cause ≡ NoCause
IsNoted layout queue context (Raised v) cause = (cause ≡ ByVector v) × (v ≢ 14)
IsNoted layout queue context Denied cause = IsByPage layout queue context Denied cause
IsNoted layout queue context (Missed c) cause = IsByPage layout queue context (Missed c) cause
IsNoted layout queue context Broke cause = IsByPage layout queue context Broke cause
IsNoted layout queue context (Faulted t) cause = IsByPage layout queue context (Faulted t) cause
