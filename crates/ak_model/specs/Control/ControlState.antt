-- The control state of an enclave: all of it that the kernel may know besides its own moves. It has no byte of a page.
use Rattle.std.specs.Prelude.{ℕ, Bool, true, false, List, [], length, Option, Some, None}
use Rattle.ak_core.specs.declared.page.Fault.{Fault}
use Rattle.ak_core.specs.declared.event.Event.{Event}
use Rattle.ak_core.specs.declared.event.StopCause.{StopCause}

-- where the exchange of calls and misses between program, runtime and kernel stands
pub data Phase : Type 0 where
  New : Phase
  Running : Phase
  Calling : Phase
  Asked : (cluster : ℕ) → Phase
  Ended : (status : ℕ) → Phase
  Trapped : (vector : ℕ) → Phase
  Dead : Phase

-- what a processor inside does next, and so what a saved frame goes on with
pub data Context : Type 0 where
  Program : Context
  Enter : (cssa value : ℕ) → Context
  Probe : (number : ℕ) → Context
  Finish : Context
  Guard : Context
  Leave : (number argument : ℕ) → Context

-- why a context was saved
pub data Reason : Type 0 where
  Interrupted : Reason
  Cleared : Reason
  Raised : (vector : ℕ) → Reason
  Denied : Reason
  Missed : (cluster : ℕ) → Reason
  Broke : Reason
  Faulted : (access : Fault) → Reason

-- a saved context, and why it was saved
pub record Saved : Type 0 where
  pub context : Context
  pub reason : Reason

-- why the enclave stopped: Broken stands for an unmapped page of the program, which is the program's own and no control
-- state; Named has each of the other causes
pub data Cause : Type 0 where
  ByBreak : Cause
  Named : (cause : StopCause) → Cause

-- the control state
pub record Control : Type 0 where
  pub phase : Phase
  pub queue : List ℕ  -- the clusters that are in, the next to leave first
  pub stack : List Saved  -- the saved contexts, the newest first; their number is CSSA
  pub now : Option Context  -- the context of the processor inside
  pub pending : Bool  -- resuming is refused until the next entry
  pub count : ℕ  -- completed instructions of the program
  pub rest : List Event  -- what the program has still to show
  pub returned : List ℕ  -- what its calls returned, in order
  pub cause : Option Cause  -- why it stopped

-- after the build no cluster is in
abbrev pub control_at_build : List Event → Control
control_at_build tape =
    record { phase = New; queue = []; stack = []; now = None; pending = false; count = 0; rest = tape; returned = []; cause = None }

-- how many contexts are saved
abbrev pub cssa : Control → ℕ
cssa control = length control.stack

-- the first cause stays
abbrev pub first_cause : Option Cause → Cause → Option Cause
first_cause None cause = Some cause
first_cause (Some earlier) cause = Some earlier

-- a cluster is asked for
abbrev pub is_asked : Phase → Bool
is_asked (Asked c) = true
is_asked _ = false
