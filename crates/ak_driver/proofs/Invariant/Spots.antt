-- Where an honest run stands: the control states that it comes to, between moves and between turns.
use Rattle.std.specs.Prelude.{ℕ, Bool, true, false, List, [], ◌∷◌, Option, Some, None}
use Rattle.ak_core.specs.declared.event.Event.{Event}
use Rattle.ak_model.specs.Control.ControlState.{Phase, New, Running, Calling, Asked, Ended, Trapped, Context, Program, Enter, Probe, Finish, Guard, Leave, Reason, Cleared, Raised, Denied, Missed, Saved, Control}

-- how the program may be left
pub data Fault : Type 0 where
  ByVector : (vector : ℕ) → Fault
  ByDenial : Fault
  ByMiss : (cluster : ℕ) → Fault

-- why its context is saved then
abbrev pub reason_of : Fault → Reason
reason_of (ByVector v) = Raised v
reason_of ByDenial = Denied
reason_of (ByMiss c) = Missed c

-- the steps that serve an entry while a cluster is asked for
pub data AnswerStep : Type 0 where
  Begins : (value : ℕ) → AnswerStep
  Probes : (number : ℕ) → AnswerStep
  Finishes : AnswerStep

-- the context of such a step
abbrev pub context_of : AnswerStep → Context
context_of (Begins v) = Enter 1 v
context_of (Probes i) = Probe i
context_of Finishes = Finish

-- how a run ends
pub data End : Type 0 where
  ByStatus : (status : ℕ) → End
  ByTrap : (vector : ℕ) → End

-- the phase then
abbrev pub end_phase : End → Phase
end_phase (ByStatus s) = Ended s
end_phase (ByTrap v) = Trapped v

-- where a run stands
pub data Spot : Type 0 where
  Idle : (called : Bool) → Spot  -- nobody is inside and nothing is saved: at the start, or after a call
  Entered : (called : Bool) (value : ℕ) → Spot  -- and now a processor has entered
  InProgram : Spot
  Leaving : (number argument : ℕ) → Spot  -- the program calls
  Left : (fault : Fault) → Spot  -- the program's fault is saved, and resuming refused
  Handling : (fault : Fault) (value : ℕ) → Spot  -- a processor has entered to handle it
  Requested : (cluster : ℕ) → Spot  -- nobody is inside, and a cluster is asked for
  Answering : (cluster : ℕ) (step : AnswerStep) → Spot  -- a processor has entered after it was fetched
  Resumable : Spot  -- the program may be resumed
  Over : (end : End) (stack : List Saved) → Spot  -- it has ended or was trapped

-- what a spot leaves open of the control state
pub record Progress : Type 0 where
  pub queue : List ℕ
  pub count : ℕ
  pub rest : List Event
  pub returned : List ℕ

-- the phase before the program runs
abbrev pub idle_phase : Bool → Phase
idle_phase true = Calling
idle_phase false = New

-- the program's context is saved for this reason
abbrev pub program_saved : Reason → List Saved
program_saved reason = record { context = Program; reason = reason } ∷ []

-- the guard stands in its place
abbrev pub guard_saved : List Saved
guard_saved = record { context = Guard; reason = Cleared } ∷ []

-- a control state without a cause
abbrev pub without_cause : Phase → List Saved → Option Context → Bool → Progress → Control
without_cause phase stack now pending rest =
    record { phase = phase; queue = rest.queue; stack = stack; now = now; pending = pending; count = rest.count; rest = rest.rest; returned = rest.returned; cause = None }

-- the control state at a spot
abbrev pub control_at : Spot → Progress → Control
control_at (Idle called) rest = without_cause (idle_phase called) [] None false rest
control_at (Entered called v) rest = without_cause (idle_phase called) [] (Some (Enter 0 v)) false rest
control_at InProgram rest = without_cause Running [] (Some Program) false rest
control_at (Leaving b a) rest = without_cause Running [] (Some (Leave b a)) false rest
control_at (Left fault) rest = without_cause Running (program_saved (reason_of fault)) None true rest
control_at (Handling fault v) rest = without_cause Running (program_saved (reason_of fault)) (Some (Enter 1 v)) false rest
control_at (Requested c) rest = without_cause (Asked c) guard_saved None false rest
control_at (Answering c step) rest = without_cause (Asked c) guard_saved (Some (context_of step)) false rest
control_at Resumable rest = without_cause Running (program_saved Cleared) None false rest
control_at (Over end stack) rest = without_cause (end_phase end) stack None false rest

-- a processor is inside at this spot
abbrev pub is_within : Spot → Bool
is_within (Entered called v) = true
is_within InProgram = true
is_within (Leaving b a) = true
is_within (Handling fault v) = true
is_within (Answering c step) = true
is_within _ = false

-- a cluster is asked for at this spot
abbrev pub asks : Spot → Bool
asks (Requested c) = true
asks (Answering c step) = true
asks _ = false

-- a request waits for its service
abbrev pub is_requested : Spot → Bool
is_requested (Requested c) = true
is_requested _ = false
