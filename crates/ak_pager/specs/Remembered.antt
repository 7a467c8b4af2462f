-- What is read of the bytes of STATE.
use Rattle.std.specs.Prelude.{◌≡◌, ℕ, ◌^◌, ◌<◌, List}
use Rattle.ak_model.specs.Flat.Instructions.{number_at}
use Rattle.ak_model.specs.Control.ControlState.{Phase, New, Running, Calling, Asked, Ended, Trapped, Dead}
use Rattle.ak_cluster.specs.QueueBytes.{HasQueue}
use Rattle.ak_pager.specs.declared.state.Phase.{Phase as CodePhase}
use Rattle.ak_pager.specs.declared.state.State.{State}
use Rattle.ak_pager.specs.Rows.{kept_bytes}
use Rattle.ak_pager.specs.RuntimePages.{phase_number, SaysMore}

-- the phase of the definitions
abbrev pub phase_of : CodePhase → Phase
phase_of CodePhase.New = New
phase_of CodePhase.Running = Running
phase_of CodePhase.Calling = Calling
phase_of (CodePhase.Asked c) = Asked c
phase_of (CodePhase.Ended s) = Ended s
phase_of (CodePhase.Trapped v) = Trapped v
phase_of CodePhase.Dead = Dead

-- a cluster that is asked for is a number of 32 bits
abbrev pub PhaseIsSmall : Phase → Type 0
PhaseIsSmall (Asked c) = c < 2 ^ 32
PhaseIsSmall _ = Unit {0}

-- the bytes say this phase
pub record SaysPhase (phase : Phase) (bytes : List ℕ) : Type 0 where
  pub number : number_at bytes 0 8 ≡ phase_number phase
  pub more : SaysMore phase bytes
  pub small : PhaseIsSmall phase

-- what was read is what the bytes say
pub record IsRead (bytes : List ℕ) (state : State) : Type 0 where
  pub phase : (phase : Phase) → SaysPhase phase bytes → phase_of state.phase ≡ phase
  pub queue : (queue : List ℕ) → HasQueue bytes queue → state.queue ≡ queue
  pub frame : state.frame ≡ kept_bytes bytes
