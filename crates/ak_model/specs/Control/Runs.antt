-- Turns of the processor that is inside, and runs of them.
use Rattle.std.specs.Prelude.{ℕ, zero, suc, List, [], ◌∷◌, Option, Some, None}
use Rattle.ak_core.specs.Layout.{Layout}
use Rattle.ak_core.specs.declared.moves.Exit.{Exit}
use Rattle.ak_model.specs.Paging.Histories.{History}
use Rattle.ak_model.specs.Control.ControlState.{Context, Program, Control}
use Rattle.ak_model.specs.Control.OneTurn.{Turn, Goes, Leaves}
use Rattle.ak_model.specs.Control.RuntimeTurn.{runtime_turn}
use Rattle.ak_model.specs.Control.EventTurn.{program_turn}

-- the turn in this context; without one nothing happens
abbrev pub turn_of : Layout → History → Control → Option Context → Turn
turn_of layout past control (Some Program) = program_turn layout control
turn_of layout past control (Some context) = runtime_turn layout past control context
turn_of layout past control None = Goes control

-- the turn of the processor inside
abbrev pub turn : Layout → History → Control → Turn
turn layout past control = turn_of layout past control control.now

-- what a run came to
pub record Ran : Type 0 where
  pub exit : Exit
  pub control : Control

-- the run goes on after a turn, unless the turn left
abbrev pub go_on : Turn → (Control → Ran) → Ran
go_on (Goes control) next = next control
go_on (Leaves exit control) next = record { exit = exit; control = control }

-- up to n turns, ended by the first that leaves
abbrev pub run : Layout → History → ℕ → Control → Ran
run layout past zero control = record { exit = Exit.Still; control = control }
run layout past (suc n) control = go_on (turn layout past control) (run layout past n)

-- the control states from after a turn on, which are none where it left
abbrev pub unless_left : Turn → (Control → List Control) → List Control
unless_left (Goes control) next = next control
unless_left (Leaves exit control) next = []

-- the control state before each turn of a run of up to n turns, in order
abbrev pub before_turns : Layout → History → ℕ → Control → List Control
before_turns layout past zero control = []
before_turns layout past (suc n) control = control ∷ unless_left (turn layout past control) (before_turns layout past n)
