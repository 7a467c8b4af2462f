-- The turns of the program that the kernel's moves make, each with what is known of it before its move.
use Rattle.std.specs.Prelude.{ℕ, List, [], ◌∷◌, ◌++◌, reverse, flat_map, Option, Some, if◌then◌else◌}
use Rattle.ak_core.specs.Layout.{Layout}
use Rattle.ak_core.specs.declared.moves.Move.{Move}
use Rattle.ak_core.specs.declared.moves.Move.TheVariants.{Run}
use Rattle.ak_core.specs.declared.event.Event.{Event}
use Rattle.ak_model.specs.Paging.Histories.{History}
use Rattle.ak_model.specs.Paging.Inside.{inside}
use Rattle.ak_model.specs.Control.ControlState.{Context, Program, Control}
use Rattle.ak_model.specs.Control.EventTurn.{due}
use Rattle.ak_model.specs.Control.Runs.{before_turns}
use Rattle.ak_model.specs.Control.Trace.{Moment, trace}

-- a turn of the program
pub record ProgramTurn : Type 0 where
  pub lp : ℕ  -- the processor
  pub past : History  -- the history before its move
  pub count : ℕ  -- the instructions that were complete before it
  pub event : Option Event  -- the event that it gives, if it gives one

-- the turn of the program in this control state
abbrev pub turn_at : ℕ → History → Control → ProgramTurn
turn_at lp past control =
    record { lp = lp; past = past; count = control.count; event = due control.count control.rest }

-- the program's turn, if the context is the program's; a step of the runtime is none
abbrev pub turn_in : ℕ → History → Control → Option Context → List ProgramTurn
turn_in lp past control (Some Program) = turn_at lp past control ∷ []
turn_in lp past control _ = []

-- the program turns in these control states, in order
abbrev pub turns_in : ℕ → History → List Control → List ProgramTurn
turns_in lp past controls = flat_map (λ control. turn_in lp past control control.now) controls

-- the program turns of a run of up to n turns, in order
abbrev pub turns_of_run : Layout → ℕ → History → ℕ → Control → List ProgramTurn
turns_of_run layout lp past n control = turns_in lp past (before_turns layout past n control)

-- the program turns of a move, the newest first: those of a run of a processor that is inside
abbrev pub turns_of_move : Layout → Moment → Move → List ProgramTurn
turns_of_move layout moment (Run lp n) =
    if inside moment.past lp.0 then reverse (turns_of_run layout lp.0 moment.past n moment.control) else []
turns_of_move layout moment _ = []

-- the program turns of these moves, moves and turns the newest first
abbrev pub program_turns : Layout → List Event → List Move → List ProgramTurn
program_turns layout tape [] = []
program_turns layout tape (m ∷ moves) =
    turns_of_move layout (trace layout tape moves) m ++ program_turns layout tape moves
