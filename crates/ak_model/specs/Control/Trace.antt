-- What the kernel sees: the answers to its moves, as a function of the layout, the moves and the tape of events.
use Rattle.std.specs.Prelude.{List, [], ◌∷◌, map, reverse}
use Rattle.ak_core.specs.Layout.{Layout}
use Rattle.ak_core.specs.declared.moves.Move.{Move}
use Rattle.ak_core.specs.declared.moves.Answer.{Answer}
use Rattle.ak_core.specs.declared.event.Event.{Event}
use Rattle.ak_model.specs.Paging.Histories.{History}
use Rattle.ak_model.specs.Control.ControlState.{Control, control_at_build}
use Rattle.ak_model.specs.Control.Answers.{answer}
use Rattle.ak_model.specs.Control.Entering.{control_after}

-- where an enclave stands after some moves
pub record Moment : Type 0 where
  pub past : History
  pub control : Control

-- after the build
abbrev pub moment_at_build : List Event → Moment
moment_at_build tape = record { past = []; control = control_at_build tape }

-- a move and its answer
abbrev pub after_answer : Layout → Moment → Move → Answer → Moment
after_answer layout moment m a =
    record { past = (m, a) ∷ moment.past; control = control_after layout moment.past moment.control m a }

-- one more move
abbrev pub after_move : Layout → Moment → Move → Moment
after_move layout moment m = after_answer layout moment m (answer layout moment.past moment.control m)

-- after these moves, the newest first
abbrev pub trace : Layout → List Event → List Move → Moment
trace layout tape [] = moment_at_build tape
trace layout tape (m ∷ moves) = after_move layout (trace layout tape moves) m

-- the answers, in order
abbrev pub answers : Moment → List Answer
answers moment = reverse (map (λ pair. pair.1) moment.past)
