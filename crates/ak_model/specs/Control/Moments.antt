-- Every moment of a trace: after the build, after each move, and before each turn of a run.
use Rattle.std.specs.Prelude.{List, [], ◌∷◌, ◌++◌, map, reverse, if◌then◌else◌}
use Rattle.ak_core.specs.Layout.{Layout}
use Rattle.ak_core.specs.declared.event.Event.{Event}
use Rattle.ak_core.specs.declared.moves.Move.{Move}
use Rattle.ak_core.specs.declared.moves.Move.TheVariants.{Run}
use Rattle.ak_model.specs.Paging.Inside.{inside}
use Rattle.ak_model.specs.Control.Runs.{before_turns}
use Rattle.ak_model.specs.Control.Trace.{Moment, moment_at_build, trace}

-- the moments before the turns of a move, the newest first
abbrev pub turn_moments : Layout → Moment → Move → List Moment
turn_moments layout moment (Run lp n) =
    if inside moment.past lp.0
    then map (λ control. record moment { control = control }) (reverse (before_turns layout moment.past n moment.control))
    else []
turn_moments layout moment _ = []

-- all moments, the newest first
abbrev pub moments : Layout → List Event → List Move → List Moment
moments layout tape [] = moment_at_build tape ∷ []
moments layout tape (m ∷ moves) =
    trace layout tape (m ∷ moves) ∷ (turn_moments layout (trace layout tape moves) m ++ moments layout tape moves)
