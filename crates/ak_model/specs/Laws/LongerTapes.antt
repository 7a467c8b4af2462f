-- What has more events at the end of what the program has still to show.
use Rattle.std.specs.Prelude.{List, ◌++◌}
use Rattle.ak_core.specs.declared.event.Event.{Event}
use Rattle.ak_model.specs.Control.ControlState.{Control}
use Rattle.ak_model.specs.Control.OneTurn.{Turn, Goes, Leaves}

-- a control state
abbrev pub with_more : List Event → Control → Control
with_more more control = record control { rest = control.rest ++ more }

-- what a turn comes to
abbrev pub turn_with_more : List Event → Turn → Turn
turn_with_more more (Goes control) = Goes (with_more more control)
turn_with_more more (Leaves exit control) = Leaves exit (with_more more control)

-- the control state that a turn comes to
abbrev pub control_of : Turn → Control
control_of (Goes control) = control
control_of (Leaves exit control) = control
