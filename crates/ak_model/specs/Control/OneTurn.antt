-- What a turn of a processor comes to.
use Rattle.ak_core.specs.declared.moves.Exit.{Exit}
use Rattle.ak_model.specs.Control.ControlState.{Control}

-- a turn: the processor goes on, or leaves with an exit
pub data Turn : Type 0 where
  Goes : (control : Control) → Turn
  Leaves : (exit : Exit) (control : Control) → Turn
