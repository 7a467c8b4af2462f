-- What a move does to the control state: entering, resuming, running and interrupting. (SDM volume 3D, EENTER, ERESUME,
-- "Asynchronous Enclave Exit"; an entry clears the pending flag of the Autarky paper.)
use Rattle.std.specs.Prelude.{ℕ, false, List, [], ◌∷◌, Option, Some, None}
use Rattle.ak_core.specs.Layout.{Layout}
use Rattle.ak_core.specs.declared.moves.Move.{Move}
use Rattle.ak_core.specs.declared.moves.Move.TheVariants.{Eenter, Eresume, Run, Interrupt}
use Rattle.ak_core.specs.declared.moves.Answer.{Answer}
use Rattle.ak_core.specs.declared.moves.Answer.TheVariants.{Ok}
use Rattle.ak_model.specs.Paging.Histories.{History}
use Rattle.ak_model.specs.Control.ControlState.{Context, Enter, Saved, Interrupted, Control, cssa}
use Rattle.ak_model.specs.Control.RuntimeTurn.{save}
use Rattle.ak_model.specs.Control.Runs.{run}

-- a processor entered, with a value
abbrev pub entered : Control → ℕ → Control
entered control v = record control { now = Some (Enter (cssa control) v); pending = false }

-- the newest saved context goes on
abbrev pub resumed_by : Control → List Saved → Control
resumed_by control [] = control
resumed_by control (saved ∷ older) = record control { stack = older; now = Some saved.context }

-- the context inside is saved
abbrev pub interrupted_by : Control → Option Context → Control
interrupted_by control None = control
interrupted_by control (Some context) = save control context Interrupted

-- a refused move leaves the control state
abbrev pub on_ok : Answer → Control → Control → Control
on_ok Ok control after = after
on_ok _ control after = control

-- a run that was refused leaves the control state
abbrev pub on_exit : Answer → Control → Control → Control
on_exit (Answer.Exit exit) control after = after
on_exit _ control after = control

-- the control state after a move that had this answer
abbrev pub control_after : Layout → History → Control → Move → Answer → Control
control_after layout past control (Eenter lp v) a = on_ok a control (entered control v)
control_after layout past control (Eresume lp) a = on_ok a control (resumed_by control control.stack)
control_after layout past control (Run lp n) a = on_exit a control (run layout past n control).control
control_after layout past control (Interrupt lp) a = on_ok a control (interrupted_by control control.now)
control_after layout past control _ a = control
