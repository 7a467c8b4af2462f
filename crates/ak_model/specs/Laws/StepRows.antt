-- Which contexts a step of the runtime is defined for: in each other one its table has no row.
use Rattle.std.specs.Prelude.{◌≡◌, zero, suc, ◌<◌, Bool, true, false, IsTrue, length, Option, Some, None}
use Rattle.ak_core.specs.Layout.{Layout}
use Rattle.ak_model.specs.Control.ControlState.{Phase, Running, Asked, Trapped, Dead, Context, Program, Enter, Probe, Finish, Guard, Leave, Control, cssa, is_asked}
use Rattle.ak_model.specs.Control.RuntimeTurn.{asked_pages}

-- an entering with nothing saved has a row
abbrev pub opens : Phase → Bool
opens Running = false
opens (Asked c) = false
opens _ = true

-- the guard has a row
abbrev pub guards : Phase → Bool
guards (Asked c) = true
guards (Trapped v) = true
guards Dead = true
guards _ = false

-- the table of the runtime's steps has a row for this context
abbrev pub HasRow : Layout → Control → Context → Type 0
HasRow layout control Program = ⊥
HasRow layout control (Enter zero v) = (cssa control ≡ 0) × IsTrue (opens control.phase)
HasRow layout control (Enter (suc k) v) = cssa control ≡ suc k
HasRow layout control (Probe i) = (cssa control ≡ 1) × i < length (asked_pages layout control.phase)
HasRow layout control Finish = (cssa control ≡ 1) × IsTrue (is_asked control.phase)
HasRow layout control Guard = IsTrue (guards control.phase)
HasRow layout control (Leave b a) = cssa control ≡ 0

-- the processor inside, if there is one, is in the program or at a step that has a row
abbrev pub IsInRow : Layout → Control → Option Context → Type 0
IsInRow layout control None = Unit {0}
IsInRow layout control (Some Program) = cssa control ≡ 0
IsInRow layout control (Some context) = HasRow layout control context
