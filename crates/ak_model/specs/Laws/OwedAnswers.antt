-- Whether a call of the program waits for its answer, by the control state.
use Rattle.std.specs.Prelude.{List, [], ◌∷◌, Option, Some}
use Rattle.ak_model.specs.Control.ControlState.{Phase, Running, Calling, Ended, Dead, Context, Leave, Saved, Control}

-- no call does, one does, or either may be
pub data Owing : Type 0 where
  Settled : Owing
  Owed : Owing
  Unknown : Owing

-- the oldest context: the one that was saved first, or else the one inside
abbrev pub oldest : List Saved → Option Context → Option Context
oldest [] now = now
oldest (saved ∷ []) now = Some saved.context
oldest (saved ∷ next ∷ older) now = oldest (next ∷ older) now

-- a program that runs owes an answer where its call is about to leave
abbrev pub owing_running : Option Context → Owing
owing_running (Some (Leave b a)) = Owed
owing_running _ = Settled

-- by the phase, and the oldest context
abbrev pub owing_by : Phase → Option Context → Owing
owing_by Calling context = Owed
owing_by (Ended s) context = Owed
owing_by Dead context = Unknown
owing_by Running context = owing_running context
owing_by _ context = Settled

-- a control state
abbrev pub owing : Control → Owing
owing control = owing_by control.phase (oldest control.stack control.now)
