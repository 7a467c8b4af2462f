-- The calls that the program made and the values that they returned.
use Rattle.std.specs.Prelude.{◌≡◌, ◌⊎◌, ℕ, ◌+◌, List, [], ◌∷◌, length, Option, Some}
use Rattle.ak_core.specs.declared.event.Event.{Event}
use Rattle.ak_core.specs.declared.event.Event.TheVariants.{Call}
use Rattle.ak_model.specs.Control.ControlState.{Program, Context, Control}
use Rattle.ak_model.specs.Control.OneTurn.{Turn, Goes, Leaves}
use Rattle.ak_model.specs.Tapes.ProgramTurns.{ProgramTurn}
use Rattle.ak_model.specs.Control.EventTurn.{due}
use Rattle.ak_model.specs.Laws.OwedAnswers.{Owing, Settled, Owed, Unknown, owing}

-- one, for a call
abbrev pub calls_in : Option Event → ℕ
calls_in (Some (Call i b a)) = 1
calls_in _ = 0

-- how many of these turns were calls
abbrev pub calls_by : List ProgramTurn → ℕ
calls_by [] = 0
calls_by (turn ∷ older) = calls_in turn.event + calls_by older

-- how many calls are on a tape
abbrev pub calls_on : List Event → ℕ
calls_on [] = 0
calls_on (event ∷ tape) = calls_in (Some event) + calls_on tape

-- so many calls returned so many values: all, or all but one
abbrev pub IsReturned : Owing → ℕ → ℕ → Type 0
IsReturned Settled calls values = calls ≡ values
IsReturned Owed calls values = calls ≡ values + 1
IsReturned Unknown calls values = (calls ≡ values) ⊎ (calls ≡ values + 1)

-- after so many calls, each has returned but the one whose answer is owed
pub record IsAnswered (calls : ℕ) (control : Control) : Type 0 where
  pub returned : IsReturned (owing control) calls (length control.returned)

-- the same of what a turn comes to
abbrev pub TurnIsAnswered : ℕ → Turn → Type 0
TurnIsAnswered calls (Goes control) = IsAnswered calls control
TurnIsAnswered calls (Leaves exit control) = IsAnswered calls control

-- the calls of a turn in this context
abbrev pub calls_now : Control → Option Context → ℕ
calls_now control (Some Program) = calls_in (due control.count control.rest)
calls_now control _ = 0
