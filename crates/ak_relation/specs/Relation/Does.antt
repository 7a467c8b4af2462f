-- What a turn, a run of turns, and a move do: one form. From one moment to the next, whatever events come later, some function of
-- the definitions goes from the control state with the new events to the next control state.
use Rattle.std.specs.Prelude.{◌≡◌, ℕ, ◌+◌, true, List, ◌∷◌, ◌++◌, reverse, Option, Some, None}
use Rattle.ak_core.specs.Layout.{Layout}
use Rattle.ak_core.specs.declared.event.Event.{Event}
use Rattle.ak_core.specs.declared.moves.Move.{Move}
use Rattle.ak_core.specs.declared.moves.Move.TheVariants.{Run}
use Rattle.ak_core.specs.declared.moves.Exit.{Exit}
use Rattle.ak_core.specs.declared.moves.Answer.{Answer}
use Rattle.ak_model.specs.Paging.Histories.{History}
use Rattle.ak_model.specs.Paging.Inside.{inside}
use Rattle.ak_model.specs.Control.ControlState.{Control}
use Rattle.ak_model.specs.Control.OneTurn.{Turn, Goes, Leaves}
use Rattle.ak_model.specs.Control.Runs.{turn, run}
use Rattle.ak_model.specs.Control.Answers.{answer}
use Rattle.ak_model.specs.Control.Entering.{control_after}
use Rattle.ak_model.specs.Laws.Premises.{IsLater}
use Rattle.ak_model.specs.Tapes.ProgramTurns.{ProgramTurn, turn_in, turns_of_run, turns_of_move}
use Rattle.ak_relation.specs.State.MachineState.{State}
use Rattle.ak_relation.specs.Program.Turns.{listed, events_by}
use Rattle.ak_relation.specs.Relation.Stands.{Standing, Stands}

-- the control state with these events still to come
abbrev pub with_rest : Control → List Event → Control
with_rest control later = record control { rest = later }

-- what the definitions say of a step: the control state before it, the one after it, and the program's turns in it, the newest
-- first
abbrev pub Follows : Type 1
Follows = Control → Control → List ProgramTurn → Type 0

-- a step from one moment to another, with these turns of the program, by what follows in the definitions
pub record Does (layout : Layout) (follows : Follows) (old new : Standing) (made : List ProgramTurn) : Type 0 where
  pub turns : new.turns ≡ made ++ old.turns
  pub traced : (later : List Event) → IsLater later new.control.count →
      follows (with_rest old.control (events_by made ++ later)) (with_rest new.control later) made
  pub due : (later : List Event) → IsLater later new.control.count → IsLater (events_by made ++ later) old.control.count

-- ---- The three that there are

-- a turn goes on, or leaves with its exit
abbrev pub turn_to : Option Exit → Control → Turn
turn_to None control = Goes control
turn_to (Some exit) control = Leaves exit control

-- one turn of a processor
pub record TurnFollows (layout : Layout) (lp : ℕ) (past : History) (exit : Option Exit) (before after : Control) (made : List ProgramTurn) : Type 0 where
  pub turned : turn layout past before ≡ turn_to exit after
  pub made_are : turn_in lp past before before.now ≡ reverse made

-- so many turns with no exit, at the head of a longer run
pub record RunFollows (layout : Layout) (lp : ℕ) (past : History) (turns : ℕ) (before after : Control) (made : List ProgramTurn) : Type 0 where
  pub ran : (more : ℕ) → run layout past (turns + more) before ≡ run layout past more after
  pub made_are : (more : ℕ) →
      turns_of_run layout lp past (turns + more) before ≡ reverse made ++ turns_of_run layout lp past more after

-- a whole run of up to so many turns
pub record EndFollows (layout : Layout) (lp : ℕ) (past : History) (turns : ℕ) (exit : Exit) (before after : Control) (made : List ProgramTurn) : Type 0 where
  pub ran : run layout past turns before ≡ record { exit = exit; control = after }
  pub made_are : turns_of_run layout lp past turns before ≡ reverse made

-- a move with its answer
pub record MoveFollows (layout : Layout) (past : History) (m : Move) (a : Answer) (before after : Control) (made : List ProgramTurn) : Type 0 where
  pub answered : answer layout past before m ≡ a
  pub changed : control_after layout past before m a ≡ after
  pub made_are : turns_of_move layout (record { past = past; control = before }) m ≡ made

-- ---- What contracts say

-- the history after a turn of a run of so many: one that leaves ends its move
abbrev pub past_after : History → ℕ → ℕ → Option Exit → History
past_after past lp turns None = past
past_after past lp turns (Some exit) = (Run (record { 0 = lp }) turns, Answer.Exit exit) ∷ past

-- a moment
abbrev pub at_moment : History → Control → List ProgramTurn → State → Standing
at_moment past control turns state = record { past = past; control = control; turns = turns; state = state }

-- a step to a moment at which the relation holds, with this history and state, and with one event at most
pub record GoesTo (layout : Layout) (image : List ℕ) (follows : Follows) (old : Standing) (past : History) (state : State) (event : Option Event) : Type 0 where
  pub control : Control
  pub turns : List ProgramTurn
  pub made : List ProgramTurn
  pub does : Does layout follows old (at_moment past control turns state) made
  pub told : events_by made ≡ listed event
  pub stands : Stands layout image (at_moment past control turns state)

-- a turn from one state to the next, at each moment that the old state stands for, in a run of any length
abbrev pub IsTurn : Layout → ℕ → State → State → Option Exit → Option Event → Type 0
IsTurn layout lp old new exit event =
    (image : List ℕ) (past : History) (control : Control) (turns : List ProgramTurn) → inside past lp ≡ true →
    Stands layout image (at_moment past control turns old) → (all : ℕ) →
    GoesTo layout image (TurnFollows layout lp past exit) (at_moment past control turns old) (past_after past lp all exit) new event

-- a move from one state to the next, at each moment that the old state stands for
abbrev pub IsMove : Layout → State → State → Move → Answer → Option Event → Type 0
IsMove layout old new m a event =
    (image : List ℕ) (past : History) (control : Control) (turns : List ProgramTurn) →
    Stands layout image (at_moment past control turns old) →
    GoesTo layout image (MoveFollows layout past m a) (at_moment past control turns old) ((m, a) ∷ past) new event
