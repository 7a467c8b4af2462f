-- A machine from its build on, move by move; and what that comes to in the definitions.
use Rattle.std.specs.Prelude.{◌≡◌, ℕ, ◌≤◌, List, [], ◌∷◌, ◌++◌, length, map, reverse, Option}
use Rattle.ak_core.specs.Layout.{Layout, IsValid}
use Rattle.ak_core.specs.declared.event.Event.{Event}
use Rattle.ak_core.specs.declared.moves.Move.{Move}
use Rattle.ak_core.specs.declared.moves.Answer.{Answer}
use Rattle.ak_model.specs.Paging.Histories.{History}
use Rattle.ak_model.specs.Control.ControlState.{Control}
use Rattle.ak_model.specs.Control.Trace.{trace, answers}
use Rattle.ak_model.specs.Laws.Premises.{IsLater}
use Rattle.ak_model.specs.Tapes.ProgramTurns.{ProgramTurn, program_turns}
use Rattle.ak_relation.specs.State.MachineState.{State}
use Rattle.ak_relation.specs.Program.Turns.{listed, events_by}
use Rattle.ak_relation.specs.Premises.Built.{IsBuilt}
use Rattle.ak_relation.specs.Relation.Stands.{Stands}
use Rattle.ak_relation.specs.Relation.Does.{with_rest, at_moment, IsMove}

-- the moves of a history, the newest first
abbrev pub moves_of : History → List Move
moves_of past = map (λ pair. pair.0) past

-- the answers of a history, in order
abbrev pub answers_of : History → List Answer
answers_of past = reverse (map (λ pair. pair.1) past)

-- from the build of an image to this machine, by the moves of this history, each with its answer and one event at most
abbrev pub AreMoves : Layout → List ℕ → History → State → List Event → Type 0
AreMoves layout image [] state events = IsBuilt layout image state × (events ≡ [])
AreMoves layout image (pair ∷ past) state events =
    (old : State) × (earlier : List Event) × (event : Option Event) × AreMoves layout image past old earlier
    × IsMove layout old state pair.0 pair.1 event × (earlier ++ listed event ≡ events)

-- a machine that was built in a valid layout, and went through such moves
pub record HasMoved (layout : Layout) (image : List ℕ) (past : History) (state : State) (events : List Event) : Type 0 where
  pub valid : IsValid layout
  pub moves : AreMoves layout image past state events

-- the machine stands at a moment of the trace of the moves with these events as the tape, and whatever comes after them: the history
-- is that of the trace, with its answers and its turns of the program; and there is one event for each move at most
pub record IsTraced (layout : Layout) (image : List ℕ) (past : History) (state : State) (events : List Event) : Type 0 where
  pub control : Control
  pub turns : List ProgramTurn
  pub stands : Stands layout image (at_moment past control turns state)
  pub told : events_by turns ≡ events
  pub few : length events ≤ length past
  pub answered : answers (trace layout events (moves_of past)) ≡ answers_of past
  pub traced : (later : List Event) → IsLater later control.count →
      trace layout (events ++ later) (moves_of past) ≡ record { past = past; control = with_rest control later }
  pub made_are : (later : List Event) → IsLater later control.count → program_turns layout (events ++ later) (moves_of past) ≡ turns
