-- A machine from its build on, where each move tells the outcome of its last step of the runtime; and that these outcomes name the causes
-- of death all along the trace.
use Rattle.std.specs.Prelude.{◌≡◌, ℕ, List, [], ◌∷◌, ◌++◌, Option}
use Rattle.ak_core.specs.Layout.{Layout}
use Rattle.ak_core.specs.declared.event.Event.{Event}
use Rattle.ak_core.specs.declared.moves.Move.{Move}
use Rattle.ak_model.specs.Paging.Histories.{History}
use Rattle.ak_model.specs.Control.Trace.{trace}
use Rattle.ak_model.specs.Laws.Premises.{IsLater}
use Rattle.ak_pager.specs.declared.turn.RtTurn.{RtTurn}
use Rattle.ak_relation.specs.State.MachineState.{State}
use Rattle.ak_relation.specs.Program.Turns.{listed}
use Rattle.ak_relation.specs.Premises.Built.{IsBuilt}
use Rattle.ak_relation.specs.Premises.Works.{CauseIs}
use Rattle.ak_relation.specs.Relation.MoveByMove.{moves_of, IsTraced}
use Rattle.ak_relation.specs.Relation.Causes.{NamesMoveCause}

-- from the build of an image to this machine, by the moves of this history, each with its answer, one event at most, and an outcome that
-- names the cause after it; the outcomes stand newest first
abbrev pub AreNamedMoves : Layout → List ℕ → History → State → List Event → List RtTurn → Type 0
AreNamedMoves layout image [] state events outcomes = IsBuilt layout image state × (events ≡ []) × (outcomes ≡ [])
AreNamedMoves layout image (pair ∷ past) state events outcomes =
    (old : State) × (earlier : List Event) × (event : Option Event) × (older : List RtTurn) × (outcome : RtTurn) × AreNamedMoves layout image past old earlier older
    × NamesMoveCause layout old state pair.0 pair.1 event outcome × (earlier ++ listed event ≡ events) × (outcome ∷ older ≡ outcomes)

-- after each of these moves of a trace, the newest first, the cause is the one that its outcome names
abbrev pub NameCauses : Layout → List Event → List Move → List RtTurn → Type 0
NameCauses layout tape [] [] = Unit {0}
NameCauses layout tape (m ∷ moves) (outcome ∷ older) =
    CauseIs (trace layout tape moves).control outcome (trace layout tape (m ∷ moves)).control.cause × NameCauses layout tape moves older
NameCauses layout tape [] (outcome ∷ older) = ⊥
NameCauses layout tape (m ∷ moves) [] = ⊥

-- the machine stands at a moment of the trace of the moves, and whatever events come later, these outcomes name its causes
pub record IsNamedTrace (layout : Layout) (image : List ℕ) (past : History) (state : State) (events : List Event) (outcomes : List RtTurn) : Type 0 where
  pub traced : IsTraced layout image past state events
  pub named : (later : List Event) → IsLater later traced.control.count → NameCauses layout (events ++ later) (moves_of past) outcomes
