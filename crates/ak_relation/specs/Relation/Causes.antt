-- The cause of death after a turn and after a move: the one that the outcome of the last step of the runtime names, if any.
use Rattle.std.specs.Prelude.{◌≡◌, ℕ, Bool, true, false, List, ◌∷◌, Option}
use Rattle.ak_core.specs.Layout.{Layout}
use Rattle.ak_core.specs.declared.event.Event.{Event}
use Rattle.ak_core.specs.declared.moves.Move.{Move}
use Rattle.ak_core.specs.declared.moves.Move.TheVariants.{Run}
use Rattle.ak_core.specs.declared.moves.Exit.{Exit}
use Rattle.ak_core.specs.declared.moves.Answer.{Answer}
use Rattle.ak_model.specs.Paging.Histories.{History}
use Rattle.ak_model.specs.Paging.Inside.{inside}
use Rattle.ak_model.specs.Control.ControlState.{Control}
use Rattle.ak_model.specs.Tapes.ProgramTurns.{ProgramTurn}
use Rattle.ak_pager.specs.declared.turn.RtTurn.{RtTurn}
use Rattle.ak_relation.specs.State.MachineState.{State}
use Rattle.ak_relation.specs.Premises.Works.{CauseIs}
use Rattle.ak_relation.specs.Relation.Stands.{Stands}
use Rattle.ak_relation.specs.Relation.Does.{TurnFollows, MoveFollows, past_after, at_moment, GoesTo}

-- a turn, after which the cause is the one that this outcome names
abbrev pub NamesCause : Layout → ℕ → State → State → Option Exit → Option Event → RtTurn → Type 0
NamesCause layout lp old new exit event outcome =
    (image : List ℕ) (past : History) (control : Control) (turns : List ProgramTurn) → inside past lp ≡ true →
    Stands layout image (at_moment past control turns old) → (all : ℕ) →
    (goes : GoesTo layout image (TurnFollows layout lp past exit) (at_moment past control turns old) (past_after past lp all exit) new event)
    × CauseIs control outcome goes.control.cause

-- a move, after which it is
abbrev pub NamesMoveCause : Layout → State → State → Move → Answer → Option Event → RtTurn → Type 0
NamesMoveCause layout old new m a event outcome =
    (image : List ℕ) (past : History) (control : Control) (turns : List ProgramTurn) →
    Stands layout image (at_moment past control turns old) →
    (goes : GoesTo layout image (MoveFollows layout past m a) (at_moment past control turns old) ((m, a) ∷ past) new event)
    × CauseIs control outcome goes.control.cause

-- a run that was not refused
abbrev pub is_run : Move → Answer → Bool
is_run (Run lp n) (Answer.Exit exit) = true
is_run _ _ = false
