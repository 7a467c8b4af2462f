-- A run that uses up its turns is a move: no scan of the history sees it, so the relation after it is that after its last turn.
use Rattle.std.proofs.Common.{◌≡◌, ℕ, ◌∷◌, refl}
use Rattle.std.specs.Prelude.{true, Option, nat_lt, List}
use Rattle.ak_core.specs.Layout.{Layout}
use Rattle.ak_core.specs.declared.page.Lp.{Lp}
use Rattle.ak_core.specs.declared.event.Event.{Event}
use Rattle.ak_core.specs.declared.moves.Move.TheVariants.{Run}
use Rattle.ak_core.specs.declared.moves.Exit.{Exit}
use Rattle.ak_core.specs.declared.moves.Answer.{Answer}
use Rattle.ak_model.specs.Paging.Histories.{History}
use Rattle.ak_model.specs.Paging.Inside.{inside}
use Rattle.ak_model.specs.Control.ControlState.{Control}
use Rattle.ak_model.specs.Tapes.ProgramTurns.{ProgramTurn}
use Rattle.ak_relation.specs.State.MachineState.{State}
use Rattle.ak_relation.specs.Relation.Does.{RunFollows, EndFollows, at_moment, GoesTo, MoveFollows}
use Rattle.ak_relation.proofs.Runs.Composing.{as_step, no_exit}
use Rattle.ak_relation.proofs.Leaves.Refused.{refused_keeps}
use Rattle.ak_relation.proofs.Leaves.LeafStands.{leaf_stands}
use Rattle.ak_relation.proofs.Runs.RunMoves.{run_is_move}

module _ (layout : Layout) (image : List ℕ) where
  -- so many turns with no exit end a run of just so many
  pub run_ends_still : (lp : ℕ) (past : History) (control : Control) (turns : List ProgramTurn) (old new : State) (all : ℕ) (event : Option Event) →
      GoesTo layout image (RunFollows layout lp past all) (at_moment past control turns old) past new event →
      GoesTo layout image (EndFollows layout lp past all Exit.Still) (at_moment past control turns old) ((Run (record { 0 = lp }) all, Answer.Exit Exit.Still) ∷ past) new event
  run_ends_still lp past control turns old new all event r = record {
    control = r.control;
    turns = r.turns;
    made = r.made;
    does = as_step layout (RunFollows layout lp past all) (EndFollows layout lp past all Exit.Still) (at_moment past control turns old)
        (at_moment ((Run (record { 0 = lp }) all, Answer.Exit Exit.Still) ∷ past) r.control r.turns new) r.made (λ b a f. no_exit layout lp past all b a r.made f)
        (record { turns = r.does.turns; traced = r.does.traced; due = r.does.due });
    told = r.told;
    stands = leaf_stands layout image past (Run (record { 0 = lp }) all, Answer.Exit Exit.Still) r.control r.turns new new
        (refused_keeps layout past (Run (record { 0 = lp }) all) (Answer.Exit Exit.Still) new refl r.stands.tables) r.stands;
  }

  -- and so they are a move
  pub still_is_move : (lp : Lp) (past : History) (control : Control) (turns : List ProgramTurn) (old new : State) (all : ℕ) (event : Option Event) →
      nat_lt lp.0 layout.lps ≡ true → inside past lp.0 ≡ true →
      GoesTo layout image (RunFollows layout lp.0 past all) (at_moment past control turns old) past new event →
      GoesTo layout image (MoveFollows layout past (Run lp all) (Answer.Exit Exit.Still)) (at_moment past control turns old) ((Run lp all, Answer.Exit Exit.Still) ∷ past) new event
  still_is_move lp past control turns old new all event known within r =
      run_is_move layout image lp past control turns old new all Exit.Still event known within (run_ends_still lp.0 past control turns old new all event r)
