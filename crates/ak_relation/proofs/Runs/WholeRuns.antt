-- A run of any length as one move, from its turns one after another: each goes on, and the last may leave.
use Rattle.std.proofs.Common.{◌≡◌, ℕ, zero, suc, ◌+◌, ◌<◌, ◌++◌, arith, sym, ◌∙◌, subst}
use Rattle.std.specs.Prelude.{true, Option, Some, None, nat_lt, List}
use Rattle.ak_core.specs.Layout.{Layout}
use Rattle.ak_core.specs.declared.page.Lp.{Lp}
use Rattle.ak_core.specs.declared.event.Event.{Event}
use Rattle.ak_core.specs.declared.moves.Move.TheVariants.{Run}
use Rattle.ak_core.specs.declared.moves.Exit.{Exit}
use Rattle.ak_core.specs.declared.moves.Answer.{Answer}
use Rattle.ak_model.specs.Paging.Histories.{History}
use Rattle.ak_model.specs.Paging.Inside.{inside}
use Rattle.ak_model.specs.Control.ControlState.{Control}
use Rattle.ak_model.specs.Tapes.ProgramTurns.{ProgramTurn}
use Rattle.ak_relation.specs.State.MachineState.{State}
use Rattle.ak_relation.specs.Program.Turns.{listed}
use Rattle.ak_relation.specs.Relation.Stands.{Stands}
use Rattle.ak_relation.specs.Relation.Does.{RunFollows, at_moment, GoesTo, IsTurn, IsMove}
use Rattle.ak_relation.specs.Relation.TurnByTurn.{AreTurns}
use Rattle.ak_relation.proofs.Runs.RunMoves.{run_begins, run_goes, run_leaves, run_is_move}
use Rattle.ak_relation.proofs.Runs.StillMoves.{still_is_move}

module _ (layout : Layout) (image : List ℕ) (lp : ℕ) (past : History) (control : Control) (turns : List ProgramTurn) (old : State) where
  -- at each place of the relation
  pub turns_go : (n : ℕ) (new : State) (event : Option Event) → inside past lp ≡ true → Stands layout image (at_moment past control turns old) → AreTurns layout lp n old new event →
      GoesTo layout image (RunFollows layout lp past n) (at_moment past control turns old) past new event
  turns_go zero new event within h t =
      subst (λ e. GoesTo layout image (RunFollows layout lp past 0) (at_moment past control turns old) past new e) (sym t.1)
      (subst (λ s. GoesTo layout image (RunFollows layout lp past 0) (at_moment past control turns old) past s None) t.0 (run_begins layout image lp past control turns old h))
  turns_go (suc n) new event within h (mid, first, second, before, last, one) =
      let e : n + 1 ≡ suc n = omega arith in
      subst (λ k. GoesTo layout image (RunFollows layout lp past k) (at_moment past control turns old) past new event) e
      (run_goes layout image lp past control turns old n mid new first second event within (turns_go n mid first within h before) last one)

module _ (layout : Layout) (lp : Lp) (old : State) (known : nat_lt lp.0 layout.lps ≡ true) (in_use : (old.processors lp.0).inside ≡ true) where
  within : (image : List ℕ) (past : History) (control : Control) (turns : List ProgramTurn) → Stands layout image (at_moment past control turns old) → inside past lp.0 ≡ true
  within image past control turns h = sym (h.tables.presence.within lp.0) ∙ in_use

  -- a run that uses up its turns
  pub still_moves : (all : ℕ) (new : State) (event : Option Event) → AreTurns layout lp.0 all old new event → IsMove layout old new (Run lp all) (Answer.Exit Exit.Still) event
  still_moves all new event t image past control turns h =
      still_is_move layout image lp past control turns old new all event known (within image past control turns h)
      (turns_go layout image lp.0 past control turns old all new event (within image past control turns h) h t)

  -- a run whose last turn leaves
  pub exit_moves : (n all : ℕ) (mid new : State) (exit : Exit) (first second both : Option Event) → n < all → AreTurns layout lp.0 n old mid first →
      IsTurn layout lp.0 mid new (Some exit) second → listed first ++ listed second ≡ listed both → IsMove layout old new (Run lp all) (Answer.Exit exit) both
  exit_moves n all mid new exit first second both lt t last one image past control turns h =
      run_is_move layout image lp past control turns old new all exit both known (within image past control turns h)
      (run_leaves layout image lp.0 past control turns old n all exit mid new first second both (within image past control turns h) lt
      (turns_go layout image lp.0 past control turns old n mid first (within image past control turns h) h t) last one)
