-- From turns of a machine to runs, and from runs to moves: by composing, with one event at most.
use Rattle.std.proofs.Common.{◌≡◌, ℕ, ◌+◌, ◌<◌, List, [], ◌∷◌, ◌++◌, refl, ap, ◌∙◌}
use Rattle.std.specs.Prelude.{true, Option, Some, None, nat_lt}
use Rattle.ak_core.specs.Layout.{Layout}
use Rattle.ak_core.specs.declared.page.Lp.{Lp}
use Rattle.ak_core.specs.declared.event.Event.{Event}
use Rattle.ak_core.specs.declared.moves.Move.TheVariants.{Run}
use Rattle.ak_core.specs.declared.moves.Exit.{Exit}
use Rattle.ak_core.specs.declared.moves.Answer.{Answer}
use Rattle.ak_model.specs.Paging.Histories.{History}
use Rattle.ak_model.specs.Paging.Inside.{inside}
use Rattle.ak_model.specs.Control.ControlState.{Control}
use Rattle.ak_model.specs.Tapes.ProgramTurns.{ProgramTurn}
use Rattle.ak_relation.specs.State.MachineState.{State}
use Rattle.ak_relation.specs.Program.Turns.{listed, events_by}
use Rattle.ak_relation.specs.Relation.Stands.{Standing, Stands}
use Rattle.ak_relation.specs.Relation.Does.{Follows, TurnFollows, RunFollows, EndFollows, MoveFollows, past_after, at_moment, GoesTo, IsTurn}
use Rattle.ak_relation.proofs.Runs.Composing.{events_by-append, stay, then_does, as_step, no_turn, one_more, last_turn, run_moves}

module _ (layout : Layout) (image : List ℕ) where
  -- one step after another, with one event at most
  pub then_reaches : (F G H : Follows) (old : Standing) (past later : History) (mid new : State) (first second both : Option Event) →
      ((made next : List ProgramTurn) (before here after : Control) → F before here made → G here after next → H before after (next ++ made)) →
      (r : GoesTo layout image F old past mid first) → GoesTo layout image G (at_moment past r.control r.turns mid) later new second →
      listed first ++ listed second ≡ listed both → GoesTo layout image H old later new both
  then_reaches F G H old past later mid new first second both joins r s one = record {
    control = s.control;
    turns = s.turns;
    made = s.made ++ r.made;
    does = then_does layout F G H old (at_moment past r.control r.turns mid) (at_moment later s.control s.turns new) r.made s.made (joins r.made s.made) r.does s.does;
    told = events_by-append s.made r.made ∙ ap (λ x. x ++ events_by s.made) r.told ∙ ap (λ x. listed first ++ x) s.told ∙ one;
    stands = s.stands;
  }

  module _ (lp : ℕ) (past : History) (control : Control) (turns : List ProgramTurn) (old : State) where
    -- before the first turn
    pub run_begins : Stands layout image (at_moment past control turns old) →
        GoesTo layout image (RunFollows layout lp past 0) (at_moment past control turns old) past old None
    run_begins h = record {
      control = control;
      turns = turns;
      made = [];
      does = stay layout (RunFollows layout lp past 0) (at_moment past control turns old) (no_turn layout lp past);
      told = refl;
      stands = h;
    }

    -- a turn that goes on
    pub run_goes : (n : ℕ) (mid new : State) (first second both : Option Event) → inside past lp ≡ true →
        GoesTo layout image (RunFollows layout lp past n) (at_moment past control turns old) past mid first → IsTurn layout lp mid new None second →
        listed first ++ listed second ≡ listed both → GoesTo layout image (RunFollows layout lp past (n + 1)) (at_moment past control turns old) past new both
    run_goes n mid new first second both within r t one =
        then_reaches (RunFollows layout lp past n) (TurnFollows layout lp past None) (RunFollows layout lp past (n + 1))
        (at_moment past control turns old) past past mid new first second both (λ m k b h a f g. one_more layout lp past n b h a m k f g)
        r (t image past r.control r.turns within r.stands 0) one

    -- a turn that leaves ends a run of any length above
    pub run_leaves : (n all : ℕ) (exit : Exit) (mid new : State) (first second both : Option Event) → inside past lp ≡ true → n < all →
        GoesTo layout image (RunFollows layout lp past n) (at_moment past control turns old) past mid first → IsTurn layout lp mid new (Some exit) second →
        listed first ++ listed second ≡ listed both →
        GoesTo layout image (EndFollows layout lp past all exit) (at_moment past control turns old) (past_after past lp all (Some exit)) new both
    run_leaves n all exit mid new first second both within lt r t one =
        then_reaches (RunFollows layout lp past n) (TurnFollows layout lp past (Some exit)) (EndFollows layout lp past all exit)
        (at_moment past control turns old) past (past_after past lp all (Some exit)) mid new first second both
        (λ m k b h a f g. last_turn layout lp past n all exit b h a m k lt f g) r (t image past r.control r.turns within r.stands all) one

  -- a whole run is a move
  pub run_is_move : (lp : Lp) (past : History) (control : Control) (turns : List ProgramTurn) (old new : State) (all : ℕ) (exit : Exit) (event : Option Event) →
      nat_lt lp.0 layout.lps ≡ true → inside past lp.0 ≡ true →
      GoesTo layout image (EndFollows layout lp.0 past all exit) (at_moment past control turns old) ((Run lp all, Answer.Exit exit) ∷ past) new event →
      GoesTo layout image (MoveFollows layout past (Run lp all) (Answer.Exit exit)) (at_moment past control turns old) ((Run lp all, Answer.Exit exit) ∷ past) new event
  run_is_move lp past control turns old new all exit event known within r = record {
    control = r.control;
    turns = r.turns;
    made = r.made;
    does = as_step layout (EndFollows layout lp.0 past all exit) (MoveFollows layout past (Run lp all) (Answer.Exit exit)) (at_moment past control turns old)
        (at_moment ((Run lp all, Answer.Exit exit) ∷ past) r.control r.turns new) r.made (λ b a f. run_moves layout past lp all exit b a r.made known within f) r.does;
    told = r.told;
    stands = r.stands;
  }

  -- so many turns that go on and one that leaves, as a move: it comes to where the last turn does
  pub run_ends : (lp : Lp) (past : History) (control : Control) (turns : List ProgramTurn) (old mid new : State) (n all : ℕ) (exit : Exit) (first second both : Option Event) →
      nat_lt lp.0 layout.lps ≡ true → inside past lp.0 ≡ true → n < all →
      (r : GoesTo layout image (RunFollows layout lp.0 past n) (at_moment past control turns old) past mid first) →
      (s : GoesTo layout image (TurnFollows layout lp.0 past (Some exit)) (at_moment past r.control r.turns mid) (past_after past lp.0 all (Some exit)) new second) →
      listed first ++ listed second ≡ listed both →
      (g : GoesTo layout image (MoveFollows layout past (Run lp all) (Answer.Exit exit)) (at_moment past control turns old) ((Run lp all, Answer.Exit exit) ∷ past) new both)
      × (g.control ≡ s.control) × (g.turns ≡ s.turns)
  unfolding run_is_move then_reaches
  run_ends lp past control turns old mid new n all exit first second both known within lt r s one = (
    run_is_move lp past control turns old new all exit both known within
        (then_reaches (RunFollows layout lp.0 past n) (TurnFollows layout lp.0 past (Some exit)) (EndFollows layout lp.0 past all exit)
        (at_moment past control turns old) past (past_after past lp.0 all (Some exit)) mid new first second both
        (λ m k b h a f g. last_turn layout lp.0 past n all exit b h a m k lt f g) r s one),
    refl,
    refl,
  )
