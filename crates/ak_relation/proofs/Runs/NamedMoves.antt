-- The cause of death after turns and moves is the one that the last step of the runtime names: a run keeps it until a turn leaves.
use Rattle.std.proofs.Common.{◌≡◌, ℕ, zero, suc, ◌+◌, ◌<◌, List, [], ◌∷◌, ◌++◌, refl, ap, sym, ◌∙◌, subst, arith}
use Rattle.std.specs.Prelude.{true, false, Option, Some, None, is_some, nat_lt}
use Rattle.ak_core.specs.Layout.{Layout}
use Rattle.ak_core.specs.declared.event.Event.{Event}
use Rattle.ak_core.specs.declared.moves.Answer.{Answer}
use Rattle.ak_core.specs.declared.moves.Exit.{Exit}
use Rattle.ak_core.specs.declared.moves.Move.{Move}
use Rattle.ak_core.specs.declared.moves.Move.TheVariants.{Run}
use Rattle.ak_core.specs.declared.page.Lp.{Lp}
use Rattle.ak_core.specs.declared.registers.Mode.{Mode}
use Rattle.ak_model.specs.Paging.Histories.{History}
use Rattle.ak_model.specs.Paging.Inside.{since, inside}
use Rattle.ak_model.specs.Control.ControlState.{Program, Control}
use Rattle.ak_model.specs.Control.EventTurn.{due}
use Rattle.ak_model.specs.Control.Runs.{turn_of}
use Rattle.ak_model.specs.Tapes.ProgramTurns.{ProgramTurn}
use Rattle.ak_pager.specs.declared.turn.RtTurn.{RtTurn}
use Rattle.ak_relation.specs.State.MachineState.{State}
use Rattle.ak_relation.specs.Premises.Works.{CauseIs}
use Rattle.ak_relation.specs.Program.Turns.{listed, events_by}
use Rattle.ak_relation.specs.Relation.Stands.{Stands}
use Rattle.ak_relation.specs.Relation.Does.{with_rest, Follows, TurnFollows, RunFollows, EndFollows, MoveFollows, turn_to, past_after, at_moment, GoesTo, IsTurn, IsMove}
use Rattle.ak_relation.specs.Relation.TurnByTurn.{AreTurns}
use Rattle.ak_relation.specs.Relation.Causes.{NamesCause, NamesMoveCause, is_run}
use Rattle.ak_relation.proofs.Leaves.LeafStands.{leaf_stands}
use Rattle.ak_relation.proofs.Leaves.Refused.{refused_keeps}
use Rattle.ak_relation.proofs.Program.Seen.{now_program}
use Rattle.ak_relation.proofs.Runs.Composing.{as_step, stay, no_turn, one_more, last_turn, no_exit, run_moves}
use Rattle.ak_relation.proofs.Runs.KeptCauses.{Kept, GoingKeeps, turn_keeps, cause_in, event_cause, move_keeps, cause_same}
use Rattle.ak_relation.proofs.Runs.RunMoves.{then_reaches}

-- ---- Steps that tell the cause

-- with the cause that this outcome names
abbrev Naming : Follows → RtTurn → Follows
Naming follows outcome before after made = follows before after made × CauseIs before outcome after.cause

-- with the same cause and contexts
abbrev Keeping : Follows → Follows
Keeping follows before after made = follows before after made × Kept before after

module _ (layout : Layout) (image : List ℕ) (past later : History) (control : Control) (turns : List ProgramTurn) (old new : State) (event : Option Event) where
  -- a step of one kind is one of another
  goes_as : (F G : Follows) → ((before after : Control) (made : List ProgramTurn) → F before after made → G before after made) →
      GoesTo layout image F (at_moment past control turns old) later new event → GoesTo layout image G (at_moment past control turns old) later new event
  goes_as F G turns_into r = record {
    control = r.control;
    turns = r.turns;
    made = r.made;
    does = as_step layout F G (at_moment past control turns old) (at_moment later r.control r.turns new) r.made (λ b a f. turns_into b a r.made f) r.does;
    told = r.told;
    stands = r.stands;
  }

  -- a step whose cause is named tells it at each moment after it
  naming : (F : Follows) (outcome : RtTurn) (g : GoesTo layout image F (at_moment past control turns old) later new event) → CauseIs control outcome g.control.cause →
      GoesTo layout image (Naming F outcome) (at_moment past control turns old) later new event
  naming F outcome g is = record {
    control = g.control;
    turns = g.turns;
    made = g.made;
    does = record {
      turns = g.does.turns;
      traced = λ rest ok. (g.does.traced rest ok, cause_same (with_rest control (events_by g.made ++ rest)) control outcome g.control.cause refl refl is);
      due = g.does.due;
    };
    told = g.told;
    stands = g.stands;
  }

  -- and the other way round
  named : (F : Follows) (outcome : RtTurn) → GoesTo layout image (Naming F outcome) (at_moment past control turns old) later new event →
      (g : GoesTo layout image F (at_moment past control turns old) later new event) × CauseIs control outcome g.control.cause
  named F outcome r = (
    record {
      control = r.control;
      turns = r.turns;
      made = r.made;
      does = record { turns = r.does.turns; traced = λ rest ok. (r.does.traced rest ok).0; due = r.does.due };
      told = r.told;
      stands = r.stands;
    },
    cause_same control (with_rest control (events_by r.made ++ [])) outcome r.control.cause refl refl (r.does.traced [] tt).1,
  )

-- ---- Turns

module _ (layout : Layout) (lp : ℕ) (past : History) where
  -- a turn that goes on keeps the cause and the contexts
  going : (before after : Control) (made : List ProgramTurn) → TurnFollows layout lp past None before after made → Kept before after
  going before after made t = subst (GoingKeeps before) t.turned (turn_keeps layout before past before.now)

  cause_to : (exit : Option Exit) (after : Control) → cause_in (turn_to exit after) ≡ after.cause
  cause_to None after = refl
  cause_to (Some exit) after = refl

  -- a turn of the program keeps the cause
  own : (exit : Option Exit) (before after : Control) (made : List ProgramTurn) → before.now ≡ Some Program → TurnFollows layout lp past exit before after made → after.cause ≡ before.cause
  own exit before after made now t =
      let e : turn_to exit after ≡ turn_of layout past before (Some Program) = sym t.turned ∙ ap (turn_of layout past before) now in
      sym (cause_to exit after) ∙ ap cause_in e ∙ event_cause layout before (due before.count before.rest)

module _ (layout : Layout) (lp : ℕ) (old new : State) where
  -- a turn that goes on
  pub going_names : (event : Option Event) → IsTurn layout lp old new None event → NamesCause layout lp old new None event RtTurn.Go
  going_names event t image past control turns within h all =
      let g = t image past control turns within h all in
      let kept : Kept (with_rest control (events_by g.made ++ [])) (with_rest g.control []) = going layout lp past _ _ g.made (g.does.traced [] tt) in
      (g, kept.cause)

  -- a turn of the program
  pub program_names : (exit : Option Exit) (event : Option Event) → (old.processors lp).regs.mode ≡ Mode.Program → IsTurn layout lp old new exit event →
      NamesCause layout lp old new exit event RtTurn.Go
  program_names exit event mode t image past control turns within h all = (t image past control turns within h all, by_place (since past lp) refl)
    where
      by_place : (o : Option ℕ) → since past lp ≡ o → (t image past control turns within h all).control.cause ≡ control.cause
      by_place None e = absurd (let outside : inside past lp ≡ false = ap is_some e in let clash : true ≡ false = sym within ∙ outside in cc)
      by_place (Some place) e =
          let g = t image past control turns within h all in
          own layout lp past exit (with_rest control (events_by g.made ++ [])) (with_rest g.control []) g.made
          (now_program layout image past control turns old lp place h e mode) (g.does.traced [] tt)

-- ---- Runs

module _ (layout : Layout) (image : List ℕ) (lp : ℕ) (past : History) (control : Control) (turns : List ProgramTurn) (old : State) where
  -- so many turns that go on
  abbrev KeptRun : ℕ → State → Option Event → Type 0
  KeptRun n new event = GoesTo layout image (Keeping (RunFollows layout lp past n)) (at_moment past control turns old) past new event

  begins : Stands layout image (at_moment past control turns old) → KeptRun 0 old None
  begins h = record {
    control = control;
    turns = turns;
    made = [];
    does = stay layout (Keeping (RunFollows layout lp past 0)) (at_moment past control turns old) (λ c. (no_turn layout lp past c, record { stack = refl; cause = refl }));
    told = refl;
    stands = h;
  }

  kept_run : (n : ℕ) (new : State) (event : Option Event) → inside past lp ≡ true → Stands layout image (at_moment past control turns old) → AreTurns layout lp n old new event → KeptRun n new event
  kept_run zero new event within h t = subst (λ e. KeptRun 0 new e) (sym t.1) (subst (λ s. KeptRun 0 s None) t.0 (begins h))
  kept_run (suc n) new event within h (mid, first, second, before, last, one) =
      let e : n + 1 ≡ suc n = omega arith in
      let r = kept_run n mid first within h before in
      subst (λ k. KeptRun k new event) e
      (then_reaches layout image (Keeping (RunFollows layout lp past n)) (TurnFollows layout lp past None) (Keeping (RunFollows layout lp past (n + 1)))
      (at_moment past control turns old) past past mid new first second event (λ m k b c a f g. joins n m k b c a f g)
      r (last image past r.control r.turns within r.stands 0) one)
    where
      joins : (n : ℕ) (made more : List ProgramTurn) (before here after : Control) → Keeping (RunFollows layout lp past n) before here made → TurnFollows layout lp past None here after more →
          Keeping (RunFollows layout lp past (n + 1)) before after (more ++ made)
      joins n made more before here after f g =
          let kept = going layout lp past here after more g in
          (one_more layout lp past n before here after made more f.0 g, record { stack = kept.stack ∙ f.1.stack; cause = kept.cause ∙ f.1.cause })

  -- then one that leaves
  left_run : (n all : ℕ) (exit : Exit) (outcome : RtTurn) (mid new : State) (first second both : Option Event) → inside past lp ≡ true → n < all → KeptRun n mid first →
      NamesCause layout lp mid new (Some exit) second outcome → listed first ++ listed second ≡ listed both →
      GoesTo layout image (Naming (EndFollows layout lp past all exit) outcome) (at_moment past control turns old) (past_after past lp all (Some exit)) new both
  left_run n all exit outcome mid new first second both within lt r t one =
      let last = t image past r.control r.turns within r.stands all in
      then_reaches layout image (Keeping (RunFollows layout lp past n)) (Naming (TurnFollows layout lp past (Some exit)) outcome) (Naming (EndFollows layout lp past all exit) outcome)
      (at_moment past control turns old) past (past_after past lp all (Some exit)) mid new first second both (λ m k b c a f g. joins m k b c a f g)
      r (naming layout image past (past_after past lp all (Some exit)) r.control r.turns mid new second (TurnFollows layout lp past (Some exit)) outcome last.0 last.1) one
    where
      joins : (made more : List ProgramTurn) (before here after : Control) → Keeping (RunFollows layout lp past n) before here made → Naming (TurnFollows layout lp past (Some exit)) outcome here after more →
          Naming (EndFollows layout lp past all exit) outcome before after (more ++ made)
      joins made more before here after f g =
          (last_turn layout lp past n all exit before here after made more lt f.0 g.0, cause_same before here outcome after.cause f.1.stack f.1.cause g.1)

  -- a run that uses up its turns is seen by no scan of the history
  still_run : (all : ℕ) (new : State) (event : Option Event) → KeptRun all new event →
      GoesTo layout image (Keeping (RunFollows layout lp past all)) (at_moment past control turns old) ((Run (record { 0 = lp }) all, Answer.Exit Exit.Still) ∷ past) new event
  still_run all new event r = record {
    control = r.control;
    turns = r.turns;
    made = r.made;
    does = record { turns = r.does.turns; traced = r.does.traced; due = r.does.due };
    told = r.told;
    stands = leaf_stands layout image past (Run (record { 0 = lp }) all, Answer.Exit Exit.Still) r.control r.turns new new
        (refused_keeps layout past (Run (record { 0 = lp }) all) (Answer.Exit Exit.Still) new refl r.stands.tables) r.stands;
  }

-- ---- Moves

module _ (layout : Layout) (lp : Lp) (old : State) (known : nat_lt lp.0 layout.lps ≡ true) (in_use : (old.processors lp.0).inside ≡ true) where
  within : (image : List ℕ) (past : History) (control : Control) (turns : List ProgramTurn) → Stands layout image (at_moment past control turns old) → inside past lp.0 ≡ true
  within image past control turns h = sym (h.tables.presence.within lp.0) ∙ in_use

  -- a run that uses up its turns
  pub still_names : (all : ℕ) (new : State) (event : Option Event) → AreTurns layout lp.0 all old new event →
      NamesMoveCause layout old new (Run lp all) (Answer.Exit Exit.Still) event RtTurn.Go
  still_names all new event t image past control turns h =
      named layout image past ((Run lp all, Answer.Exit Exit.Still) ∷ past) control turns old new event (MoveFollows layout past (Run lp all) (Answer.Exit Exit.Still)) RtTurn.Go
      (goes_as layout image past ((Run lp all, Answer.Exit Exit.Still) ∷ past) control turns old new event (Keeping (RunFollows layout lp.0 past all))
      (Naming (MoveFollows layout past (Run lp all) (Answer.Exit Exit.Still)) RtTurn.Go)
      (λ b a made f. (run_moves layout past lp all Exit.Still b a made known (within image past control turns h) (no_exit layout lp.0 past all b a made f.0), f.1.cause))
      (still_run layout image lp.0 past control turns old all new event
      (kept_run layout image lp.0 past control turns old all new event (within image past control turns h) h t)))

  -- a run whose last turn leaves
  pub exit_names : (n all : ℕ) (mid new : State) (exit : Exit) (first second both : Option Event) (outcome : RtTurn) → n < all → AreTurns layout lp.0 n old mid first →
      NamesCause layout lp.0 mid new (Some exit) second outcome → listed first ++ listed second ≡ listed both →
      NamesMoveCause layout old new (Run lp all) (Answer.Exit exit) both outcome
  exit_names n all mid new exit first second both outcome lt t last one image past control turns h =
      named layout image past ((Run lp all, Answer.Exit exit) ∷ past) control turns old new both (MoveFollows layout past (Run lp all) (Answer.Exit exit)) outcome
      (goes_as layout image past ((Run lp all, Answer.Exit exit) ∷ past) control turns old new both (Naming (EndFollows layout lp.0 past all exit) outcome)
      (Naming (MoveFollows layout past (Run lp all) (Answer.Exit exit)) outcome)
      (λ b a made f. (run_moves layout past lp all exit b a made known (within image past control turns h) f.0, f.1))
      (left_run layout image lp.0 past control turns old n all exit outcome mid new first second both (within image past control turns h) lt
      (kept_run layout image lp.0 past control turns old n mid first (within image past control turns h) h t) last one))

-- any other move
pub other_names : (layout : Layout) (old new : State) (m : Move) (a : Answer) (event : Option Event) → is_run m a ≡ false → IsMove layout old new m a event →
    NamesMoveCause layout old new m a event RtTurn.Go
other_names layout old new m a event none t image past control turns h =
    let g = t image past control turns h in
    let follows : MoveFollows layout past m a (with_rest control (events_by g.made ++ [])) (with_rest g.control []) g.made = g.does.traced [] tt in
    (g, sym (ap (λ (c : Control). c.cause) follows.changed) ∙ move_keeps layout past (with_rest control (events_by g.made ++ [])) m a none)
