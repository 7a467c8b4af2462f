-- Steps are composed, whatever follows: and so turns make runs, and a run makes a move.
use Rattle.std.proofs.Common.{◌≡◌, ℕ, suc, ◌+◌, ◌-◌, ◌<◌, List, [], ◌∷◌, ◌++◌, refl, ap, sym, ◌∙◌, subst, arith, append_assoc, append-nil}
use Rattle.std.proofs.lemmas.List.{reverse-append, reverse-reverse}
use Rattle.std.specs.Prelude.{Bool, true, not, reverse, Some, None, nat_lt, if◌then◌else◌}
use Rattle.ak_core.specs.Layout.{Layout}
use Rattle.ak_core.specs.declared.page.Lp.{Lp}
use Rattle.ak_core.specs.declared.event.Event.{Event}
use Rattle.ak_core.specs.declared.moves.Move.TheVariants.{Run}
use Rattle.ak_core.specs.declared.moves.Exit.{Exit}
use Rattle.ak_core.specs.declared.moves.Answer.{Answer}
use Rattle.ak_core.specs.declared.moves.Answer.TheVariants.{NoLp, Outside}
use Rattle.ak_model.specs.Paging.Histories.{History}
use Rattle.ak_model.specs.Paging.Inside.{inside}
use Rattle.ak_model.specs.Control.ControlState.{Control}
use Rattle.ak_model.specs.Control.Runs.{run, go_on, unless_left, before_turns}
use Rattle.ak_model.specs.Laws.Premises.{IsLater}
use Rattle.ak_model.specs.Tapes.ProgramTurns.{ProgramTurn, turn_in, turns_in, turns_of_run}
use Rattle.ak_relation.specs.Program.Turns.{listed, events_by}
use Rattle.ak_relation.specs.Relation.Stands.{Standing}
use Rattle.ak_relation.specs.Relation.Does.{with_rest, Follows, Does, TurnFollows, RunFollows, EndFollows, MoveFollows}

-- ---- One lemma for all

-- the events of more turns
pub events_by-append : (newer older : List ProgramTurn) → events_by (newer ++ older) ≡ events_by older ++ events_by newer
events_by-append [] older = sym (append-nil (events_by older))
events_by-append (turn ∷ newer) older =
    ap (λ e. e ++ listed turn.event) (events_by-append newer older) ∙ append_assoc (events_by older) (events_by newer) (listed turn.event)

module _ (layout : Layout) where
  -- a step that changes nothing
  pub stay : (follows : Follows) (at : Standing) → ((control : Control) → follows control control []) → Does layout follows at at []
  stay follows at same = record { turns = refl; traced = λ later ok. same (with_rest at.control later); due = λ later ok. ok }

  -- two steps, one after the other
  pub then_does : (F G H : Follows) (old mid new : Standing) (first next : List ProgramTurn) →
      ((before here after : Control) → F before here first → G here after next → H before after (next ++ first)) →
      Does layout F old mid first → Does layout G mid new next → Does layout H old new (next ++ first)
  then_does F G H old mid new first next joins d e = record {
    turns = e.turns ∙ ap (λ older. next ++ older) d.turns ∙ sym (append_assoc next first old.turns);
    traced = λ later ok.
        subst (λ events. H (with_rest old.control events) (with_rest new.control later) (next ++ first)) (regroup later)
        (joins (with_rest old.control (events_by first ++ (events_by next ++ later))) (with_rest mid.control (events_by next ++ later)) (with_rest new.control later)
        (d.traced (events_by next ++ later) (e.due later ok)) (e.traced later ok));
    due = λ later ok. subst (λ events. IsLater events old.control.count) (regroup later) (d.due (events_by next ++ later) (e.due later ok));
  }
    where
      regroup : (later : List Event) → events_by first ++ (events_by next ++ later) ≡ events_by (next ++ first) ++ later
      regroup later = sym (append_assoc (events_by first) (events_by next) later) ∙ ap (λ l. l ++ later) (sym (events_by-append next first))

  -- a step of one kind is one of another, where the definitions say so
  pub as_step : (F G : Follows) (old new : Standing) (made : List ProgramTurn) → ((before after : Control) → F before after made → G before after made) →
      Does layout F old new made → Does layout G old new made
  as_step F G old new made turns_into d = record { turns = d.turns; traced = λ later ok. turns_into _ _ (d.traced later ok); due = d.due }

-- ---- Turns, runs and moves

module _ (layout : Layout) (lp : ℕ) (past : History) where
  -- no turn
  pub no_turn : (control : Control) → RunFollows layout lp past 0 control control []
  no_turn control = record {
    ran = λ more. let e : 0 + more ≡ more = omega arith in ap (λ n. run layout past n control) e;
    made_are = λ more. let e : 0 + more ≡ more = omega arith in ap (λ n. turns_of_run layout lp past n control) e;
  }

  -- one more turn that goes on
  pub one_more : (n : ℕ) (before here after : Control) (made new : List ProgramTurn) → RunFollows layout lp past n before here made →
      TurnFollows layout lp past None here after new → RunFollows layout lp past (n + 1) before after (new ++ made)
  one_more n before here after made new r t = record {
    ran = λ more.
        let e : n + 1 + more ≡ n + suc more = omega arith in
        ap (λ k. run layout past k before) e ∙ r.ran (suc more) ∙ ap (λ x. go_on x (run layout past more)) t.turned;
    made_are = λ more.
        let e : n + 1 + more ≡ n + suc more = omega arith in
        ap (λ k. turns_of_run layout lp past k before) e ∙ r.made_are (suc more)
        ∙ ap (λ x. reverse made ++ (turn_in lp past here here.now ++ turns_in lp past (unless_left x (before_turns layout past more)))) t.turned
        ∙ ap (λ x. reverse made ++ (x ++ turns_of_run layout lp past more after)) t.made_are
        ∙ sym (append_assoc (reverse made) (reverse new) (turns_of_run layout lp past more after))
        ∙ ap (λ x. x ++ turns_of_run layout lp past more after) (sym (reverse-append new made));
  }

  -- one more turn that leaves
  pub last_turn : (n all : ℕ) (exit : Exit) (before here after : Control) (made new : List ProgramTurn) → n < all →
      RunFollows layout lp past n before here made → TurnFollows layout lp past (Some exit) here after new →
      EndFollows layout lp past all exit before after (new ++ made)
  last_turn n all exit before here after made new lt r t =
      let e : all ≡ n + suc (all - suc n) = omega arith in
      record {
        ran = ap (λ k. run layout past k before) e ∙ r.ran (suc (all - suc n)) ∙ ap (λ x. go_on x (run layout past (all - suc n))) t.turned;
        made_are = ap (λ k. turns_of_run layout lp past k before) e ∙ r.made_are (suc (all - suc n))
            ∙ ap (λ x. reverse made ++ (turn_in lp past here here.now ++ turns_in lp past (unless_left x (before_turns layout past (all - suc n))))) t.turned
            ∙ ap (λ x. reverse made ++ (x ++ [])) t.made_are
            ∙ ap (λ x. reverse made ++ x) (append-nil (reverse new))
            ∙ sym (reverse-append new made);
      }

  -- all turns went on
  pub no_exit : (all : ℕ) (before after : Control) (made : List ProgramTurn) → RunFollows layout lp past all before after made →
      EndFollows layout lp past all Exit.Still before after made
  no_exit all before after made r =
      let e : all ≡ all + 0 = omega arith in
      record {
        ran = ap (λ k. run layout past k before) e ∙ r.ran 0;
        made_are = ap (λ k. turns_of_run layout lp past k before) e ∙ r.made_are 0 ∙ append-nil (reverse made);
      }

-- ---- Moves

module _ (layout : Layout) (past : History) where
  good : (b c : Bool) (a : Answer) → b ≡ true → c ≡ true → (if not b then NoLp else (if not c then Outside else a)) ≡ a
  good b c a e f = rw (e, f) refl

  -- a run of a processor that is inside is a move
  pub run_moves : (lp : Lp) (all : ℕ) (exit : Exit) (before after : Control) (made : List ProgramTurn) →
      nat_lt lp.0 layout.lps ≡ true → inside past lp.0 ≡ true → EndFollows layout lp.0 past all exit before after made →
      MoveFollows layout past (Run lp all) (Answer.Exit exit) before after made
  run_moves lp all exit before after made known within r = record {
    answered = good (nat_lt lp.0 layout.lps) (inside past lp.0) _ known within ∙ ap (λ x. Answer.Exit x.exit) r.ran;
    changed = ap (λ x. x.control) r.ran;
    made_are = ap (λ b. if b then reverse (turns_of_run layout lp.0 past all before) else []) within ∙ ap reverse r.made_are ∙ reverse-reverse made;
  }
