-- After any moves from the build a machine stands at a moment of their trace.
use Rattle.std.proofs.Common.{◌≡◌, ℕ, ◌+◌, ◌≤◌, List, [], ◌∷◌, ◌++◌, length, refl, ap, sym, ◌∙◌, subst, arith, append_assoc, append-nil}
use Rattle.std.proofs.lemmas.List.{length-append}
use Rattle.std.specs.Prelude.{Option, Some, None}
use Rattle.ak_core.specs.Layout.{Layout, IsValid}
use Rattle.ak_core.specs.declared.event.Event.{Event}
use Rattle.ak_core.specs.declared.moves.Move.{Move}
use Rattle.ak_core.specs.declared.moves.Answer.{Answer}
use Rattle.ak_model.specs.Paging.Histories.{History}
use Rattle.ak_model.specs.Control.ControlState.{control_at_build}
use Rattle.ak_model.specs.Control.Trace.{after_answer, after_move, trace, answers}
use Rattle.ak_model.specs.Laws.Premises.{IsLater}
use Rattle.ak_model.specs.Tapes.ProgramTurns.{turns_of_move, program_turns}
use Rattle.ak_relation.specs.State.MachineState.{State}
use Rattle.ak_relation.specs.Program.Turns.{listed, events_by}
use Rattle.ak_relation.specs.Relation.Does.{with_rest, MoveFollows, at_moment, GoesTo}
use Rattle.ak_relation.specs.Relation.MoveByMove.{moves_of, answers_of, AreMoves, HasMoved, IsTraced}
use Rattle.ak_relation.proofs.Runs.Composing.{events_by-append}
use Rattle.ak_relation.proofs.Runs.BuiltStands.{built_stands}

-- one event at most
pub one_at_most : (event : Option Event) → length (listed event) ≤ 1
one_at_most None = omega arith
one_at_most (Some event) = omega arith

module _ (layout : Layout) (image : List ℕ) (past : History) (m : Move) (a : Answer) (old new : State) (earlier : List Event) (event : Option Event) (events : List Event)
    (r : IsTraced layout image past old earlier)
    (g : GoesTo layout image (MoveFollows layout past m a) (at_moment past r.control r.turns old) ((m, a) ∷ past) new event)
    (all : earlier ++ listed event ≡ events) where
  -- the events so far, and later ones
  pub regroup : (later : List Event) → earlier ++ (events_by g.made ++ later) ≡ events ++ later
  regroup later =
      sym (append_assoc earlier (events_by g.made) later) ∙ ap (λ es. (earlier ++ es) ++ later) g.told ∙ ap (λ es. es ++ later) all

  -- the trace after one more move
  pub traced : (later : List Event) → IsLater later g.control.count →
      trace layout (events ++ later) (m ∷ moves_of past) ≡ record { past = (m, a) ∷ past; control = with_rest g.control later }
  traced later ok =
      let f = g.does.traced later ok in
      let before = r.traced (events_by g.made ++ later) (g.does.due later ok) in
      let rest = events_by g.made ++ later in
      ap (λ tape. after_move layout (trace layout tape (moves_of past)) m) (sym (regroup later)) ∙ ap (λ moment. after_move layout moment m) before
      ∙ ap (after_answer layout (record { past = past; control = with_rest r.control rest }) m) f.answered
      ∙ ap (λ control. record { past = (m, a) ∷ past; control = control }) f.changed

  -- its turns
  pub made_are : (later : List Event) → IsLater later g.control.count → program_turns layout (events ++ later) (m ∷ moves_of past) ≡ g.turns
  made_are later ok =
      let f = g.does.traced later ok in
      let rest = events_by g.made ++ later in
      let due = g.does.due later ok in
      ap (λ tape. turns_of_move layout (trace layout tape (moves_of past)) m ++ program_turns layout tape (moves_of past)) (sym (regroup later))
      ∙ ap (λ moment. turns_of_move layout moment m ++ program_turns layout (earlier ++ rest) (moves_of past)) (r.traced rest due)
      ∙ ap (λ made. made ++ program_turns layout (earlier ++ rest) (moves_of past)) f.made_are ∙ ap (λ older. g.made ++ older) (r.made_are rest due)
      ∙ sym g.does.turns

  -- the answers, with no later event
  pub answered : answers (trace layout events (m ∷ moves_of past)) ≡ answers_of ((m, a) ∷ past)
  answered = ap (λ tape. answers (trace layout tape (m ∷ moves_of past))) (sym (append-nil events)) ∙ ap answers (traced [] tt)

  -- one more move
  abbrev pub one_more : IsTraced layout image ((m, a) ∷ past) new events
  one_more =
      let few = r.few in
      let one = one_at_most event in
      let size : length events ≡ length earlier + length (listed event) = ap length (sym all) ∙ length-append earlier (listed event) in
      record {
        control = g.control;
        turns = g.turns;
        stands = g.stands;
        told = ap events_by g.does.turns ∙ events_by-append g.made r.turns ∙ ap (λ es. es ++ events_by g.made) r.told ∙ ap (λ es. earlier ++ es) g.told ∙ all;
        few = omega arith;
        answered = answered;
        traced = traced;
        made_are = made_are;
      }

module _ (layout : Layout) (image : List ℕ) (valid : IsValid layout) where
  pub traced_by : (past : History) (state : State) (events : List Event) → AreMoves layout image past state events → IsTraced layout image past state events
  traced_by [] state events moved =
      subst (IsTraced layout image [] state) (sym moved.1) (record {
        control = control_at_build [];
        turns = [];
        stands = built_stands layout image state valid moved.0;
        told = refl;
        few = omega arith;
        answered = refl;
        traced = λ later ok. refl;
        made_are = λ later ok. refl;
      })
  traced_by (pair ∷ past) state events (old, earlier, event, before, move, all) =
      let r = traced_by past old earlier before in
      one_more layout image past pair.0 pair.1 old state earlier event events r (move image past r.control r.turns r.stands) all

-- after any moves from the build
pub moves_are_traced : (layout : Layout) (image : List ℕ) (past : History) (state : State) (events : List Event) → HasMoved layout image past state events →
    IsTraced layout image past state events
moves_are_traced layout image past state events moved = traced_by layout image moved.valid past state events moved.moves
