-- After any moves from the build, each of which names the cause after it, these outcomes name the causes of the trace.
use Rattle.std.proofs.Common.{◌≡◌, ℕ, List, [], ◌∷◌, ◌++◌, refl, ap, sym, ◌∙◌, subst}
use Rattle.std.specs.Prelude.{Option}
use Rattle.ak_core.specs.Layout.{Layout, IsValid}
use Rattle.ak_core.specs.declared.event.Event.{Event}
use Rattle.ak_core.specs.declared.moves.Move.{Move}
use Rattle.ak_core.specs.declared.moves.Answer.{Answer}
use Rattle.ak_model.specs.Paging.Histories.{History}
use Rattle.ak_model.specs.Control.Trace.{Moment, trace}
use Rattle.ak_model.specs.Laws.Premises.{IsLater}
use Rattle.ak_pager.specs.declared.turn.RtTurn.{RtTurn}
use Rattle.ak_relation.specs.State.MachineState.{State}
use Rattle.ak_relation.specs.Premises.Works.{CauseIs}
use Rattle.ak_relation.specs.Program.Turns.{listed, events_by}
use Rattle.ak_relation.specs.Relation.Does.{with_rest, MoveFollows, at_moment, GoesTo}
use Rattle.ak_relation.specs.Relation.MoveByMove.{moves_of}
use Rattle.ak_relation.specs.Relation.NamedMoves.{AreNamedMoves, NameCauses, IsNamedTrace}
use Rattle.ak_relation.proofs.Runs.KeptCauses.{cause_same}
use Rattle.ak_relation.proofs.Runs.TracedMoves.{regroup, traced, one_more, traced_by}

module _ (layout : Layout) (image : List ℕ) (past : History) (m : Move) (a : Answer) (old new : State) (earlier : List Event) (event : Option Event) (events : List Event)
    (older : List RtTurn) (outcome : RtTurn) (r : IsNamedTrace layout image past old earlier older)
    (g : GoesTo layout image (MoveFollows layout past m a) (at_moment past r.traced.control r.traced.turns old) ((m, a) ∷ past) new event)
    (all : earlier ++ listed event ≡ events) (is : CauseIs r.traced.control outcome g.control.cause) where
  -- the cause after one more move
  cause : (later : List Event) → IsLater later g.control.count →
      CauseIs (trace layout (events ++ later) (moves_of past)).control outcome (trace layout (events ++ later) (m ∷ moves_of past)).control.cause
  cause later ok =
      let rest = events_by g.made ++ later in
      let before : trace layout (events ++ later) (moves_of past) ≡ record { past = past; control = with_rest r.traced.control rest } =
      ap (λ tape. trace layout tape (moves_of past)) (sym (regroup layout image past m a old new earlier event events r.traced g all later)) ∙ r.traced.traced rest (g.does.due later ok) in
      let after : trace layout (events ++ later) (m ∷ moves_of past) ≡ record { past = (m, a) ∷ past; control = with_rest g.control later } =
      traced layout image past m a old new earlier event events r.traced g all later ok in
      subst (λ (moment : Moment). CauseIs moment.control outcome (trace layout (events ++ later) (m ∷ moves_of past)).control.cause) (sym before)
      (subst (λ (moment : Moment). CauseIs (with_rest r.traced.control rest) outcome moment.control.cause) (sym after)
      (cause_same (with_rest r.traced.control rest) r.traced.control outcome g.control.cause refl refl is))

  -- and all causes
  causes : (later : List Event) → IsLater later g.control.count → NameCauses layout (events ++ later) (m ∷ moves_of past) (outcome ∷ older)
  causes later ok = (
    cause later ok,
    subst (λ tape. NameCauses layout tape (moves_of past) older) (regroup layout image past m a old new earlier event events r.traced g all later)
        (r.named (events_by g.made ++ later) (g.does.due later ok)),
  )

  -- one more move
  pub one_more_named : IsNamedTrace layout image ((m, a) ∷ past) new events (outcome ∷ older)
  one_more_named = record { traced = one_more layout image past m a old new earlier event events r.traced g all; named = causes }

module _ (layout : Layout) (image : List ℕ) (valid : IsValid layout) where
  -- after any moves
  pub named_by : (past : History) (state : State) (events : List Event) (outcomes : List RtTurn) → AreNamedMoves layout image past state events outcomes → IsNamedTrace layout image past state events outcomes
  named_by [] state events outcomes moved = record {
    traced = traced_by layout image valid [] state events (moved.0, moved.1);
    named = λ later ok. subst (NameCauses layout (events ++ later) []) (sym moved.2) tt;
  }
  named_by (pair ∷ past) state events outcomes (old, earlier, event, older, outcome, before, move, all, told) =
      let r = named_by past old earlier older before in
      let both = move image past r.traced.control r.traced.turns r.traced.stands in
      subst (IsNamedTrace layout image (pair ∷ past) state events) told
      (one_more_named layout image past pair.0 pair.1 old state earlier event events older outcome r both.0 all both.1)
