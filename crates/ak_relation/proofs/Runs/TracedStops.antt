-- The stop of a journal that keeps the stop of its moves is that of the control state, blamed by the history before the move in which the
-- enclave stopped.
use Rattle.std.proofs.Common.{◌≡◌, ℕ, List, [], ◌∷◌, reverse, refl, ap, sym, ◌∙◌, subst, append-nil}
use Rattle.std.proofs.lemmas.List.{reverse-reverse}
use Rattle.std.specs.Prelude.{Bool, true, false, not, Option, Some, None, is_some, ◌==◌, if◌then◌else◌}
use Rattle.ak_core.specs.Layout.{Layout}
use Rattle.ak_core.specs.Journal.{Journal, first_stop}
use Rattle.ak_core.specs.Mem.{Access}
use Rattle.ak_core.specs.declared.event.Event.{Event}
use Rattle.ak_core.specs.declared.event.Stop.{Stop}
use Rattle.ak_core.specs.declared.event.StopCause.{StopCause}
use Rattle.ak_core.specs.declared.event.StopCause.TheVariants.{Unmapped, RuntimeUnmapped, FetchNotHonoured, ResumedEarly, Stuck}
use Rattle.ak_core.specs.declared.moves.Move.{Move}
use Rattle.ak_model.specs.Paging.Histories.{History}
use Rattle.ak_model.specs.Kernels.Counted.{saved_count}
use Rattle.ak_model.specs.Control.ControlState.{Cause, ByBreak, Named, Control, cssa, first_cause}
use Rattle.ak_model.specs.Control.Trace.{trace}
use Rattle.ak_model.specs.Stops.MovesBefore.{before_stop}
use Rattle.ak_model.specs.Sound.BreaksAndStop.{stop_for, IsStop, IsStopped}
use Rattle.ak_model.proofs.Control.OneInsideTrace.{counts_right}
use Rattle.ak_pager.specs.declared.turn.RtTurn.{RtTurn}
use Rattle.ak_relation.specs.State.MachineState.{State}
use Rattle.ak_relation.specs.Premises.Works.{named_by, CauseIs}
use Rattle.ak_relation.specs.Relation.MoveByMove.{moves_of}
use Rattle.ak_relation.specs.Relation.NamedMoves.{NameCauses}
use Rattle.ak_relation.specs.Relation.Journals.{HasJournal}
use Rattle.ak_relation.specs.Relation.Stopping.{stop_by, stop_of, KeepsStop}
use Rattle.ak_relation.proofs.Runs.TracedCauses.{named_by as named_trace}

-- the history without its newest move
abbrev older_of : History → History
older_of [] = []
older_of (pair ∷ past) = past

-- ---- The cause stays, and so does the stop

later_cause : (control : Control) (outcome : RtTurn) (x : Cause) (after : Option Cause) → control.cause ≡ Some x → CauseIs control outcome after → after ≡ Some x
later_cause control RtTurn.Go x after e is = is ∙ e
later_cause control (RtTurn.Leave exit) x after e is = is ∙ e
later_cause control (RtTurn.Dead cause) x after e is = is ∙ rw e refl
later_cause control (RtTurn.Faulted t) x after e is = is ∙ by_count (cssa control == 2)
  where
    by_count : (b : Bool) → (if b then first_cause control.cause (Named (Stuck t.page t.kind)) else control.cause) ≡ Some x
    by_count true = rw e refl
    by_count false = e

later_stop : (layout : Layout) (blamed : History) (x : Cause) (stop next : Option Stop) → IsStop layout blamed (Some x) stop → IsStop layout blamed (Some x) (first_stop stop next)
later_stop layout blamed (Named cause) stop next h = ap (λ o. first_stop o next) h
later_stop layout blamed ByBreak stop next (p, kind, h) = (p, kind, ap (λ o. first_stop o next) h)

-- ---- The move in which the enclave stops

module _ (layout : Layout) (past : History) (control : Control) (none : control.cause ≡ None) (counted : cssa control ≡ saved_count past) where
  dies : (cause : StopCause) → IsStop layout past (Some (named_by cause)) (Some (stop_for layout past cause))
  dies (Unmapped p kind) = (p, kind, refl)
  dies (RuntimeUnmapped p kind) = refl
  dies (FetchNotHonoured p kind) = refl
  dies ResumedEarly = refl
  dies (Stuck p kind) = refl

  first_then : (cause : Cause) → first_cause control.cause cause ≡ Some cause
  first_then cause = rw none refl

  sticks : (t : Access) (b : Bool) → IsStop layout past (if b then first_cause control.cause (Named (Stuck t.page t.kind)) else control.cause)
      (if b then Some (stop_for layout past (Stuck t.page t.kind)) else None)
  sticks t true = subst (λ o. IsStop layout past o (Some (stop_for layout past (Stuck t.page t.kind)))) (sym (first_then (Named (Stuck t.page t.kind)))) refl
  sticks t false = subst (λ o. IsStop layout past o None) (sym none) refl

  -- its stop is the one that its outcome comes to
  stops : (outcome : RtTurn) (after : Option Cause) → CauseIs control outcome after → IsStop layout past after (stop_by layout past outcome)
  stops RtTurn.Go after is = subst (λ o. IsStop layout past o None) (sym (is ∙ none)) refl
  stops (RtTurn.Leave exit) after is = subst (λ o. IsStop layout past o None) (sym (is ∙ none)) refl
  stops (RtTurn.Dead cause) after is = subst (λ o. IsStop layout past o (Some (stop_for layout past cause))) (sym (is ∙ first_then (named_by cause))) (dies cause)
  stops (RtTurn.Faulted t) after is =
      subst (λ o. IsStop layout past o (stop_by layout past (RtTurn.Faulted t))) (sym is)
      (subst (λ n. IsStop layout past (if cssa control == 2 then first_cause control.cause (Named (Stuck t.page t.kind)) else control.cause)
      (if n == 2 then Some (stop_for layout past (Stuck t.page t.kind)) else None)) counted (sticks t (cssa control == 2)))

-- ---- Whole traces

module _ (layout : Layout) (tape : List Event) where
  -- the stop of these moves is the one of the cause after them
  abbrev StopsRight : List Move → Option Stop → Type 0
  StopsRight moves stop = IsStop layout (trace layout tape (before_stop layout tape moves)).past (trace layout tape moves).control.cause stop

  one_more : (m : Move) (moves : List Move) (past : History) (outcome : RtTurn) (stop : Option Stop) → (trace layout tape moves).past ≡ past → StopsRight moves stop →
      CauseIs (trace layout tape moves).control outcome (trace layout tape (m ∷ moves)).control.cause → (earlier : Option Cause) → (trace layout tape moves).control.cause ≡ earlier →
      StopsRight (m ∷ moves) (first_stop stop (stop_by layout past outcome))
  one_more m moves past outcome stop same h is None e =
      let gone : stop ≡ None = subst (λ o. IsStop layout (trace layout tape (before_stop layout tape moves)).past o stop) e h in
      let counted : cssa (trace layout tape moves).control ≡ saved_count (trace layout tape moves).past = sym (counts_right layout tape moves).saved_is in
      let now = stops layout (trace layout tape moves).past (trace layout tape moves).control e counted outcome (trace layout tape (m ∷ moves)).control.cause is in
      let test : is_some (trace layout tape moves).control.cause ≡ false = ap is_some e in
      subst (λ b. IsStop layout (trace layout tape (if not b then moves else before_stop layout tape moves)).past (trace layout tape (m ∷ moves)).control.cause (first_stop stop (stop_by layout past outcome))) (sym test)
      (subst (λ o. IsStop layout (trace layout tape moves).past (trace layout tape (m ∷ moves)).control.cause (first_stop o (stop_by layout past outcome))) (sym gone)
      (subst (λ p. IsStop layout (trace layout tape moves).past (trace layout tape (m ∷ moves)).control.cause (stop_by layout p outcome)) same now))
  one_more m moves past outcome stop same h is (Some x) e =
      let blamed : History = (trace layout tape (before_stop layout tape moves)).past in
      let test : is_some (trace layout tape moves).control.cause ≡ true = ap is_some e in
      let after = later_cause (trace layout tape moves).control outcome x (trace layout tape (m ∷ moves)).control.cause e is in
      let old : IsStop layout blamed (Some x) stop = subst (λ o. IsStop layout blamed o stop) e h in
      subst (λ b. IsStop layout (trace layout tape (if not b then moves else before_stop layout tape moves)).past (trace layout tape (m ∷ moves)).control.cause (first_stop stop (stop_by layout past outcome))) (sym test)
      (subst (λ o. IsStop layout blamed o (first_stop stop (stop_by layout past outcome))) (sym after) (later_stop layout blamed x stop (stop_by layout past outcome) old))

  pub all_stops : (past : History) (outcomes : List RtTurn) → (trace layout tape (moves_of past)).past ≡ past → NameCauses layout tape (moves_of past) outcomes → StopsRight (moves_of past) (stop_of layout past outcomes)
  all_stops [] [] same named = refl
  all_stops [] (outcome ∷ older) same named = absurd named
  all_stops (pair ∷ past) [] same named = absurd named
  all_stops (pair ∷ past) (outcome ∷ older) same named =
      let before : (trace layout tape (moves_of past)).past ≡ past = ap older_of same in
      one_more pair.0 (moves_of past) past outcome (stop_of layout past older) before (all_stops past older before named.1) named.0 (trace layout tape (moves_of past)).control.cause refl

-- the journal's stop is that of its last moment
pub is_stopped : (layout : Layout) (image : List ℕ) (past : History) (state : State) (journal : Journal) → HasJournal layout image past state journal →
    KeepsStop layout image past state journal → IsStopped layout journal
is_stopped layout image past state journal j k =
    let r = named_trace layout image j.moved.valid past state journal.events k.outcomes k.named in
    let back : reverse journal.moves ≡ moves_of past = ap reverse j.moves_are ∙ reverse-reverse (moves_of past) in
    let here : (trace layout journal.events (moves_of past)).past ≡ past =
    ap (λ tape. (trace layout tape (moves_of past)).past) (sym (append-nil journal.events)) ∙ ap (λ moment. moment.past) (r.traced.traced [] tt) in
    let names = subst (λ tape. NameCauses layout tape (moves_of past) k.outcomes) (append-nil journal.events) (r.named [] tt) in
    record {
      stopped = subst (λ moves. IsStop layout (trace layout journal.events (before_stop layout journal.events moves)).past (trace layout journal.events moves).control.cause journal.stop) (sym back)
          (subst (IsStop layout (trace layout journal.events (before_stop layout journal.events (moves_of past))).past (trace layout journal.events (moves_of past)).control.cause) (sym k.stop_is)
          (all_stops layout journal.events past k.outcomes here names));
    }
