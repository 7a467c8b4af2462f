-- The move in which the enclave stopped: before it there was no cause, and the cause stays. What the cause says of the control
-- state before that move.
use Rattle.std.proofs.Common.{◌≡◌, ◌<◌, List, [], ◌∷◌, ◌++◌, length, arith, refl, ap, sym, ◌∙◌, subst}
use Rattle.std.specs.Prelude.{true, false, not, if◌then◌else◌, Option, Some, None, is_some}
use Rattle.ak_core.specs.Layout.{Layout, IsValid}
use Rattle.ak_core.specs.declared.event.Event.{Event}
use Rattle.ak_core.specs.declared.event.StopCause.TheVariants.{Unmapped, RuntimeUnmapped, FetchNotHonoured, ResumedEarly, Stuck}
use Rattle.ak_core.specs.declared.moves.Move.{Move}
use Rattle.ak_model.specs.Paging.Histories.{History}
use Rattle.ak_model.specs.Paging.Inside.{someone_inside}
use Rattle.ak_model.specs.Control.ControlState.{Cause, ByBreak, Named, Control, is_asked}
use Rattle.ak_model.specs.Control.Entering.{entered, resumed_by, interrupted_by}
use Rattle.ak_model.specs.Control.Trace.{trace}
use Rattle.ak_model.specs.Tapes.ProgramTurns.{program_turns}
use Rattle.ak_model.specs.Laws.Premises.{MissesFit}
use Rattle.ak_model.specs.Stops.MovesBefore.{changed, before_stop}
use Rattle.ak_model.specs.Laws.ToldFault.{newest_refusal}
use Rattle.ak_model.proofs.Paging.InsideIsOfLayout.{placed}
use Rattle.ak_model.proofs.Clusters.ValidClusters.{clusters_fit}
use Rattle.ak_model.proofs.Control.OrderlyMoments.{trace_is_orderly}
use Rattle.ak_model.proofs.Control.RunEnds.{Since}
use Rattle.ak_model.proofs.Stops.LeavingTurns.{StopBy}
use Rattle.ak_model.proofs.Paging.Readings.{Reading, reading}
use Rattle.ak_model.proofs.Control.MovedTo.{interrupted_same}
use Rattle.ak_model.proofs.Control.MoveCases.{Holds, did}

module _ (layout : Layout) (past : History) (control : Control) where
  -- the cause stays
  cause_later : (x : Cause) → control.cause ≡ Some x → Holds layout past control (λ change next. next.cause ≡ Some x)
  cause_later x e = record {
    quiet = e;
    entered = λ lp v n. e;
    resumed = λ lp saved rest n p s. e;
    interrupted = λ lp. (interrupted_same control control.now).cause ∙ e;
    went = λ next s. s.cause ∙ e;
    exited = λ lp exit next h. h.left.stays x (h.since.cause ∙ e);
  }

  -- ---- The move that stops the enclave

  -- a processor was inside, and the control state says this of the cause
  pub record StopSays (cause : Cause) : Type 0 where
    pub someone : someone_inside layout past ≡ true
    pub says : StopBy layout past control (Some cause)

  same_says : (before : Control) (cause : Cause) → Since control before → StopBy layout past before (Some cause) → StopBy layout past control (Some cause)
  same_says before ByBreak s h = (sym (ap newest_refusal s.stack) ∙ h.0, s.live h.1)
  same_says before (Named (Unmapped p kind)) s h = h
  same_says before (Named (RuntimeUnmapped p kind)) s h = (sym (ap newest_refusal s.stack) ∙ h.0, s.live h.1, h.2)
  same_says before (Named (FetchNotHonoured p kind)) s h = (sym (ap newest_refusal s.stack) ∙ h.0, s.live h.1, h.2)
  same_says before (Named ResumedEarly) s h = (ap is_asked (sym (s.asked h.0)) ∙ h.0, s.guard h.1)
  same_says before (Named (Stuck p kind)) s h = h

  not_both : (o : Option Cause) (x : Cause) → o ≡ None → o ≡ Some x → ⊥
  not_both o x e f = let z : None ≡ Some x = sym e ∙ f in cc

  stop_says : (x : Cause) → control.cause ≡ None → Holds layout past control (λ change next. next.cause ≡ Some x → StopSays x)
  stop_says x none = record {
    quiet = not_yet control none;
    entered = λ lp v n. not_yet (entered control v) none;
    resumed = λ lp saved rest n p s. not_yet (resumed_by control (saved ∷ rest)) none;
    interrupted = λ lp. not_yet (interrupted_by control control.now) ((interrupted_same control control.now).cause ∙ none);
    went = λ next s. not_yet next (s.cause ∙ none);
    exited = λ lp exit next h e. record {
      someone = h.someone;
      says = same_says h.before x h.since (subst (StopBy layout past h.before) e (h.left.cause (h.since.cause ∙ none)));
    };
  }
    where
      not_yet : (next : Control) → next.cause ≡ None → next.cause ≡ Some x → StopSays x
      not_yet next n e = absurd (not_both next.cause x n e)

-- ---- Its place among the moves

module _ (layout : Layout) (valid : IsValid layout) (tape : List Event) (misses : MissesFit layout [] tape) where
  abbrev pub Of : List Move → Control
  Of moves = (trace layout tape moves).control

  -- what holds in each case of a move holds of the next one
  pub did_next : (m : Move) (moves : List Move) (P : Reading → Control → Type 0) → Holds layout (trace layout tape moves).past (Of moves) P → P (reading (changed layout (trace layout tape moves) m)) (Of (m ∷ moves))
  did_next m moves P holds =
      did layout (clusters_fit layout valid) (program_turns layout tape moves) (trace layout tape moves) P holds (λ lp. placed layout lp tape moves) (trace_is_orderly layout valid tape misses moves) m

  -- the enclave stopped after these moves, for this cause
  pub record StopsAfter (moves : List Move) (cause : Cause) (stopping : List Move) : Type 0 where
    pub newer : List Move
    pub stands : moves ≡ newer ++ stopping
    pub fewer : length stopping < length moves
    pub says : StopSays layout (trace layout tape stopping).past (Of stopping) cause

  -- an earlier move stopped it, or this one did
  stops_by : (m : Move) (moves : List Move) (x : Cause) (earlier : Option Cause) → (Of moves).cause ≡ earlier → (Of (m ∷ moves)).cause ≡ Some x → ((Of moves).cause ≡ Some x → StopsAfter moves x (before_stop layout tape moves)) → StopsAfter (m ∷ moves) x (before_stop layout tape (m ∷ moves))
  stops_by m moves x None e h go =
      let test : is_some (Of moves).cause ≡ false = ap is_some e in
      subst (λ b. StopsAfter (m ∷ moves) x (if not b then moves else before_stop layout tape moves)) (sym test)
      (record {
        newer = m ∷ [];
        stands = refl;
        fewer = omega arith;
        says = did_next m moves (λ change next. next.cause ≡ Some x → StopSays layout (trace layout tape moves).past (Of moves) x) (stop_says layout (trace layout tape moves).past (Of moves) x e) h;
      })
  stops_by m moves x (Some y) e h go =
      let test : is_some (Of moves).cause ≡ true = ap is_some e in
      let later : (Of (m ∷ moves)).cause ≡ Some y = did_next m moves (λ change next. next.cause ≡ Some y) (cause_later layout (trace layout tape moves).past (Of moves) y e) in
      let before = go (e ∙ sym later ∙ h) in
      subst (λ b. StopsAfter (m ∷ moves) x (if not b then moves else before_stop layout tape moves)) (sym test)
      (record {
        newer = m ∷ before.newer;
        stands = ap (λ l. m ∷ l) before.stands;
        fewer = let l = before.fewer in omega arith;
        says = before.says;
      })

  pub stops-after : (moves : List Move) (x : Cause) → (Of moves).cause ≡ Some x → StopsAfter moves x (before_stop layout tape moves)
  stops-after [] x h = absurd (cc)
  stops-after (m ∷ moves) x h = stops_by m moves x (Of moves).cause refl h (stops-after moves x)
