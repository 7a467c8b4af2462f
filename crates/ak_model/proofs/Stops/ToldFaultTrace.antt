-- What stands behind the move to blame, at each moment after a move.
use Rattle.std.proofs.Common.{◌≡◌, ℕ, ◌+◌, List, [], ◌∷◌, ◌++◌, length, reverse, arith, refl, subst}
use Rattle.std.specs.Prelude.{true, false, if◌then◌else◌, Option, Some, None, is_some, nat_lt}
use Rattle.ak_core.specs.Layout.{Layout, IsValid}
use Rattle.ak_core.specs.declared.moves.Exit.{Exit}
use Rattle.ak_core.specs.declared.moves.Exit.TheVariants.{Still}
use Rattle.ak_core.specs.declared.event.Event.{Event}
use Rattle.ak_core.specs.declared.moves.Move.{Move}
use Rattle.ak_model.specs.Paging.Histories.{History, Resumes, Exits, Interrupts, if_left}
use Rattle.ak_model.specs.Paging.Inside.{inside, someone_inside}
use Rattle.ak_model.specs.Control.ControlState.{Context, Reason, Interrupted, Cleared, Raised, Denied, Missed, Broke, Faulted, Saved, Control}
use Rattle.ak_model.specs.Control.Runs.{run}
use Rattle.ak_model.specs.Control.Entering.{resumed_by, interrupted_by}
use Rattle.ak_model.specs.Control.Trace.{Moment, after_move, trace}
use Rattle.ak_model.specs.Tapes.ProgramTurns.{ProgramTurn, turns_of_run, turns_of_move, program_turns}
use Rattle.ak_model.specs.Sound.Forced.{queue_by}
use Rattle.ak_model.specs.Laws.Premises.{MissesFit}
use Rattle.ak_model.specs.Stops.Blame.{is_fault, past_before_fault, resumed_at}
use Rattle.ak_model.specs.Laws.ToldFault.{refusal_or, newest_refusal, FaultStands, FaultIsTold, FaultIsToldAt}
use Rattle.ak_model.specs.Laws.Orderly.{refuses_by, IsOrderly, OrderlyAfter}
use Rattle.ak_model.proofs.Paging.InsideIsOfLayout.{placed}
use Rattle.ak_model.proofs.Paging.Readings.{Reading, reading}
use Rattle.ak_model.proofs.Control.MovedTo.{each_move}
use Rattle.ak_model.proofs.Control.OrderlySteps.{ClustersFit}
use Rattle.ak_model.proofs.Control.OrderlyMoves.{none_now, not_refused}
use Rattle.ak_model.proofs.Clusters.ValidClusters.{clusters_fit}
use Rattle.ak_model.proofs.Control.OrderlyMoments.{trace_is_orderly}
use Rattle.ak_model.proofs.Stops.ToldFaultTurns.{run_stands}

-- a reason that does not refuse is passed over
pub passed : (reason : Reason) (o : Option Reason) → refuses_by reason ≡ false → refusal_or reason o ≡ o
passed Interrupted o h = refl
passed Cleared o h = refl
passed (Raised v) o h = absurd (cc)
passed Denied o h = absurd (cc)
passed (Missed c) o h = absurd (cc)
passed Broke o h = absurd (cc)
passed (Faulted t) o h = absurd (cc)

module _ (layout : Layout) (fit : ClustersFit layout) where
  abbrev After : History → List ProgramTurn → Reading → Control → Type 0
  After past turns change control = FaultIsTold layout (if change.faults then past else past_before_fault past) (if change.resumes then length past + 1 else resumed_at past) turns control

  abbrev Before : History → List ProgramTurn → Control → Type 0
  Before past turns control = FaultIsTold layout (past_before_fault past) (resumed_at past) turns control

  module _ (past : History) (turns : List ProgramTurn) (so_far : List ℕ) (control : Control) (orderly : IsOrderly layout so_far (someone_inside layout past) control) (old : Before past turns control) where
    resumes_after : (lp : ℕ) (saved : Saved) (older : List Saved) → control.stack ≡ saved ∷ older → control.pending ≡ false → is_some control.now ≡ false → After past turns (reading (Resumes lp)) (resumed_by control (saved ∷ older))
    resumes_after lp saved older e p n = record {
      fault = λ live.
          let whole : FaultStands layout (past_before_fault past) turns (newest_refusal (saved ∷ older)) = subst (λ s. FaultStands layout (past_before_fault past) turns (newest_refusal s)) e (old.fault live) in
          subst (FaultStands layout (past_before_fault past) turns) (passed saved.reason (newest_refusal older) (not_refused layout so_far (someone_inside layout past) control saved older orderly e p n live)) whole;
      guard = λ h. omega arith;
    }

    interrupts_after : (lp : ℕ) (now : Option Context) → After past turns (reading (Interrupts lp)) (interrupted_by control now)
    interrupts_after lp None = old
    interrupts_after lp (Some context) = record { fault = old.fault; guard = λ h. absurd (cc) }

  left_after : (past : History) (turns : List ProgramTurn) (lp : ℕ) (exit : Exit) (next : Control) → FaultIsTold layout (if is_fault exit then past else past_before_fault past) (resumed_at past) turns next → After past turns (reading (if_left exit (Exits lp exit))) next
  left_after past turns lp Still next h = h
  left_after past turns lp exit next h = h

  step_stands : (turns : List ProgramTurn) (moment : Moment) (m : Move) → ((lp : ℕ) → inside moment.past lp ≡ true → nat_lt lp layout.lps ≡ true) → OrderlyAfter layout turns moment → FaultIsToldAt layout turns moment → FaultIsToldAt layout (turns_of_move layout moment m ++ turns) (after_move layout moment m)
  step_stands turns moment m low orderly old =
      let past : History = moment.past in
      let control : Control = moment.control in
      let so_far : List ℕ = queue_by layout turns in
      each_move layout moment (λ e. After past (e.turns ++ turns) e.change e.next)
      (record {
        quiet = old;
        enters = λ lp v there out few. record { fault = old.fault; guard = λ h. absurd (cc) };
        resumes = λ lp saved older there out free e. resumes_after past turns so_far control orderly old lp saved older e free (none_now layout so_far (someone_inside layout past) control orderly out);
        interrupts = λ lp d. interrupts_after past turns so_far control orderly old lp control.now;
        runs = λ lp n d someone.
            let ran = run layout past n control in
            let here = subst (λ b. IsOrderly layout so_far b control) someone orderly in
            left_after past (reverse (turns_of_run layout lp past n control) ++ turns) lp ran.exit ran.control (run_stands layout past (resumed_at past) fit lp n (past_before_fault past) turns so_far control here old);
      })
      low m

-- after each move the last fault is the one that the newest refusal tells of
pub trace_stands : (layout : Layout) (tape : List Event) (moves : List Move) → IsValid layout → MissesFit layout [] tape → FaultIsToldAt layout (program_turns layout tape moves) (trace layout tape moves)
trace_stands layout tape [] valid misses = record { fault = λ l. tt; guard = λ h. absurd (cc) }
trace_stands layout tape (m ∷ moves) valid misses =
    step_stands layout (clusters_fit layout valid) (program_turns layout tape moves) (trace layout tape moves) m (λ lp. placed layout lp tape moves)
    (trace_is_orderly layout valid tape misses moves) (trace_stands layout tape moves valid misses)
