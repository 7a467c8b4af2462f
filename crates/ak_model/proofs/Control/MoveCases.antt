-- What one move does to a moment that keeps the laws of the control state, case by case.
use Rattle.std.proofs.Common.{◌≡◌, inl, inr, ℕ, List, ◌∷◌, ◌++◌, reverse, sym, subst}
use Rattle.std.specs.Prelude.{true, false, is_some, nat_lt}
use Rattle.ak_core.specs.Layout.{Layout}
use Rattle.ak_core.specs.declared.moves.Exit.{Exit}
use Rattle.ak_core.specs.declared.moves.Move.{Move}
use Rattle.ak_model.specs.Paging.Histories.{History, Unchanged, Enters, Resumes, Exits, Interrupts, if_left}
use Rattle.ak_model.specs.Paging.Inside.{inside, someone_inside}
use Rattle.ak_model.specs.Control.ControlState.{Saved, Control}
use Rattle.ak_model.specs.Control.Runs.{Ran, run}
use Rattle.ak_model.specs.Control.Entering.{entered, resumed_by, interrupted_by}
use Rattle.ak_model.specs.Control.Trace.{Moment, after_move}
use Rattle.ak_model.specs.Tapes.ProgramTurns.{ProgramTurn, turns_of_run}
use Rattle.ak_model.specs.Sound.Forced.{queue_by}
use Rattle.ak_model.specs.Stops.MovesBefore.{changed}
use Rattle.ak_model.specs.Laws.Orderly.{IsOrderly, TurnIsOrderly, after_turn, OrderlyAfter}
use Rattle.ak_model.proofs.Paging.Readings.{Reading, reading}
use Rattle.ak_model.proofs.Control.MovedTo.{each_move}
use Rattle.ak_model.proofs.Control.OrderlySteps.{ClustersFit}
use Rattle.ak_model.proofs.Control.OrderlyTurns.{turn_fits}
use Rattle.ak_model.proofs.Control.OrderlyMoves.{none_now}
use Rattle.ak_model.proofs.Control.RunEnds.{Since, Ending, Ends, run_ends}
use Rattle.ak_model.proofs.Stops.LeavingTurns.{Left, TurnLeft, turn_left}

module _ (layout : Layout) (past : History) (control : Control) where
  -- a run of a processor that is inside: its last turn left
  pub record Finished (exit : Exit) (next : Control) : Type 0 where
    pub someone : someone_inside layout past ≡ true
    pub before : Control
    pub so_far : List ℕ
    pub after : List ℕ
    pub since : Since control before
    pub orderly : IsOrderly layout so_far true before
    pub left : Left layout past before exit next
    pub fits : IsOrderly layout after false next

  -- it holds in each case of what a move does
  pub record Holds (P : Reading → Control → Type 0) : Type 0 where
    pub quiet : P (reading Unchanged) control
    pub entered : (lp v : ℕ) → is_some control.now ≡ false → P (reading (Enters lp v)) (entered control v)
    pub resumed : (lp : ℕ) (saved : Saved) (rest : List Saved) → is_some control.now ≡ false → control.pending ≡ false → control.stack ≡ saved ∷ rest → P (reading (Resumes lp)) (resumed_by control (saved ∷ rest))
    pub interrupted : (lp : ℕ) → P (reading (Interrupts lp)) (interrupted_by control control.now)
    pub went : (next : Control) → Since control next → P (reading Unchanged) next
    pub exited : (lp : ℕ) (exit : Exit) (next : Control) → Finished exit next → P (reading (if_left exit (Exits lp exit))) next

module _ (layout : Layout) (fit : ClustersFit layout) (past : History) (control : Control) where
  finished : (lp : ℕ) (turns : List ProgramTurn) (ran : Ran) → someone_inside layout past ≡ true → Ending layout fit lp past control turns ran → Finished layout past control ran.exit ran.control
  finished lp turns ran someone h =
      let so_far : List ℕ = queue_by layout h.older in
      record {
        someone = someone;
        before = h.control;
        so_far = so_far;
        after = after_turn layout so_far h.control h.control.now;
        since = h.since;
        orderly = h.orderly;
        left = subst (TurnLeft layout past h.control) h.last (turn_left layout past so_far h.control h.orderly fit);
        fits = subst (TurnIsOrderly layout (after_turn layout so_far h.control h.control.now)) h.last (turn_fits layout so_far fit past h.control h.orderly);
      }

  ran_did : (P : Reading → Control → Type 0) → Holds layout past control P → (lp : ℕ) (turns : List ProgramTurn) (ran : Ran) → someone_inside layout past ≡ true → Ends layout fit lp past control turns ran → P (reading (if_left ran.exit (Exits lp ran.exit))) ran.control
  ran_did P holds lp turns ran someone h =
      elim h [
        | inl s ↦ subst (λ exit. P (reading (if_left exit (Exits lp exit))) ran.control) (sym s.0) (holds.went ran.control s.1)
        | inr f ↦ holds.exited lp ran.exit ran.control (finished lp turns ran someone f)
      ]

-- what holds in each case holds of each move
pub did : (layout : Layout) → ClustersFit layout → (older : List ProgramTurn) (moment : Moment) (P : Reading → Control → Type 0) → Holds layout moment.past moment.control P → ((lp : ℕ) → inside moment.past lp ≡ true → nat_lt lp layout.lps ≡ true) → OrderlyAfter layout older moment → (m : Move) → P (reading (changed layout moment m)) (after_move layout moment m).control
did layout fit older moment P holds low orderly m =
    let past : History = moment.past in
    let control : Control = moment.control in
    let so_far : List ℕ = queue_by layout older in
    each_move layout moment (λ e. P e.change e.next)
    (record {
      quiet = holds.quiet;
      enters = λ lp v there out few. holds.entered lp v (none_now layout so_far (someone_inside layout past) control orderly out);
      resumes = λ lp saved rest there out free e. holds.resumed lp saved rest (none_now layout so_far (someone_inside layout past) control orderly out) free e;
      interrupts = λ lp d. holds.interrupted lp;
      runs = λ lp n d someone.
          ran_did layout fit past control P holds lp (reverse (turns_of_run layout lp past n control) ++ older) (run layout past n control) someone
          (run_ends layout fit lp past n older control (subst (λ b. IsOrderly layout so_far b control) someone orderly));
    })
    low m
