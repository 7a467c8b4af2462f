-- A processor leaves with the exit of a stopped enclave only where the stop has a cause.
use Rattle.std.proofs.Common.{◌≡◌, inl, inr, ℕ, zero, suc, List, [], ◌∷◌, length, refl, sym, subst}
use Rattle.std.specs.Prelude.{Bool, true, false, if◌then◌else◌, Option, Some, None, is_some, nat_lt, ◌==◌}
use Rattle.std.proofs.lemmas.Bool.{or_cases}
use Rattle.ak_core.specs.Layout.{Layout, IsValid}
use Rattle.ak_core.specs.Mem.{Access}
use Rattle.ak_core.specs.declared.event.Event.{Event}
use Rattle.ak_core.specs.declared.event.Event.TheVariants.{Call, Miss, Trap, Break}
use Rattle.ak_core.specs.declared.moves.Exit.{Exit}
use Rattle.ak_core.specs.declared.moves.Exit.TheVariants.{Still, Stopped}
use Rattle.ak_core.specs.declared.moves.Move.{Move}
use Rattle.ak_model.specs.Paging.Histories.{History, Exits, if_left, change_of}
use Rattle.ak_model.specs.Paging.Inside.{inside}
use Rattle.ak_model.specs.Control.ControlState.{Phase, New, Running, Calling, Asked, Ended, Trapped, Dead, Context, Program, Enter, Probe, Finish, Guard, Leave, Reason, Interrupted, Cleared, Raised, Denied, Missed, Broke, Faulted, Saved, Cause, Control, cssa, first_cause}
use Rattle.ak_model.specs.Control.RuntimeTurn.{accesses, first_fault, handle, enter, finish, resume_guard, leave_call, effect, unless_fault}
use Rattle.ak_model.specs.Control.EventTurn.{due, event_turn}
use Rattle.ak_model.specs.Control.OneTurn.{Turn, Goes, Leaves}
use Rattle.ak_model.specs.Control.Runs.{turn_of, turn, go_on, run}
use Rattle.ak_model.specs.Control.Answers.{answer}
use Rattle.ak_model.specs.Control.Trace.{Moment, after_move, trace}
use Rattle.ak_model.specs.Laws.Premises.{MissesFit}
use Rattle.ak_model.specs.Laws.StepRows.{guards}
use Rattle.ak_model.specs.Stops.ShownStop.{is_stopped, says_stopped, shows_stop}
use Rattle.ak_model.specs.Laws.Orderly.{ContextFits, NowFits, PhaseFits, IsOrderly, TurnIsOrderly, MomentIsOrderly, after_turn}
use Rattle.ak_model.specs.Stops.MovesBefore.{changed}
use Rattle.ak_model.proofs.Paging.Tests.{either_way}
use Rattle.ak_model.proofs.Paging.InsideIsOfLayout.{placed}
use Rattle.ak_model.proofs.Paging.Readings.{Reading, reading}
use Rattle.ak_model.proofs.Control.MovedTo.{each_move, interrupted_same}
use Rattle.ak_model.proofs.Control.OrderlySteps.{ClustersFit, first_is_some}
use Rattle.ak_model.proofs.Control.OrderlyTurns.{turn_fits}
use Rattle.ak_model.proofs.Clusters.ValidClusters.{clusters_fit}
use Rattle.ak_model.proofs.Control.OrderlyMoments.{trace_is_orderly}

-- a cause stays, and a processor that leaves with the exit of a stopped enclave leaves one behind
pub record StopsWith (control : Control) (exit : Exit) (next : Control) : Type 0 where
  pub stays : is_some control.cause ≡ true → is_some next.cause ≡ true
  pub shown : is_stopped exit ≡ true → is_some next.cause ≡ true

abbrev TurnStops : Control → Turn → Type 0
TurnStops control (Goes next) = StopsWith control Still next
TurnStops control (Leaves exit next) = StopsWith control exit next

module _ (layout : Layout) where
  stuck_by : (b : Bool) (o : Option Cause) (cause : Cause) → is_some o ≡ true → is_some (if b then first_cause o cause else o) ≡ true
  stuck_by true o cause h = first_is_some o cause
  stuck_by false o cause h = h

  -- ---- One turn

  module _ (control : Control) where
    -- the cause is the same, and the exit is another one
    same : (exit : Exit) (next : Control) → next.cause ≡ control.cause → is_stopped exit ≡ false → StopsWith control exit next
    same exit next e s = record { stays = λ h. subst (λ o. is_some o ≡ true) (sym e) h; shown = λ h. absurd (cc) }

    -- there is a cause
    dies : (exit : Exit) (next : Control) (cause : Cause) → next.cause ≡ first_cause control.cause cause → StopsWith control exit next
    dies exit next cause e =
        let some : is_some next.cause ≡ true = subst (λ o. is_some o ≡ true) (sym e) (first_is_some control.cause cause) in
        record { stays = λ h. some; shown = λ h. some }

    by_reason : (k : ℕ) (inner : Context) (reason : Reason) (older : List Saved) → TurnStops control (handle layout control k (record { context = inner; reason = reason } ∷ older))
    by_reason k inner Interrupted older = same Exit.Nothing _ refl refl
    by_reason k inner Cleared older = same Exit.Nothing _ refl refl
    by_reason k inner (Faulted t) older = either_way (TurnStops control) (k == 2) _ _ (dies Stopped _ _ refl) (dies Stopped _ _ refl)
    by_reason k inner (Raised v) older = same (Exit.Trapped v) _ refl refl
    by_reason k inner Denied older = same (Exit.Trapped 14) _ refl refl
    by_reason k inner Broke older = dies Stopped _ _ refl
    by_reason k inner (Missed c) older = same (Exit.Ask _ c) _ refl refl

    handled : (k : ℕ) (stack : List Saved) → TurnStops control (handle layout control k stack)
    handled k [] = same Exit.Nothing _ refl refl
    handled k (saved ∷ older) = by_reason k saved.context saved.reason older

    -- a dead enclave has a cause
    dead : (next : Control) → next.cause ≡ control.cause → is_some control.cause ≡ true → StopsWith control Stopped next
    dead next e some =
        let here : is_some next.cause ≡ true = subst (λ o. is_some o ≡ true) (sym e) some in record { stays = λ h. here; shown = λ h. here }

    enters : (k v : ℕ) (phase : Phase) → PhaseFits layout control.queue control.cause phase → TurnStops control (enter layout control k v phase)
    enters k v (Ended s) p = same (Exit.Ended s) _ refl refl
    enters k v (Trapped x) p = same (Exit.Trapped x) _ refl refl
    enters k v Dead p = dead _ refl p
    enters k v Running p = handled k control.stack
    enters zero v New p = same Still _ refl refl
    enters (suc k) v New p = handled (suc k) control.stack
    enters zero v Calling p = same Still _ refl refl
    enters (suc k) v Calling p = handled (suc k) control.stack
    enters zero v (Asked c) p = handled zero control.stack
    enters (suc zero) v (Asked c) p = same Still _ refl refl
    enters (suc (suc k)) v (Asked c) p = handled (suc (suc k)) control.stack

    finishes : (phase : Phase) → TurnStops control (finish control phase)
    finishes (Asked c) = same Exit.Ready _ refl refl
    finishes New = same Exit.Nothing _ refl refl
    finishes Running = same Exit.Nothing _ refl refl
    finishes Calling = same Exit.Nothing _ refl refl
    finishes (Ended s) = same Exit.Nothing _ refl refl
    finishes (Trapped x) = same Exit.Nothing _ refl refl
    finishes Dead = same Exit.Nothing _ refl refl

    guards_on : (phase : Phase) → PhaseFits layout control.queue control.cause phase → guards phase ≡ true → TurnStops control (resume_guard control phase)
    guards_on (Asked c) p g = dies Stopped _ _ refl
    guards_on (Trapped x) p g = same (Exit.Trapped x) _ refl refl
    guards_on Dead p g = dead _ refl p
    guards_on New p g = cc
    guards_on Running p g = cc
    guards_on Calling p g = cc
    guards_on (Ended s) p g = cc

    calls : (b a : ℕ) → TurnStops control (leave_call control b a)
    calls zero a = same (Exit.Ended a) _ refl refl
    calls (suc b) a = same (Exit.Call (suc b) a) _ refl refl

    effects : (context : Context) → PhaseFits layout control.queue control.cause control.phase → ContextFits layout control.phase (length control.stack) context → TurnStops control (effect layout control context)
    effects Program p fits = same Still _ refl refl
    effects (Enter k v) p fits = enters k v control.phase p
    effects (Probe i) p fits = same Still _ refl refl
    effects Finish p fits = finishes control.phase
    effects Guard p fits = guards_on control.phase p fits.1
    effects (Leave b a) p fits = calls b a

    steps : (context : Context) (o : Option Access) → PhaseFits layout control.queue control.cause control.phase → ContextFits layout control.phase (length control.stack) context → TurnStops control (unless_fault layout control context o)
    steps context None p fits = effects context p fits
    steps context (Some t) p fits = record { stays = λ h. stuck_by (cssa control == 2) control.cause _ h; shown = λ h. absurd (cc) }

    events : (event : Option Event) → TurnStops control (event_turn layout control event)
    events None = same Still _ refl refl
    events (Some (Call i b a)) = same Still _ refl refl
    events (Some (Miss i c)) = same (Exit.Pf _ _) _ refl refl
    events (Some (Break i)) = same (Exit.Pf _ _) _ refl refl
    events (Some (Trap i v)) = either_way (TurnStops control) (v == 14) _ _ (same (Exit.Pf _ _) _ refl refl) (same (Exit.Vector v) _ refl refl)

    turn_stops : (past : History) (now : Option Context) → PhaseFits layout control.queue control.cause control.phase → NowFits layout control.phase control.stack now → TurnStops control (turn_of layout past control now)
    turn_stops past None p fits = same Still _ refl refl
    turn_stops past (Some Program) p fits = events (due control.count control.rest)
    turn_stops past (Some (Enter k v)) p fits = steps (Enter k v) (first_fault layout past (accesses layout control (Enter k v))) p fits
    turn_stops past (Some (Probe i)) p fits = steps (Probe i) (first_fault layout past (accesses layout control (Probe i))) p fits
    turn_stops past (Some Finish) p fits = steps Finish (first_fault layout past (accesses layout control Finish)) p fits
    turn_stops past (Some Guard) p fits = steps Guard (first_fault layout past (accesses layout control Guard)) p fits
    turn_stops past (Some (Leave b a)) p fits = steps (Leave b a) (first_fault layout past (accesses layout control (Leave b a))) p fits

  -- ---- A run

  module _ (fit : ClustersFit layout) (past : History) where
    abbrev RunStops : ℕ → Control → Type 0
    RunStops n control = StopsWith control (run layout past n control).exit (run layout past n control).control

    go_stops : (n : ℕ) (so_far : List ℕ) (control : Control) (t : Turn) → TurnIsOrderly layout so_far t → TurnStops control t → ((next : Control) → IsOrderly layout so_far true next → RunStops n next) → StopsWith control (go_on t (run layout past n)).exit (go_on t (run layout past n)).control
    go_stops n so_far control (Goes next) o h later =
        let rest = later next o in record { stays = λ c. rest.stays (h.stays c); shown = rest.shown }
    go_stops n so_far control (Leaves exit next) o h later = h

    run_stops : (n : ℕ) (so_far : List ℕ) (control : Control) → IsOrderly layout so_far true control → RunStops n control
    run_stops zero so_far control old = same control Still control refl refl
    run_stops (suc n) so_far control old =
        let more : List ℕ = after_turn layout so_far control control.now in
        go_stops n more control (turn layout past control) (turn_fits layout so_far fit past control old) (turn_stops control past control.now old.phase old.now) (λ next. run_stops n more next)

  -- ---- Moves

  -- a move with this change: a cause stays, and there is one where a processor left with the exit of a stopped enclave
  record MoveStops (control : Control) (change : Reading) (next : Control) : Type 0 where
    pub stays : is_some control.cause ≡ true → is_some next.cause ≡ true
    pub shown : change.stopped ≡ true → is_some next.cause ≡ true

  silent : (control : Control) (change : Reading) (next : Control) → next.cause ≡ control.cause → change.stopped ≡ false → MoveStops control change next
  silent control change next e s = record { stays = λ h. subst (λ o. is_some o ≡ true) (sym e) h; shown = λ h. absurd (cc) }

  left_says : (control : Control) (lp : ℕ) (exit : Exit) (next : Control) → StopsWith control exit next → MoveStops control (reading (if_left exit (Exits lp exit))) next
  left_says control lp Still next h = record { stays = h.stays; shown = λ e. absurd (cc) }
  left_says control lp exit next h = record { stays = h.stays; shown = h.shown }

  move_stops : (fit : ClustersFit layout) (so_far : List ℕ) (moment : Moment) (m : Move) → ((lp : ℕ) → inside moment.past lp ≡ true → nat_lt lp layout.lps ≡ true) → MomentIsOrderly layout so_far moment → MoveStops moment.control (reading (changed layout moment m)) (after_move layout moment m).control
  move_stops fit so_far moment m low old =
      let control : Control = moment.control in
      each_move layout moment (λ e. MoveStops control e.change e.next)
      (record {
        quiet = silent control _ control refl refl;
        enters = λ lp v there out few. silent control _ _ refl refl;
        resumes = λ lp saved rest there out free e. silent control _ _ refl refl;
        interrupts = λ lp d. silent control _ _ (interrupted_same control control.now).cause refl;
        runs = λ lp n d someone.
            let ran = run layout moment.past n control in
            left_says control lp ran.exit ran.control (run_stops fit moment.past n so_far control (subst (λ b. IsOrderly layout so_far b control) someone old));
      })
      low m

  -- ---- Whole traces

  -- where a processor left with the exit of a stopped enclave, the stop has a cause
  pub stop-has_cause : IsValid layout → (tape : List Event) → MissesFit layout [] tape → (moves : List Move) → shows_stop (trace layout tape moves).past ≡ true → is_some (trace layout tape moves).control.cause ≡ true
  stop-has_cause valid tape misses [] h = cc
  stop-has_cause valid tape misses (m ∷ moves) h =
      let before : Moment = trace layout tape moves in
      let stops = move_stops (clusters_fit layout valid) _ before m (λ lp. placed layout lp tape moves) (trace_is_orderly layout valid tape misses moves) in
      elim (or_cases (says_stopped (change_of (m, answer layout before.past before.control m))) (shows_stop before.past) h) [
        | inl now ↦ stops.shown now
        | inr earlier ↦ stops.stays (stop-has_cause valid tape misses moves earlier)
      ]
