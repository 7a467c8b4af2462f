-- A break at the end of the tape stays there: over the tape without it the run is honest, so that at each turn of the program what
-- is in is mapped, and a break that is forced there cannot be.
use Rattle.std.proofs.Common.{◌≡◌, ℕ, zero, suc, ◌≤◌, List, [], ◌∷◌, ◌++◌, length, reverse, refl, ap, sym, ◌∙◌, subst, append_assoc}
use Rattle.std.specs.Prelude.{Bool, true, false, not, if◌then◌else◌, map, Option, Some, None, nat_lt, ◌==◌}
use Rattle.std.specs.Bool.{then_some}
use Rattle.std.specs.List.{list_all}
use Rattle.std.proofs.lemmas.Bool.{and_parts, ltb-true}
use Rattle.std.proofs.lemmas.List.{reverse-append}
use Rattle.std.proofs.lemmas.List.Folds.{list_all-append}
use Rattle.ak_core.specs.Layout.{Layout, IsValid}
use Rattle.ak_core.specs.declared.event.Event.{Event}
use Rattle.ak_core.specs.declared.moves.Move.{Move}
use Rattle.ak_core.specs.declared.moves.Move.TheVariants.{Eenter, Eresume, Run, Interrupt}
use Rattle.ak_core.specs.declared.moves.Answer.{Answer}
use Rattle.ak_core.specs.declared.moves.Answer.TheVariants.{Ok, NoLp, Outside}
use Rattle.ak_model.specs.Paging.Histories.{History}
use Rattle.ak_model.specs.Paging.Inside.{inside, someone_inside}
use Rattle.ak_model.specs.Control.ControlState.{Context, Program, Enter, Probe, Finish, Guard, Leave, Saved, Control}
use Rattle.ak_model.specs.Control.OneTurn.{Turn, Goes, Leaves}
use Rattle.ak_model.specs.Control.RuntimeTurn.{runtime_turn}
use Rattle.ak_model.specs.Control.EventTurn.{count_of, due, event_turn, program_turn}
use Rattle.ak_model.specs.Control.Runs.{turn_of, turn, go_on, run, unless_left, before_turns}
use Rattle.ak_model.specs.Control.Answers.{enter_answer, resume_answer, if_inside}
use Rattle.ak_model.specs.Control.Entering.{entered, resumed_by, interrupted_by, on_ok, on_exit}
use Rattle.ak_model.specs.Control.Trace.{Moment, after_move, trace}
use Rattle.ak_model.specs.Control.Moments.{turn_moments, moments}
use Rattle.ak_model.specs.Tapes.ProgramTurns.{ProgramTurn, turn_at, turn_in, turns_in, turns_of_run, turns_of_move, program_turns}
use Rattle.ak_model.specs.Tapes.LastMoment.{FlatRuns}
use Rattle.ak_model.specs.Tapes.Tape.{is_tape}
use Rattle.ak_model.specs.Sound.Forced.{queue_by, EachTurn, BreakIsForced, BrokenBy}
use Rattle.ak_model.specs.Laws.Orderly.{IsOrderly, TurnIsOrderly, OrderlyAfter}
use Rattle.ak_model.specs.Laws.Premises.{all_but_last, MissesFit}
use Rattle.ak_model.specs.Laws.ToldFault.{is_break}
use Rattle.ak_model.specs.Kernels.KernelRules.{keeps_mapped}
use Rattle.ak_model.specs.Kernels.HonestKernel.{drive, IsDriven}
use Rattle.ak_model.proofs.Clusters.ValidClusters.{clusters_fit}
use Rattle.ak_model.proofs.Control.MovedTo.{turns_all}
use Rattle.ak_model.proofs.Control.OrderlyMoments.{trace_is_orderly}
use Rattle.ak_model.proofs.Control.OrderlySteps.{ClustersFit}
use Rattle.ak_model.proofs.Control.OrderlyTrace.{turn_more}
use Rattle.ak_model.proofs.Control.OrderlyTurns.{turn_fits}
use Rattle.ak_model.proofs.Kernels.NoForcedBreak.{not-broken}
use Rattle.ak_model.proofs.Paging.InsideIsOfLayout.{placed}
use Rattle.ak_model.proofs.Paging.SomeoneInside.{is_someone}
use Rattle.ak_model.proofs.Tapes.CutTraces.{cut_ok, cut_back, taken_rest, trace-cut}
use Rattle.ak_model.proofs.Tapes.EachTurn.{not-broken_by}
use Rattle.ak_model.proofs.Tapes.RunsOverTapes.{after, tape_map, moment_map, runtime_rest, turn_ok}
use Rattle.ak_model.proofs.Tapes.StepsReadNoTape.{on_turn}
use Rattle.ak_driver.specs.HonestRuns.{IsRoomy, IsHonestRun}
use Rattle.ak_driver.proofs.Keeping.LastBreak.{ends_broken, some_left, unbroken_before, fit_before}
use Rattle.ak_driver.proofs.Keeping.RulesKept.{honours}

-- without the last event
abbrev shorter : List Event → List Event
shorter = all_but_last 1

abbrev cut : Control → Control
cut = tape_map shorter

-- the break still stands at the end of what is left
abbrev Stays : Control → Type 0
Stays control = ends_broken control.rest ≡ true

module _ (layout : Layout) where
  -- ---- One turn

  -- an event that is taken and is no break is not the last
  taken_stays : (control : Control) (event : Event) (rest : List Event) → is_break (Some event) ≡ false → ends_broken (event ∷ rest) ≡ true → ends_broken rest ≡ true
  taken_stays control event [] calm h = absurd (let e : is_break (Some event) ≡ true = h in cc)
  taken_stays control event (next ∷ rest) calm h = h

  due_stays : (control : Control) (event : Event) (rest : List Event) (b : Bool) → is_break (then_some b event) ≡ false → ends_broken (event ∷ rest) ≡ true
      → ends_broken (after (event_turn layout (record control { rest = event ∷ rest }) (then_some b event))).rest ≡ true
  due_stays control event rest true calm h = subst (λ r. ends_broken r ≡ true) (sym (taken_rest layout control event rest)) (taken_stays control event rest calm h)
  due_stays control event rest false calm h = h

  program_stays : (control : Control) (rest : List Event) → is_break (due control.count rest) ≡ false → ends_broken rest ≡ true
      → ends_broken (after (program_turn layout (record control { rest = rest }))).rest ≡ true
  program_stays control [] calm h = absurd (cc)
  program_stays control (event ∷ rest) calm h = due_stays control event rest (count_of event == control.count) calm h

  runtime_stays : (past : History) (control : Control) (context : Context) → Stays control → Stays (after (runtime_turn layout past control context))
  runtime_stays past control context h = subst (λ rest. ends_broken rest ≡ true) (sym (runtime_rest layout past control context)) h

  turn_stays : (past : History) (control : Control) (now : Option Context) → (now ≡ Some Program → is_break (due control.count control.rest) ≡ false) → Stays control → Stays (after (turn_of layout past control now))
  turn_stays past control None calm h = h
  turn_stays past control (Some Program) calm h = program_stays control control.rest (calm refl) h
  turn_stays past control (Some (Enter k v)) calm h = runtime_stays past control (Enter k v) h
  turn_stays past control (Some (Probe i)) calm h = runtime_stays past control (Probe i) h
  turn_stays past control (Some Finish) calm h = runtime_stays past control Finish h
  turn_stays past control (Some Guard) calm h = runtime_stays past control Guard h
  turn_stays past control (Some (Leave b a)) calm h = runtime_stays past control (Leave b a) h

  -- such a turn is the same over the shorter tape
  turn_same : (past : History) (control : Control) → Stays (after (turn layout past control)) → turn layout past (cut control) ≡ on_turn cut (turn layout past control)
  turn_same past control h =
      turn_ok layout shorter (λ rest count. 1 ≤ length rest) (cut_ok layout 1) (cut_back layout 1) past control control.now
      (some_left (after (turn layout past control)).rest h)

  module _ (fit : ClustersFit layout) (runs : FlatRuns) where
    -- each break is forced
    abbrev Broken : List ProgramTurn → Type 0
    Broken turns = EachTurn (λ turn. λ older. BrokenBy layout runs turn older turn.event) turns

    older_broken : (made older : List ProgramTurn) → Broken (made ++ older) → Broken older
    older_broken [] older h = h
    older_broken (turn ∷ made) older h = older_broken made older h.1

    -- ---- A run

    abbrev mapped_at : History → Control → Bool
    mapped_at past control = keeps_mapped layout (record { past = past; control = control })

    module _ (lp : ℕ) (past : History) (someone : someone_inside layout past ≡ true) where
      -- where the shorter tape's run keeps what is in mapped, the break stays
      abbrev RunStays : ℕ → List ProgramTurn → Control → Type 0
      RunStays n older control = IsOrderly layout (queue_by layout older) true control → Broken (reverse (turns_of_run layout lp past n control) ++ older)
          → list_all (mapped_at past) (before_turns layout past n (cut control)) ≡ true → Stays control → Stays (run layout past n control).control

      go_stays : (n : ℕ) (older : List ProgramTurn) (t : Turn) → TurnIsOrderly layout (queue_by layout older) t → Broken (reverse (turns_in lp past (unless_left t (before_turns layout past n))) ++ older)
          → list_all (mapped_at past) (unless_left (on_turn cut t) (before_turns layout past n)) ≡ true → Stays (after t) → ((control : Control) → RunStays n older control) → Stays (go_on t (run layout past n)).control
      go_stays n older (Goes next) o b m h later = later next o b m h
      go_stays n older (Leaves exit next) o b m h later = h

      unbroken : (older : List ProgramTurn) (control : Control) → IsOrderly layout (queue_by layout older) true control → mapped_at past control ≡ true
          → Broken (reverse (turn_in lp past control control.now) ++ older) → control.now ≡ Some Program → is_break (due control.count control.rest) ≡ false
      unbroken older control orderly m b n =
          let here : Broken (turn_at lp past control ∷ older) = subst (λ now. Broken (reverse (turn_in lp past control now) ++ older)) n b in
          not-broken_by (BreakIsForced layout runs (turn_at lp past control) older) (due control.count control.rest) (not-broken layout runs older lp past control orderly n someone m) here.0

      run_stays : (n : ℕ) (older : List ProgramTurn) (control : Control) → RunStays n older control
      run_stays zero older control orderly b m h = h
      run_stays (suc n) older control orderly b m h =
          let ms = and_parts (mapped_at past control) _ m in
          let t : Turn = turn layout past control in
          let here : List ProgramTurn = turn_in lp past control control.now in
          let more : List ProgramTurn = turns_in lp past (unless_left t (before_turns layout past n)) in
          let joined : reverse (here ++ more) ++ older ≡ reverse more ++ (reverse here ++ older) =
          ap (λ l. l ++ older) (reverse-append here more) ∙ append_assoc (reverse more) (reverse here) older in
          let all : Broken (reverse more ++ (reverse here ++ older)) = subst Broken joined b in
          let now : Broken (reverse here ++ older) = older_broken (reverse more) (reverse here ++ older) all in
          let fits : TurnIsOrderly layout (queue_by layout (reverse here ++ older)) t =
          subst (λ q. TurnIsOrderly layout q t) (turn_more layout lp past control control.now older) (turn_fits layout (queue_by layout older) fit past control orderly) in
          let left : Stays (after t) = turn_stays past control control.now (unbroken older control orderly ms.0 now) h in
          go_stays n (reverse here ++ older) t fits all
          (subst (λ u. list_all (mapped_at past) (unless_left u (before_turns layout past n)) ≡ true) (turn_same past control left) ms.1)
          left (run_stays n (reverse here ++ older))

    -- ---- A move

    ok_stays : (a : Answer) (before next : Control) → Stays before → Stays next → Stays (on_ok a before next)
    ok_stays Ok before next h k = k
    ok_stays _ before next h k = h

    resumed_stays : (control : Control) (stack : List Saved) → Stays control → Stays (resumed_by control stack)
    resumed_stays control [] h = h
    resumed_stays control (saved ∷ older) h = h

    interrupted_stays : (control : Control) (now : Option Context) → Stays control → Stays (interrupted_by control now)
    interrupted_stays control None h = h
    interrupted_stays control (Some context) h = h

    move_stays : (older : List ProgramTurn) (moment : Moment) (m : Move) → ((lp : ℕ) → inside moment.past lp ≡ true → nat_lt lp layout.lps ≡ true) → OrderlyAfter layout older moment
        → Broken (turns_of_move layout moment m ++ older) → list_all (keeps_mapped layout) (turn_moments layout (moment_map shorter moment) m) ≡ true
        → Stays moment.control → Stays (after_move layout moment m).control
    move_stays older moment (Eenter lp v) low orderly b k h = ok_stays (enter_answer layout moment.past moment.control lp.0) moment.control (entered moment.control v) h h
    move_stays older moment (Eresume lp) low orderly b k h =
        ok_stays (resume_answer layout moment.past moment.control lp.0) moment.control (resumed_by moment.control moment.control.stack) h (resumed_stays moment.control moment.control.stack h)
    move_stays older moment (Interrupt lp) low orderly b k h =
        ok_stays (if_inside layout moment.past lp.0 Ok) moment.control (interrupted_by moment.control moment.control.now) h (interrupted_stays moment.control moment.control.now h)
    move_stays older moment (Run lp n) low orderly b k h = by (nat_lt lp.0 layout.lps) (inside moment.past lp.0) refl b k
      where
        by : (there within : Bool) → inside moment.past lp.0 ≡ within → Broken ((if within then reverse (turns_of_run layout lp.0 moment.past n moment.control) else []) ++ older)
            → list_all (keeps_mapped layout) (if within then map (λ control. record (moment_map shorter moment) { control = control }) (reverse (before_turns layout moment.past n (cut moment.control))) else []) ≡ true
            → Stays (on_exit (if not there then NoLp else (if not within then Outside else Answer.Exit (run layout moment.past n moment.control).exit)) moment.control (run layout moment.past n moment.control).control)
        by false within e b k = h
        by true false e b k = h
        by true true e b k =
            let someone = is_someone layout moment.past lp.0 (ltb-true lp.0 layout.lps (low lp.0 e)) e in
            run_stays lp.0 moment.past someone n older moment.control
            (subst (λ x. IsOrderly layout (queue_by layout older) x moment.control) someone orderly) b
            (turns_all layout (keeps_mapped layout) (moment_map shorter moment) n k) h
    move_stays older moment _ low orderly b k h = h

-- ---- All moves

module _ (layout : Layout) (valid : IsValid layout) (roomy : IsRoomy layout) (runs : FlatRuns) (tape : List Event) (ordered : is_tape tape ≡ true) (misses : MissesFit layout [] tape) (broken : ends_broken tape ≡ true) (inputs : List ℕ) where
  -- the honest kernel's moves are its moves over the shorter tape, and no turn comes to the break
  pub break_stays : (moves : List Move) → EachTurn (λ turn. λ older. BrokenBy layout runs turn older turn.event) (program_turns layout tape moves) → IsDriven layout tape inputs moves
      → Stays (trace layout tape moves).control × IsDriven layout (shorter tape) inputs moves
  break_stays [] b driven = (broken, tt)
  break_stays (m ∷ moves) b driven =
      let before : Moment = trace layout tape moves in
      let old = break_stays moves (older_broken layout (clusters_fit layout valid) runs (turns_of_move layout before m) (program_turns layout tape moves) b) driven.1 in
      let same : trace layout (shorter tape) moves ≡ moment_map shorter before = trace-cut layout 1 tape moves (some_left before.control.rest old.0) in
      let next : drive layout (trace layout (shorter tape) moves).past inputs ≡ Some m = subst (λ k. drive layout k.past inputs ≡ Some m) (sym same) driven.0 in
      let honest : IsHonestRun layout (shorter tape) inputs (m ∷ moves) = record {
        valid = valid;
        roomy = roomy;
        misses = fit_before layout [] tape misses;
        unbroken = unbroken_before tape ordered;
        driven = (next, old.1);
      } in
      let kept = (honours layout (shorter tape) inputs (m ∷ moves) honest).mapped in
      let later = (and_parts (keeps_mapped layout (trace layout (shorter tape) (m ∷ moves))) _ kept).1 in
      let turns = turn_moments layout (trace layout (shorter tape) moves) m in
      let own = (and_parts (list_all (keeps_mapped layout) turns) _ (sym (list_all-append (keeps_mapped layout) turns (moments layout (shorter tape) moves)) ∙ later)).0 in
      let mapped : list_all (keeps_mapped layout) (turn_moments layout (moment_map shorter before) m) ≡ true = subst (λ k. list_all (keeps_mapped layout) (turn_moments layout k m) ≡ true) same own in (
        move_stays layout (clusters_fit layout valid) runs (program_turns layout tape moves) before m (λ lp. placed layout lp tape moves) (trace_is_orderly layout valid tape misses moves) b mapped old.0,
        (next, old.1),
      )
