-- Where the turns of the program stand: each comes in a run of a processor that is inside, the laws of the control state hold
-- before it, and what was asked of each moment holds there.
use Rattle.std.proofs.Common.{◌≡◌, ℕ, zero, suc, List, [], ◌∷◌, ◌++◌, map, reverse, refl, sym, ◌∙◌, subst}
use Rattle.std.specs.Prelude.{Bool, true, false, if◌then◌else◌, Option, Some, None}
use Rattle.std.specs.List.{list_all}
use Rattle.std.proofs.lemmas.Bool.{and_parts, ltb-true}
use Rattle.std.proofs.lemmas.List.Folds.{list_all-append}
use Rattle.ak_core.specs.Layout.{Layout, IsValid}
use Rattle.ak_core.specs.declared.event.Event.{Event}
use Rattle.ak_core.specs.declared.moves.Move.{Move}
use Rattle.ak_core.specs.declared.moves.Move.TheVariants.{Run}
use Rattle.ak_model.specs.Paging.Histories.{History}
use Rattle.ak_model.specs.Paging.Inside.{inside}
use Rattle.ak_model.specs.Control.ControlState.{Context, Program, Enter, Probe, Finish, Guard, Leave, Control}
use Rattle.ak_model.specs.Control.OneTurn.{Turn, Goes, Leaves}
use Rattle.ak_model.specs.Control.Runs.{turn, unless_left, before_turns}
use Rattle.ak_model.specs.Control.Trace.{Moment, trace}
use Rattle.ak_model.specs.Control.Moments.{turn_moments, moments}
use Rattle.ak_model.specs.Tapes.ProgramTurns.{ProgramTurn, turn_at, turn_in, turns_in, turns_of_run, turns_of_move, program_turns}
use Rattle.ak_model.specs.Sound.Forced.{EachTurn, queue_by}
use Rattle.ak_model.specs.Laws.Premises.{MissesFit}
use Rattle.ak_model.specs.Laws.Orderly.{IsOrderly, TurnIsOrderly}
use Rattle.ak_model.proofs.Control.MovedTo.{turns_all}
use Rattle.ak_model.proofs.Tapes.RunsOverTapes.{after}
use Rattle.ak_model.proofs.Paging.InsideIsOfLayout.{placed}
use Rattle.ak_model.proofs.Paging.SomeoneInside.{is_someone}
use Rattle.ak_model.proofs.Control.OrderlyTurns.{turn_fits}
use Rattle.ak_model.proofs.Control.OrderlyTrace.{turn_more}
use Rattle.ak_model.proofs.Clusters.ValidClusters.{clusters_fit}
use Rattle.ak_model.proofs.Control.OrderlyMoments.{trace_is_orderly}
use Rattle.ak_model.proofs.Control.QueueStays.{Kept, same, then_kept, TurnKeeps, turns}
use Rattle.ak_model.proofs.Tapes.CompletedTurns.{completed, joined, turn-completed, trace-completed}

module _ (layout : Layout) (tape : List Event) (test : Moment → Bool) where
  -- it holds of each moment so far
  abbrev pub AllMoments : List Move → Type 0
  AllMoments moves = list_all test (moments layout tape moves) ≡ true

  -- a turn of the program in this control state, of a processor that is inside, after these moves
  pub record StandsAt (moves : List Move) (lp : ℕ) (control : Control) (older : List ProgramTurn) : Type 0 where
    pub all : AllMoments moves
    pub here : test (record { past = (trace layout tape moves).past; control = control }) ≡ true
    pub within : inside (trace layout tape moves).past lp ≡ true
    pub kept : Kept (trace layout tape moves).control control
    pub orderly : IsOrderly layout (queue_by layout older) true control
    pub counted : control.count ≡ completed older
    pub program : control.now ≡ Some Program

  -- the moments before a move
  earlier : (moves : List Move) (m : Move) → AllMoments (m ∷ moves) → (list_all test (turn_moments layout (trace layout tape moves) m) ≡ true) × AllMoments moves
  earlier moves m h =
      let rest = (and_parts (test (trace layout tape (m ∷ moves))) _ h).1 in
      and_parts (list_all test (turn_moments layout (trace layout tape moves) m)) _
      (sym (list_all-append test (turn_moments layout (trace layout tape moves) m) (moments layout tape moves)) ∙ rest)

  module _ (valid : IsValid layout) (misses : MissesFit layout [] tape) (P : ProgramTurn → List ProgramTurn → Type 0) (each : (moves : List Move) (lp : ℕ) (control : Control) (older : List ProgramTurn) → StandsAt moves lp control older → P (turn_at lp (trace layout tape moves).past control) older) where
    -- ---- A run

    module _ (moves : List Move) (all : AllMoments moves) (lp : ℕ) (within : inside (trace layout tape moves).past lp ≡ true) where
      abbrev past : History
      past = (trace layout tape moves).past

      abbrev test_at : Control → Bool
      test_at control = test (record { past = past; control = control })

      record Before (control : Control) (older : List ProgramTurn) : Type 0 where
        pub kept : Kept (trace layout tape moves).control control
        pub orderly : IsOrderly layout (queue_by layout older) true control
        pub counted : control.count ≡ completed older
        pub so_far : EachTurn P older

      abbrev RunsEach : ℕ → List ProgramTurn → Control → Type 0
      RunsEach n older control = Before control older → list_all test_at (before_turns layout past n control) ≡ true → EachTurn P (reverse (turns_of_run layout lp past n control) ++ older)

      by_now : (control : Control) (older : List ProgramTurn) (now : Option Context) → EachTurn P older → (now ≡ Some Program → P (turn_at lp past control) older) → EachTurn P (reverse (turn_in lp past control now) ++ older)
      by_now control older None h f = h
      by_now control older (Some Program) h f = (f refl, h)
      by_now control older (Some (Enter k v)) h f = h
      by_now control older (Some (Probe i)) h f = h
      by_now control older (Some Finish) h f = h
      by_now control older (Some Guard) h f = h
      by_now control older (Some (Leave b a)) h f = h

      go_each : (n : ℕ) (control : Control) (older : List ProgramTurn) (t : Turn) → Kept (trace layout tape moves).control control → TurnKeeps control t → TurnIsOrderly layout (queue_by layout older) t → (after t).count ≡ completed older → EachTurn P older → list_all test_at (unless_left t (before_turns layout past n)) ≡ true → ((next : Control) → RunsEach n older next) → EachTurn P (reverse (turns_in lp past (unless_left t (before_turns layout past n))) ++ older)
      go_each n control older (Goes next) k keeps o c h tests later =
          later next (record { kept = then_kept (trace layout tape moves).control control next k keeps; orderly = o; counted = c; so_far = h }) tests
      go_each n control older (Leaves exit next) k keeps o c h tests later = h

      run_each : (n : ℕ) (older : List ProgramTurn) (control : Control) → RunsEach n older control
      run_each zero older control old tests = old.so_far
      run_each (suc n) older control old tests =
          let parts = and_parts (test_at control) _ tests in
          let t : Turn = turn layout past control in
          let here : List ProgramTurn = turn_in lp past control control.now in
          let more : List ProgramTurn = turns_in lp past (unless_left t (before_turns layout past n)) in
          let fits : TurnIsOrderly layout (queue_by layout (reverse here ++ older)) t =
          subst (λ q. TurnIsOrderly layout q t) (turn_more layout lp past control control.now older) (turn_fits layout (queue_by layout older) (clusters_fit layout valid) past control old.orderly) in
          let now : EachTurn P (reverse here ++ older) = by_now control older control.now old.so_far (λ e. each moves lp control older (record {
            all = all;
            here = parts.0;
            within = within;
            kept = old.kept;
            orderly = old.orderly;
            counted = old.counted;
            program = e;
          })) in
          subst (EachTurn P) (sym (joined here more older))
          (go_each n control (reverse here ++ older) t old.kept (turns layout past control control.now) fits (turn-completed layout lp past control older old.counted) now parts.1 (run_each n (reverse here ++ older)))

    -- ---- Moves

    within_each : (moves : List Move) (lp n : ℕ) (b : Bool) → inside (trace layout tape moves).past lp ≡ b → AllMoments moves → list_all test (if b then map (λ control. record (trace layout tape moves) { control = control }) (reverse (before_turns layout (trace layout tape moves).past n (trace layout tape moves).control)) else []) ≡ true → EachTurn P (program_turns layout tape moves) → EachTurn P ((if b then reverse (turns_of_run layout lp (trace layout tape moves).past n (trace layout tape moves).control) else []) ++ program_turns layout tape moves)
    within_each moves lp n false e all tests h = h
    within_each moves lp n true e all tests h =
        let moment : Moment = trace layout tape moves in
        let someone = is_someone layout moment.past lp (ltb-true lp layout.lps (placed layout lp tape moves e)) e in
        run_each moves all lp e n (program_turns layout tape moves) moment.control
        (record {
          kept = same moment.control;
          orderly = subst (λ b. IsOrderly layout (queue_by layout (program_turns layout tape moves)) b moment.control) someone (trace_is_orderly layout valid tape misses moves);
          counted = trace-completed layout tape moves;
          so_far = h;
        })
        (turns_all layout test moment n tests)

    move_each : (moves : List Move) (m : Move) → AllMoments moves → list_all test (turn_moments layout (trace layout tape moves) m) ≡ true → EachTurn P (program_turns layout tape moves) → EachTurn P (turns_of_move layout (trace layout tape moves) m ++ program_turns layout tape moves)
    move_each moves (Run lp n) all tests h = within_each moves lp.0 n (inside (trace layout tape moves).past lp.0) refl all tests h
    move_each moves _ all tests h = h

    -- what follows where a turn stands holds of each turn
    pub turns-each : (moves : List Move) → AllMoments moves → EachTurn P (program_turns layout tape moves)
    turns-each [] all = tt
    turns-each (m ∷ moves) all =
        let before = earlier moves m all in move_each moves m before.1 before.0 (turns-each moves before.1)
