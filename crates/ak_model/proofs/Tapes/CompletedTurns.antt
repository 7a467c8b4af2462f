-- The count of a trace is the number of its program turns that completed an instruction.
use Rattle.std.proofs.Common.{◌≡◌, ℕ, zero, suc, List, [], ◌∷◌, ◌++◌, append_assoc, reverse, arith, refl, ap, sym, ◌∙◌}
use Rattle.std.specs.Prelude.{Bool, true, false, Option, Some, None, nat_lt, ◌==◌}
use Rattle.std.proofs.lemmas.List.{reverse-append}
use Rattle.ak_core.specs.Layout.{Layout}
use Rattle.ak_core.specs.declared.event.Event.{Event}
use Rattle.ak_core.specs.declared.event.Event.TheVariants.{Call, Miss, Trap, Break}
use Rattle.ak_core.specs.declared.moves.Move.{Move}
use Rattle.ak_model.specs.Paging.Histories.{History}
use Rattle.ak_model.specs.Paging.Inside.{inside}
use Rattle.ak_model.specs.Control.ControlState.{Context, Program, Enter, Probe, Finish, Guard, Leave, Control}
use Rattle.ak_model.specs.Control.OneTurn.{Turn, Goes, Leaves}
use Rattle.ak_model.specs.Control.EventTurn.{due, event_turn}
use Rattle.ak_model.specs.Control.Runs.{turn_of, turn, go_on, run, unless_left, before_turns}
use Rattle.ak_model.specs.Control.Trace.{Moment, after_move, trace}
use Rattle.ak_model.specs.Misses.KeptTranslations.{completes_by}
use Rattle.ak_model.specs.Tapes.ProgramTurns.{ProgramTurn, turn_in, turns_in, turns_of_run, turns_of_move, program_turns}
use Rattle.ak_model.proofs.Paging.Tests.{either_way}
use Rattle.ak_model.proofs.Tapes.RunsOverTapes.{after, runtime_count}
use Rattle.ak_model.proofs.Paging.InsideIsOfLayout.{placed}
use Rattle.ak_model.proofs.Control.MovedTo.{each_move, interrupted_same}

-- one more, if so
abbrev pub one_more_if : Bool → ℕ → ℕ
one_more_if true n = suc n
one_more_if false n = n

-- how many of these turns completed an instruction
abbrev pub completed : List ProgramTurn → ℕ
completed [] = 0
completed (turn ∷ older) = one_more_if (completes_by turn.event) (completed older)

-- the turns of a run, one by one
pub joined : (here more older : List ProgramTurn) → reverse (here ++ more) ++ older ≡ reverse more ++ (reverse here ++ older)
joined here more older =
    ap (λ l. l ++ older) (reverse-append here more) ∙ append_assoc (reverse more) (reverse here) older

module _ (layout : Layout) where
  -- ---- One turn

  event_count : (control : Control) (event : Option Event) → (after (event_turn layout control event)).count ≡ one_more_if (completes_by event) control.count
  event_count control None = omega arith
  event_count control (Some (Call i b a)) = omega arith
  event_count control (Some (Miss i c)) = refl
  event_count control (Some (Break i)) = refl
  event_count control (Some (Trap i v)) = either_way (λ t. (after t).count ≡ control.count) (v == 14) _ _ refl refl

  by_now : (lp : ℕ) (past : History) (control : Control) (now : Option Context) (older : List ProgramTurn) → control.count ≡ completed older → (after (turn_of layout past control now)).count ≡ completed (reverse (turn_in lp past control now) ++ older)
  by_now lp past control None older h = h
  by_now lp past control (Some Program) older h =
      event_count control (due control.count control.rest) ∙ ap (one_more_if (completes_by (due control.count control.rest))) h
  by_now lp past control (Some (Enter k v)) older h = runtime_count layout past control (Enter k v) ∙ h
  by_now lp past control (Some (Probe i)) older h = runtime_count layout past control (Probe i) ∙ h
  by_now lp past control (Some Finish) older h = runtime_count layout past control Finish ∙ h
  by_now lp past control (Some Guard) older h = runtime_count layout past control Guard ∙ h
  by_now lp past control (Some (Leave b a)) older h = runtime_count layout past control (Leave b a) ∙ h

  -- after one turn
  pub turn-completed : (lp : ℕ) (past : History) (control : Control) (older : List ProgramTurn) → control.count ≡ completed older → (after (turn layout past control)).count ≡ completed (reverse (turn_in lp past control control.now) ++ older)
  turn-completed lp past control older h = by_now lp past control control.now older h

  -- ---- A run

  goes_completed : (lp : ℕ) (past : History) (n : ℕ) (older : List ProgramTurn) (t : Turn) → (after t).count ≡ completed older → ((control : Control) → control.count ≡ completed older → (run layout past n control).control.count ≡ completed (reverse (turns_of_run layout lp past n control) ++ older)) → (go_on t (run layout past n)).control.count ≡ completed (reverse (turns_in lp past (unless_left t (before_turns layout past n))) ++ older)
  goes_completed lp past n older (Goes next) h later = later next h
  goes_completed lp past n older (Leaves exit next) h later = h

  run_completed : (lp : ℕ) (past : History) (n : ℕ) (control : Control) (older : List ProgramTurn) → control.count ≡ completed older → (run layout past n control).control.count ≡ completed (reverse (turns_of_run layout lp past n control) ++ older)
  run_completed lp past zero control older h = h
  run_completed lp past (suc n) control older h =
      let here : List ProgramTurn = turn_in lp past control control.now in
      let more : List ProgramTurn = turns_in lp past (unless_left (turn layout past control) (before_turns layout past n)) in
      goes_completed lp past n (reverse here ++ older) (turn layout past control) (turn-completed lp past control older h) (λ next. run_completed lp past n next (reverse here ++ older))
      ∙ ap completed (sym (joined here more older))

  -- ---- Moves

  step_completed : (moment : Moment) (m : Move) (older : List ProgramTurn) → ((lp : ℕ) → inside moment.past lp ≡ true → nat_lt lp layout.lps ≡ true) → moment.control.count ≡ completed older → (after_move layout moment m).control.count ≡ completed (turns_of_move layout moment m ++ older)
  step_completed moment m older known h =
      each_move layout moment (λ e. e.next.count ≡ completed (e.turns ++ older))
      (record {
        quiet = h;
        enters = λ lp v there out few. h;
        resumes = λ lp saved rest there out free e. h;
        interrupts = λ lp d. (interrupted_same moment.control moment.control.now).count ∙ h;
        runs = λ lp n d someone. run_completed lp moment.past n moment.control older h;
      })
      known m

  -- after all moves
  pub trace-completed : (tape : List Event) (moves : List Move) → (trace layout tape moves).control.count ≡ completed (program_turns layout tape moves)
  trace-completed tape [] = refl
  trace-completed tape (m ∷ moves) =
      step_completed (trace layout tape moves) m (program_turns layout tape moves) (λ lp. placed layout lp tape moves) (trace-completed tape moves)
