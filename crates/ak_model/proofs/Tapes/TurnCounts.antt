-- How a turn's count stands to the count that the trace came to.
use Rattle.std.proofs.Common.{◌≡◌, ℕ, zero, suc, ◌≤◌, List, [], ◌∷◌, ◌++◌, arith}
use Rattle.std.specs.Prelude.{true, Option, Some, None, nat_lt, ◌==◌}
use Rattle.ak_core.specs.Layout.{Layout}
use Rattle.ak_core.specs.declared.event.Event.{Event}
use Rattle.ak_core.specs.declared.event.Event.TheVariants.{Call, Miss, Trap, Break}
use Rattle.ak_core.specs.declared.moves.Move.{Move}
use Rattle.ak_model.specs.Paging.Histories.{History}
use Rattle.ak_model.specs.Paging.Inside.{inside}
use Rattle.ak_model.specs.Control.ControlState.{Context, Program, Enter, Probe, Finish, Guard, Leave, Control}
use Rattle.ak_model.specs.Control.OneTurn.{Turn, Goes, Leaves}
use Rattle.ak_model.specs.Control.EventTurn.{due, event_turn, program_turn}
use Rattle.ak_model.specs.Control.Runs.{turn_of, turn, go_on, run, unless_left, before_turns}
use Rattle.ak_model.specs.Control.Trace.{Moment, after_move, trace}
use Rattle.ak_model.specs.Tapes.ProgramTurns.{ProgramTurn, turn_in, turns_in, turns_of_run, turns_of_move, program_turns}
use Rattle.ak_model.specs.Laws.Premises.{IsCounted}
use Rattle.ak_model.specs.Sound.Forced.{EachTurn}
use Rattle.ak_model.proofs.Paging.Tests.{either_way}
use Rattle.ak_model.proofs.Tapes.RunsOverTapes.{after, runtime_count}
use Rattle.ak_model.proofs.Paging.InsideIsOfLayout.{placed}
use Rattle.ak_model.proofs.Control.MovedTo.{each_move, interrupted_same}
use Rattle.ak_model.proofs.Tapes.EachTurn.{each-from, alone-append, alone-reverse}

-- of each of these turns
abbrev pub CountsEach : ℕ → List ProgramTurn → Type 0
CountsEach bound turns = EachTurn (λ turn. λ older. IsCounted bound turn.count turn.event) turns

counts_up : (low bound count : ℕ) (event : Option Event) → low ≤ bound → IsCounted low count event → IsCounted bound count event
counts_up low bound count None le h = omega arith
counts_up low bound count (Some (Call i b a)) le h = omega arith
counts_up low bound count (Some (Miss i c)) le h = omega arith
counts_up low bound count (Some (Trap i v)) le h = omega arith
counts_up low bound count (Some (Break i)) le h = omega arith

each_up : (low bound : ℕ) (turns : List ProgramTurn) → low ≤ bound → CountsEach low turns → CountsEach bound turns
each_up low bound turns le h =
    each-from (λ turn. λ older. IsCounted low turn.count turn.event) (λ turn. λ older. IsCounted bound turn.count turn.event)
    (λ turn older here. counts_up low bound turn.count turn.event le here) turns h

each_append : (bound : ℕ) (made older : List ProgramTurn) → CountsEach bound made → CountsEach bound older → CountsEach bound (made ++ older)
each_append bound made older h k = alone-append (λ turn. IsCounted bound turn.count turn.event) made older h k

module _ (layout : Layout) where
  -- ---- One turn

  event_counts : (control : Control) (event : Option Event) → IsCounted (after (event_turn layout control event)).count control.count event
  event_counts control None = omega arith
  event_counts control (Some (Call i b a)) = omega arith
  event_counts control (Some (Miss i c)) = omega arith
  event_counts control (Some (Break i)) = omega arith
  event_counts control (Some (Trap i v)) = either_way (λ t. control.count ≤ (after t).count) (v == 14) _ _ (omega arith) (omega arith)

  counts_le : (bound count : ℕ) (event : Option Event) → IsCounted bound count event → count ≤ bound
  counts_le bound count None h = omega arith
  counts_le bound count (Some (Call i b a)) h = omega arith
  counts_le bound count (Some (Miss i c)) h = h
  counts_le bound count (Some (Trap i v)) h = h
  counts_le bound count (Some (Break i)) h = h

  program_grows : (control : Control) → control.count ≤ (after (program_turn layout control)).count
  program_grows control = counts_le _ control.count (due control.count control.rest) (event_counts control (due control.count control.rest))

  runtime_grows : (past : History) (control : Control) (context : Context) → control.count ≤ (after (Rattle.ak_model.specs.Control.RuntimeTurn.runtime_turn layout past control context)).count
  runtime_grows past control context =
      let same = runtime_count layout past control context in omega (arith, same)

  turn_grows : (past : History) (control : Control) (now : Option Context) → control.count ≤ (after (turn_of layout past control now)).count
  turn_grows past control None = omega arith
  turn_grows past control (Some Program) = program_grows control
  turn_grows past control (Some (Enter k v)) = runtime_grows past control (Enter k v)
  turn_grows past control (Some (Probe i)) = runtime_grows past control (Probe i)
  turn_grows past control (Some Finish) = runtime_grows past control Finish
  turn_grows past control (Some Guard) = runtime_grows past control Guard
  turn_grows past control (Some (Leave b a)) = runtime_grows past control (Leave b a)

  in_counts : (lp : ℕ) (past : History) (control : Control) (now : Option Context) → CountsEach (after (turn_of layout past control now)).count (turn_in lp past control now)
  in_counts lp past control None = tt
  in_counts lp past control (Some Program) = (event_counts control (due control.count control.rest), tt)
  in_counts lp past control (Some (Enter k v)) = tt
  in_counts lp past control (Some (Probe i)) = tt
  in_counts lp past control (Some Finish) = tt
  in_counts lp past control (Some Guard) = tt
  in_counts lp past control (Some (Leave b a)) = tt

  -- ---- A run

  goes_grow : (past : History) (n : ℕ) → ((control : Control) → control.count ≤ (run layout past n control).control.count) → (t : Turn) → (after t).count ≤ (go_on t (run layout past n)).control.count
  goes_grow past n later (Goes next) = later next
  goes_grow past n later (Leaves exit next) = omega arith

  run_grows : (past : History) (n : ℕ) (control : Control) → control.count ≤ (run layout past n control).control.count
  run_grows past zero control = omega arith
  run_grows past (suc n) control =
      let first = turn_grows past control control.now in
      let rest = goes_grow past n (run_grows past n) (turn layout past control) in
      omega (arith, first, rest)

  after_counts : (lp : ℕ) (past : History) (n : ℕ) → ((control : Control) → CountsEach (run layout past n control).control.count (turns_of_run layout lp past n control)) → (t : Turn) → CountsEach (go_on t (run layout past n)).control.count (turns_in lp past (unless_left t (before_turns layout past n)))
  after_counts lp past n later (Goes next) = later next
  after_counts lp past n later (Leaves exit next) = tt

  run_counts : (lp : ℕ) (past : History) (n : ℕ) (control : Control) → CountsEach (run layout past n control).control.count (turns_of_run layout lp past n control)
  run_counts lp past zero control = tt
  run_counts lp past (suc n) control =
      let bound = (run layout past (suc n) control).control.count in
      each_append bound (turn_in lp past control control.now) (turns_in lp past (unless_left (turn layout past control) (before_turns layout past n)))
      (each_up (after (turn layout past control)).count bound (turn_in lp past control control.now)
      (goes_grow past n (run_grows past n) (turn layout past control))
      (in_counts lp past control control.now))
      (after_counts lp past n (run_counts lp past n) (turn layout past control))

  -- ---- Moves

  -- the move's turns are before its count, and so are those of the moves before
  move_counts : (moment : Moment) (m : Move) → ((lp : ℕ) → inside moment.past lp ≡ true → nat_lt lp layout.lps ≡ true) → CountsEach (after_move layout moment m).control.count (turns_of_move layout moment m) × (moment.control.count ≤ (after_move layout moment m).control.count)
  move_counts moment m known =
      let control : Control = moment.control in
      each_move layout moment (λ e. CountsEach e.next.count e.turns × (control.count ≤ e.next.count))
      (record {
        quiet = (tt, omega arith);
        enters = λ lp v there out few. (tt, omega arith);
        resumes = λ lp saved rest there out free e. (tt, omega arith);
        interrupts = λ lp d. (tt, let same = (interrupted_same control control.now).count in omega arith);
        runs = λ lp n d someone. (
          alone-reverse (λ turn. IsCounted (run layout moment.past n control).control.count turn.count turn.event) (turns_of_run layout lp moment.past n control) (run_counts lp moment.past n control),
          run_grows moment.past n control,
        );
      })
      known m

  -- each turn that completed an instruction is one before the trace's count
  pub counts-each : (tape : List Event) (moves : List Move) → CountsEach (trace layout tape moves).control.count (program_turns layout tape moves)
  counts-each tape [] = tt
  counts-each tape (m ∷ moves) =
      let before = trace layout tape moves in
      let bound = (trace layout tape (m ∷ moves)).control.count in
      let counts = move_counts before m (λ lp. placed layout lp tape moves) in
      each_append bound (turns_of_move layout before m) (program_turns layout tape moves)
      counts.0
      (each_up before.control.count bound (program_turns layout tape moves) counts.1 (counts-each tape moves))
