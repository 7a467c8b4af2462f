-- The event of a turn is one of the tape's, at the turn's count.
use Rattle.std.proofs.Common.{◌≡◌, ℕ, zero, suc, List, [], ◌∷◌, refl, sym, subst}
use Rattle.std.specs.Prelude.{nat_lt, Bool, true, false, Option, Some, None, ◌==◌}
use Rattle.std.specs.Bool.{then_some}
use Rattle.std.proofs.lemmas.Bool.{eqb-true}
use Rattle.ak_core.specs.Layout.{Layout}
use Rattle.ak_core.specs.declared.event.Event.{Event}
use Rattle.ak_core.specs.declared.event.Event.TheVariants.{Call, Miss, Trap, Break}
use Rattle.ak_core.specs.declared.moves.Move.{Move}
use Rattle.ak_model.specs.Paging.Histories.{History}
use Rattle.ak_model.specs.Paging.Inside.{inside}
use Rattle.ak_model.specs.Control.ControlState.{Context, Program, Enter, Probe, Finish, Guard, Leave, Control}
use Rattle.ak_model.specs.Control.OneTurn.{Turn, Goes, Leaves}
use Rattle.ak_model.specs.Control.RuntimeTurn.{runtime_turn}
use Rattle.ak_model.specs.Control.EventTurn.{count_of, due, without_first, event_turn}
use Rattle.ak_model.specs.Control.Runs.{turn_of, turn, go_on, run, unless_left, before_turns}
use Rattle.ak_model.specs.Control.Trace.{Moment, after_move, trace}
use Rattle.ak_model.specs.Tapes.ProgramTurns.{ProgramTurn, turn_in, turns_in, turns_of_run, turns_of_move, program_turns}
use Rattle.ak_model.specs.Sound.Forced.{EachTurn}
use Rattle.ak_model.proofs.Paging.Tests.{either_way}
use Rattle.ak_model.proofs.Paging.InsideIsOfLayout.{placed}
use Rattle.ak_model.proofs.Control.MovedTo.{each_move, interrupted_same}
use Rattle.ak_model.proofs.Tapes.RunsOverTapes.{after, runtime_rest}
use Rattle.ak_model.proofs.Tapes.EachTurn.{alone-append, alone-reverse}

-- it holds of each of these events
abbrev pub EachEvent : (Event → Type 0) → List Event → Type 0
EachEvent Q [] = Unit {0}
EachEvent Q (event ∷ rest) = Q event × EachEvent Q rest

module _ (layout : Layout) (Q : Event → Type 0) where
  -- an event at this count, of which it holds
  abbrev pub HoldsAt : ℕ → Option Event → Type 0
  HoldsAt count None = Unit {0}
  HoldsAt count (Some event) = (count_of event ≡ count) × Q event

  abbrev HoldsEach : List ProgramTurn → Type 0
  HoldsEach turns = EachTurn (λ turn. λ older. HoldsAt turn.count turn.event) turns

  abbrev Rest : Control → Type 0
  Rest control = EachEvent Q control.rest

  -- ---- One turn

  due_tests : (count : ℕ) (event : Event) (b : Bool) → (count_of event == count) ≡ b → Q event → HoldsAt count (then_some b event)
  due_tests count event true e h = (eqb-true (count_of event) count e, h)
  due_tests count event false e h = tt

  due_holds : (count : ℕ) (rest : List Event) → EachEvent Q rest → HoldsAt count (due count rest)
  due_holds count [] h = tt
  due_holds count (event ∷ rest) h = due_tests count event (count_of event == count) refl h.0

  first_off : (rest : List Event) → EachEvent Q rest → EachEvent Q (without_first rest)
  first_off [] h = tt
  first_off (event ∷ rest) h = h.1

  event_rest : (control : Control) (event : Option Event) → Rest control → Rest (after (event_turn layout control event))
  event_rest control None h = h
  event_rest control (Some (Call i b a)) h = first_off control.rest h
  event_rest control (Some (Miss i c)) h = first_off control.rest h
  event_rest control (Some (Break i)) h = first_off control.rest h
  event_rest control (Some (Trap i v)) h = either_way (λ t. Rest (after t)) (v == 14) _ _ (first_off control.rest h) (first_off control.rest h)

  step_rest : (past : History) (control : Control) (context : Context) → Rest control → Rest (after (runtime_turn layout past control context))
  step_rest past control context h = subst (EachEvent Q) (sym (runtime_rest layout past control context)) h

  turn_rest : (past : History) (control : Control) (now : Option Context) → Rest control → Rest (after (turn_of layout past control now))
  turn_rest past control None h = h
  turn_rest past control (Some Program) h = event_rest control (due control.count control.rest) h
  turn_rest past control (Some (Enter k v)) h = step_rest past control (Enter k v) h
  turn_rest past control (Some (Probe i)) h = step_rest past control (Probe i) h
  turn_rest past control (Some Finish) h = step_rest past control Finish h
  turn_rest past control (Some Guard) h = step_rest past control Guard h
  turn_rest past control (Some (Leave b a)) h = step_rest past control (Leave b a) h

  in_holds : (lp : ℕ) (past : History) (control : Control) (now : Option Context) → Rest control → HoldsEach (turn_in lp past control now)
  in_holds lp past control None h = tt
  in_holds lp past control (Some Program) h = (due_holds control.count control.rest h, tt)
  in_holds lp past control (Some (Enter k v)) h = tt
  in_holds lp past control (Some (Probe i)) h = tt
  in_holds lp past control (Some Finish) h = tt
  in_holds lp past control (Some Guard) h = tt
  in_holds lp past control (Some (Leave b a)) h = tt

  -- ---- A run

  goes_rest : (past : History) (n : ℕ) → ((control : Control) → Rest control → Rest (run layout past n control).control) → (t : Turn) → Rest (after t) → Rest (go_on t (run layout past n)).control
  goes_rest past n later (Goes next) h = later next h
  goes_rest past n later (Leaves exit next) h = h

  run_rest : (past : History) (n : ℕ) (control : Control) → Rest control → Rest (run layout past n control).control
  run_rest past zero control h = h
  run_rest past (suc n) control h =
      goes_rest past n (run_rest past n) (turn layout past control) (turn_rest past control control.now h)

  after_holds : (lp : ℕ) (past : History) (n : ℕ) → ((control : Control) → Rest control → HoldsEach (turns_of_run layout lp past n control)) → (t : Turn) → Rest (after t) → HoldsEach (turns_in lp past (unless_left t (before_turns layout past n)))
  after_holds lp past n later (Goes next) h = later next h
  after_holds lp past n later (Leaves exit next) h = tt

  run_holds : (lp : ℕ) (past : History) (n : ℕ) (control : Control) → Rest control → HoldsEach (turns_of_run layout lp past n control)
  run_holds lp past zero control h = tt
  run_holds lp past (suc n) control h =
      alone-append (λ turn. HoldsAt turn.count turn.event) (turn_in lp past control control.now) (turns_in lp past (unless_left (turn layout past control) (before_turns layout past n)))
      (in_holds lp past control control.now h)
      (after_holds lp past n (run_holds lp past n) (turn layout past control) (turn_rest past control control.now h))

  -- ---- Moves

  move_holds : (moment : Moment) (m : Move) → ((lp : ℕ) → inside moment.past lp ≡ true → nat_lt lp layout.lps ≡ true) → Rest moment.control → Rest (after_move layout moment m).control × HoldsEach (turns_of_move layout moment m)
  move_holds moment m known h =
      let control : Control = moment.control in
      each_move layout moment (λ e. Rest e.next × HoldsEach e.turns)
      (record {
        quiet = (h, tt);
        enters = λ lp v there out few. (h, tt);
        resumes = λ lp saved rest there out free e. (h, tt);
        interrupts = λ lp d. (subst (EachEvent Q) (sym (interrupted_same control control.now).rest) h, tt);
        runs = λ lp n d someone. (
          run_rest moment.past n control h,
          alone-reverse (λ turn. HoldsAt turn.count turn.event) (turns_of_run layout lp moment.past n control) (run_holds lp moment.past n control h),
        );
      })
      known m

  trace_rest : (tape : List Event) (moves : List Move) → EachEvent Q tape → Rest (trace layout tape moves).control
  trace_rest tape [] h = h
  trace_rest tape (m ∷ moves) h = (move_holds (trace layout tape moves) m (λ lp. placed layout lp tape moves) (trace_rest tape moves h)).0

  -- what holds of each event of the tape holds of the event of each turn, which stands at the turn's count
  pub events-each : (tape : List Event) (moves : List Move) → EachEvent Q tape → HoldsEach (program_turns layout tape moves)
  events-each tape [] h = tt
  events-each tape (m ∷ moves) h =
      alone-append (λ turn. HoldsAt turn.count turn.event) (turns_of_move layout (trace layout tape moves) m) (program_turns layout tape moves)
      (move_holds (trace layout tape moves) m (λ lp. placed layout lp tape moves) (trace_rest tape moves h)).1
      (events-each tape moves h)
