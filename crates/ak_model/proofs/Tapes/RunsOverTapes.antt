-- Turns, moves and whole traces over another tape, where each program turn is the same over both.
use Rattle.std.proofs.Common.{◌≡◌, ℕ, zero, suc, List, [], ◌∷◌, refl, ap, sym, ◌∙◌, subst}
use Rattle.std.specs.Prelude.{Bool, true, false, not, if◌then◌else◌, Option, Some, None, nat_lt}
use Rattle.ak_core.specs.Layout.{Layout}
use Rattle.ak_core.specs.declared.event.Event.{Event}
use Rattle.ak_core.specs.declared.moves.Move.{Move}
use Rattle.ak_core.specs.declared.moves.Move.TheVariants.{Eenter, Eresume, Run, Interrupt}
use Rattle.ak_core.specs.declared.moves.Answer.{Answer}
use Rattle.ak_core.specs.declared.moves.Answer.TheVariants.{Ok, NoLp, Outside}
use Rattle.ak_model.specs.Paging.Histories.{History}
use Rattle.ak_model.specs.Paging.Inside.{inside}
use Rattle.ak_model.specs.Control.ControlState.{Context, Program, Enter, Probe, Finish, Guard, Leave, Saved, Control}
use Rattle.ak_model.specs.Control.OneTurn.{Turn, Goes, Leaves}
use Rattle.ak_model.specs.Control.RuntimeTurn.{runtime_turn}
use Rattle.ak_model.specs.Control.EventTurn.{program_turn}
use Rattle.ak_model.specs.Control.Runs.{turn_of, turn, Ran, go_on, run}
use Rattle.ak_model.specs.Control.Answers.{enter_answer, resume_answer, if_inside}
use Rattle.ak_model.specs.Control.Entering.{entered, resumed_by, interrupted_by, on_ok, on_exit}
use Rattle.ak_model.specs.Control.Trace.{Moment, after_move, trace}
use Rattle.ak_model.proofs.Tapes.StepsReadNoTape.{on_turn, with_tape, runtime_keeps}

-- the control state after a turn
abbrev pub after : Turn → Control
after (Goes control) = control
after (Leaves exit control) = control

abbrev pub tape_map : (List Event → List Event) → Control → Control
tape_map g control = record control { rest = g control.rest }

abbrev pub moment_map : (List Event → List Event) → Moment → Moment
moment_map g moment = record moment { control = tape_map g moment.control }

abbrev pub ran_map : (List Event → List Event) → Ran → Ran
ran_map g ran = record ran { control = tape_map g ran.control }

map_kept : (g : List Event → List Event) (rest : List Event) (count : ℕ) (t : Turn) → on_turn (tape_map g) (on_turn (with_tape rest count) t) ≡ on_turn (with_tape (g rest) count) t
map_kept g rest count (Goes control) = refl
map_kept g rest count (Leaves exit control) = refl

rest_kept : (rest : List Event) (count : ℕ) (t : Turn) → (after (on_turn (with_tape rest count) t)).rest ≡ rest
rest_kept rest count (Goes control) = refl
rest_kept rest count (Leaves exit control) = refl

count_kept : (rest : List Event) (count : ℕ) (t : Turn) → (after (on_turn (with_tape rest count) t)).count ≡ count
count_kept rest count (Goes control) = refl
count_kept rest count (Leaves exit control) = refl

pub runtime_rest : (layout : Layout) (past : History) (control : Control) (context : Context) → (after (runtime_turn layout past control context)).rest ≡ control.rest
runtime_rest layout past control context =
    ap (λ t. (after t).rest) (runtime_keeps layout control.rest control.count past control context)
    ∙ rest_kept control.rest control.count (runtime_turn layout past control context)

pub runtime_count : (layout : Layout) (past : History) (control : Control) (context : Context) → (after (runtime_turn layout past control context)).count ≡ control.count
runtime_count layout past control context =
    ap (λ t. (after t).count) (runtime_keeps layout control.rest control.count past control context)
    ∙ count_kept control.rest control.count (runtime_turn layout past control context)

runtime_maps : (layout : Layout) (g : List Event → List Event) (past : History) (control : Control) (context : Context) → runtime_turn layout past (tape_map g control) context ≡ on_turn (tape_map g) (runtime_turn layout past control context)
runtime_maps layout g past control context =
    runtime_keeps layout (g control.rest) control.count past control context
    ∙ sym (map_kept g control.rest control.count (runtime_turn layout past control context))
    ∙ ap (on_turn (tape_map g)) (sym (runtime_keeps layout control.rest control.count past control context))

-- g is the other tape, and P says of the tape's rest and the count that they are the same as far as is asked
module _ (layout : Layout) (g : List Event → List Event) (P : List Event → ℕ → Type 0) (program_ok : (control : Control) → P (after (program_turn layout control)).rest (after (program_turn layout control)).count → program_turn layout (tape_map g control) ≡ on_turn (tape_map g) (program_turn layout control)) (program_back : (control : Control) → P (after (program_turn layout control)).rest (after (program_turn layout control)).count → P control.rest control.count) where
  abbrev Good : Control → Type 0
  Good control = P control.rest control.count

  runtime_back : (past : History) (control : Control) (context : Context) → Good (after (runtime_turn layout past control context)) → Good control
  runtime_back past control context h =
      subst (λ rest. P rest control.count) (runtime_rest layout past control context)
      (subst (λ count. P (after (runtime_turn layout past control context)).rest count) (runtime_count layout past control context) h)

  pub turn_ok : (past : History) (control : Control) (now : Option Context) → Good (after (turn_of layout past control now)) → turn_of layout past (tape_map g control) now ≡ on_turn (tape_map g) (turn_of layout past control now)
  turn_ok past control None h = refl
  turn_ok past control (Some Program) h = program_ok control h
  turn_ok past control (Some (Enter k v)) h = runtime_maps layout g past control (Enter k v)
  turn_ok past control (Some (Probe i)) h = runtime_maps layout g past control (Probe i)
  turn_ok past control (Some Finish) h = runtime_maps layout g past control Finish
  turn_ok past control (Some Guard) h = runtime_maps layout g past control Guard
  turn_ok past control (Some (Leave b a)) h = runtime_maps layout g past control (Leave b a)

  turn_back : (past : History) (control : Control) (now : Option Context) → Good (after (turn_of layout past control now)) → Good control
  turn_back past control None h = h
  turn_back past control (Some Program) h = program_back control h
  turn_back past control (Some (Enter k v)) h = runtime_back past control (Enter k v) h
  turn_back past control (Some (Probe i)) h = runtime_back past control (Probe i) h
  turn_back past control (Some Finish) h = runtime_back past control Finish h
  turn_back past control (Some Guard) h = runtime_back past control Guard h
  turn_back past control (Some (Leave b a)) h = runtime_back past control (Leave b a) h

  pub goes_back : (past : History) (n : ℕ) → ((control : Control) → Good (run layout past n control).control → Good control) → (t : Turn) → Good (go_on t (run layout past n)).control → Good (after t)
  goes_back past n earlier (Goes next) h = earlier next h
  goes_back past n earlier (Leaves exit next) h = h

  pub run_back : (past : History) (n : ℕ) (control : Control) → Good (run layout past n control).control → Good control
  run_back past zero control h = h
  run_back past (suc n) control h =
      turn_back past control control.now (goes_back past n (run_back past n) (turn layout past control) h)

  goes_ok : (past : History) (n : ℕ) → ((control : Control) → Good (run layout past n control).control → run layout past n (tape_map g control) ≡ ran_map g (run layout past n control)) → (t : Turn) → Good (go_on t (run layout past n)).control → go_on (on_turn (tape_map g) t) (run layout past n) ≡ ran_map g (go_on t (run layout past n))
  goes_ok past n earlier (Goes next) h = earlier next h
  goes_ok past n earlier (Leaves exit next) h = refl

  pub run_ok : (past : History) (n : ℕ) (control : Control) → Good (run layout past n control).control → run layout past n (tape_map g control) ≡ ran_map g (run layout past n control)
  run_ok past zero control h = refl
  run_ok past (suc n) control h =
      ap (λ t. go_on t (run layout past n)) (turn_ok past control control.now (goes_back past n (run_back past n) (turn layout past control) h))
      ∙ goes_ok past n (run_ok past n) (turn layout past control) h

  -- ---- Moves

  ok_maps : (a : Answer) (before next : Control) → on_ok a (tape_map g before) (tape_map g next) ≡ tape_map g (on_ok a before next)
  ok_maps Ok before next = refl
  ok_maps _ before next = refl

  ok_good : (a : Answer) (before next : Control) → (Good next → Good before) → Good (on_ok a before next) → Good before
  ok_good Ok before next back h = back h
  ok_good _ before next back h = h

  resumed_maps : (control : Control) (stack : List Saved) → resumed_by (tape_map g control) stack ≡ tape_map g (resumed_by control stack)
  resumed_maps control [] = refl
  resumed_maps control (saved ∷ older) = refl

  resumed_good : (control : Control) (stack : List Saved) → Good (resumed_by control stack) → Good control
  resumed_good control [] h = h
  resumed_good control (saved ∷ older) h = h

  interrupted_maps : (control : Control) (now : Option Context) → interrupted_by (tape_map g control) now ≡ tape_map g (interrupted_by control now)
  interrupted_maps control None = refl
  interrupted_maps control (Some context) = refl

  interrupted_good : (control : Control) (now : Option Context) → Good (interrupted_by control now) → Good control
  interrupted_good control None h = h
  interrupted_good control (Some context) h = h

  -- the answer of a run, where the processor's two tests come out so
  abbrev run_answer : Bool → Bool → Ran → Answer
  run_answer there within ran = if not there then NoLp else (if not within then Outside else Answer.Exit ran.exit)

  -- a run's answer and what it does
  pub record SameRun (there within : Bool) (past : History) (n : ℕ) (control : Control) : Type 0 where
    pub answer : run_answer there within (run layout past n (tape_map g control)) ≡ run_answer there within (run layout past n control)
    pub control_is : on_exit (run_answer there within (run layout past n (tape_map g control))) (tape_map g control) (run layout past n (tape_map g control)).control ≡ tape_map g (on_exit (run_answer there within (run layout past n control)) control (run layout past n control).control)

  same_run : (there within : Bool) (past : History) (n : ℕ) (control : Control) → Good (on_exit (run_answer there within (run layout past n control)) control (run layout past n control).control) → SameRun there within past n control
  same_run false within past n control h = record { answer = refl; control_is = refl }
  same_run true false past n control h = record { answer = refl; control_is = refl }
  same_run true true past n control h =
      let e = run_ok past n control h in
      record { answer = ap (λ ran. Answer.Exit ran.exit) e; control_is = ap (λ ran. ran.control) e }

  run_good : (there within : Bool) (past : History) (n : ℕ) (control : Control) → Good (on_exit (run_answer there within (run layout past n control)) control (run layout past n control).control) → Good control
  run_good false within past n control h = h
  run_good true false past n control h = h
  run_good true true past n control h = run_back past n control h

  step_back : (moment : Moment) (m : Move) → Good (after_move layout moment m).control → Good moment.control
  step_back moment (Eenter lp v) h = ok_good (enter_answer layout moment.past moment.control lp.0) moment.control (entered moment.control v) (λ k. k) h
  step_back moment (Eresume lp) h = ok_good (resume_answer layout moment.past moment.control lp.0) moment.control (resumed_by moment.control moment.control.stack) (resumed_good moment.control moment.control.stack) h
  step_back moment (Run lp n) h = run_good (nat_lt lp.0 layout.lps) (inside moment.past lp.0) moment.past n moment.control h
  step_back moment (Interrupt lp) h = ok_good (if_inside layout moment.past lp.0 Ok) moment.control (interrupted_by moment.control moment.control.now) (interrupted_good moment.control moment.control.now) h
  step_back moment _ h = h

  same_moment : (past : History) (control : Control) (m : Move) (a a' : Answer) (next next' : Control) → a' ≡ a → next' ≡ tape_map g next → (let made : Moment = record { past = (m, a') ∷ past; control = next' } in made) ≡ moment_map g (record { past = (m, a) ∷ past; control = next })
  same_moment past control m a a' next next' e f = cc

  step_ok : (moment : Moment) (m : Move) → Good (after_move layout moment m).control → after_move layout (moment_map g moment) m ≡ moment_map g (after_move layout moment m)
  step_ok moment (Eenter lp v) h =
      same_moment moment.past moment.control (Eenter lp v) _ _ _ _ refl (ok_maps (enter_answer layout moment.past moment.control lp.0) moment.control (entered moment.control v))
  step_ok moment (Eresume lp) h =
      let a = resume_answer layout moment.past moment.control lp.0 in
      same_moment moment.past moment.control (Eresume lp) _ _ _ _ refl
      (ap (on_ok a (tape_map g moment.control)) (resumed_maps moment.control moment.control.stack)
      ∙ ok_maps a moment.control (resumed_by moment.control moment.control.stack))
  step_ok moment (Run lp n) h =
      let same = same_run (nat_lt lp.0 layout.lps) (inside moment.past lp.0) moment.past n moment.control h in
      same_moment moment.past moment.control (Run lp n) _ _ _ _ same.answer same.control_is
  step_ok moment (Interrupt lp) h =
      let a = if_inside layout moment.past lp.0 Ok in
      same_moment moment.past moment.control (Interrupt lp) _ _ _ _ refl
      (ap (on_ok a (tape_map g moment.control)) (interrupted_maps moment.control moment.control.now)
      ∙ ok_maps a moment.control (interrupted_by moment.control moment.control.now))
  step_ok moment _ h = refl

  -- the whole trace over the other tape
  pub trace_maps : (tape : List Event) (moves : List Move) → Good (trace layout tape moves).control → trace layout (g tape) moves ≡ moment_map g (trace layout tape moves)
  trace_maps tape [] h = refl
  trace_maps tape (m ∷ moves) h =
      ap (λ moment. after_move layout moment m) (trace_maps tape moves (step_back (trace layout tape moves) m h))
      ∙ step_ok (trace layout tape moves) m h

  pub trace_back : (tape : List Event) (m : Move) (moves : List Move) → Good (trace layout tape (m ∷ moves)).control → Good (trace layout tape moves).control
  trace_back tape m moves h = step_back (trace layout tape moves) m h
