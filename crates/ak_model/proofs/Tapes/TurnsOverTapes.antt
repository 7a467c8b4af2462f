-- Program turns over another tape, where each turn of the program is the same over both.
use Rattle.std.proofs.Common.{◌≡◌, ℕ, zero, suc, List, [], ◌∷◌, ◌++◌, refl, ap, ◌∙◌}
use Rattle.std.specs.Prelude.{Bool, true, false, not, if◌then◌else◌, reverse, Option, Some, None, nat_lt}
use Rattle.ak_core.specs.Layout.{Layout}
use Rattle.ak_core.specs.declared.event.Event.{Event}
use Rattle.ak_core.specs.declared.moves.Move.{Move}
use Rattle.ak_core.specs.declared.moves.Move.TheVariants.{Run}
use Rattle.ak_core.specs.declared.moves.Answer.{Answer}
use Rattle.ak_core.specs.declared.moves.Answer.TheVariants.{NoLp, Outside}
use Rattle.ak_model.specs.Paging.Histories.{History}
use Rattle.ak_model.specs.Paging.Inside.{inside}
use Rattle.ak_model.specs.Control.ControlState.{Context, Program, Enter, Probe, Finish, Guard, Leave, Control}
use Rattle.ak_model.specs.Control.OneTurn.{Turn, Goes, Leaves}
use Rattle.ak_model.specs.Control.EventTurn.{due, program_turn}
use Rattle.ak_model.specs.Control.Runs.{turn_of, turn, go_on, run, unless_left, before_turns}
use Rattle.ak_model.specs.Control.Entering.{on_exit}
use Rattle.ak_model.specs.Control.Trace.{Moment, after_move, trace}
use Rattle.ak_model.specs.Tapes.ProgramTurns.{ProgramTurn, turn_in, turns_in, turns_of_run, turns_of_move, program_turns}
use Rattle.ak_model.proofs.Tapes.StepsReadNoTape.{on_turn}
use Rattle.ak_model.proofs.Tapes.RunsOverTapes.{after, tape_map, moment_map, turn_ok, goes_back, run_back, trace_maps, trace_back}
use Rattle.ak_model.proofs.Paging.InsideIsOfLayout.{placed}

-- g is the other tape, and P says of the tape's rest and the count that they are the same as far as is asked
module _ (layout : Layout) (g : List Event → List Event) (P : List Event → ℕ → Type 0) (program_ok : (control : Control) → P (after (program_turn layout control)).rest (after (program_turn layout control)).count → program_turn layout (tape_map g control) ≡ on_turn (tape_map g) (program_turn layout control)) (program_back : (control : Control) → P (after (program_turn layout control)).rest (after (program_turn layout control)).count → P control.rest control.count) (due_ok : (control : Control) → P (after (program_turn layout control)).rest (after (program_turn layout control)).count → due control.count (g control.rest) ≡ due control.count control.rest) where
  abbrev Good : Control → Type 0
  Good control = P control.rest control.count

  in_ok : (lp : ℕ) (past : History) (control : Control) (now : Option Context) → Good (after (turn_of layout past control now)) → turn_in lp past (tape_map g control) now ≡ turn_in lp past control now
  in_ok lp past control None h = refl
  in_ok lp past control (Some Program) h =
      ap (λ event. let made : ProgramTurn = record { lp = lp; past = past; count = control.count; event = event } in made ∷ []) (due_ok control h)
  in_ok lp past control (Some (Enter k v)) h = refl
  in_ok lp past control (Some (Probe i)) h = refl
  in_ok lp past control (Some Finish) h = refl
  in_ok lp past control (Some Guard) h = refl
  in_ok lp past control (Some (Leave b a)) h = refl

  after_ok : (lp : ℕ) (past : History) (n : ℕ) → ((control : Control) → Good (run layout past n control).control → turns_of_run layout lp past n (tape_map g control) ≡ turns_of_run layout lp past n control) → (t : Turn) → Good (go_on t (run layout past n)).control → turns_in lp past (unless_left (on_turn (tape_map g) t) (before_turns layout past n)) ≡ turns_in lp past (unless_left t (before_turns layout past n))
  after_ok lp past n earlier (Goes next) h = earlier next h
  after_ok lp past n earlier (Leaves exit next) h = refl

  run_turns_ok : (lp : ℕ) (past : History) (n : ℕ) (control : Control) → Good (run layout past n control).control → turns_of_run layout lp past n (tape_map g control) ≡ turns_of_run layout lp past n control
  run_turns_ok lp past zero control h = refl
  run_turns_ok lp past (suc n) control h =
      let good = goes_back layout g P program_ok program_back past n (run_back layout g P program_ok program_back past n) (turn layout past control) h in
      ap (λ made. made ++ turns_in lp past (unless_left (turn layout past (tape_map g control)) (before_turns layout past n))) (in_ok lp past control control.now good)
      ∙ ap (λ t. turn_in lp past control control.now ++ turns_in lp past (unless_left t (before_turns layout past n))) (turn_ok layout g P program_ok program_back past control control.now good)
      ∙ ap (λ made. turn_in lp past control control.now ++ made) (after_ok lp past n (run_turns_ok lp past n) (turn layout past control) h)

  -- a run whose processor is there and inside
  inside_ok : (there within : Bool) → (within ≡ true → there ≡ true) → (lp : ℕ) (past : History) (n : ℕ) (control : Control) → Good (on_exit (if not there then NoLp else (if not within then Outside else Answer.Exit (run layout past n control).exit)) control (run layout past n control).control) → (if within then reverse (turns_of_run layout lp past n (tape_map g control)) else []) ≡ (if within then reverse (turns_of_run layout lp past n control) else [])
  inside_ok there false known lp past n control h = refl
  inside_ok true true known lp past n control h = ap reverse (run_turns_ok lp past n control h)
  inside_ok false true known lp past n control h = let clash : false ≡ true = known refl in cc

  move_ok : (moment : Moment) (m : Move) → ((lp : ℕ) → inside moment.past lp ≡ true → nat_lt lp layout.lps ≡ true) → Good (after_move layout moment m).control → turns_of_move layout (moment_map g moment) m ≡ turns_of_move layout moment m
  move_ok moment (Run lp n) known h =
      inside_ok (nat_lt lp.0 layout.lps) (inside moment.past lp.0) (known lp.0) lp.0 moment.past n moment.control h
  move_ok moment _ known h = refl

  -- the program turns of all moves are the same over the other tape
  pub program_turns-same : (tape : List Event) (moves : List Move) → Good (trace layout tape moves).control → program_turns layout (g tape) moves ≡ program_turns layout tape moves
  program_turns-same tape [] h = refl
  program_turns-same tape (m ∷ moves) h =
      let back = trace_back layout g P program_ok program_back tape m moves h in
      ap (λ moment. turns_of_move layout moment m ++ program_turns layout (g tape) moves) (trace_maps layout g P program_ok program_back tape moves back)
      ∙ ap (λ made. made ++ program_turns layout (g tape) moves) (move_ok (trace layout tape moves) m (λ lp. placed layout lp tape moves) h)
      ∙ ap (λ made. turns_of_move layout (trace layout tape moves) m ++ made) (program_turns-same tape moves back)
