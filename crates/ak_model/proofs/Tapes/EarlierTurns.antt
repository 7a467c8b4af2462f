-- Each turn of a trace is of a processor that was inside, after an earlier history.
use Rattle.std.proofs.Common.{◌≡◌, ℕ, suc, ◌≤◌, List, [], ◌∷◌, ◌++◌, length, sym, subst, arith}
use Rattle.std.specs.Prelude.{true, reverse, Option, Some, None, nat_lt}
use Rattle.std.proofs.lemmas.List.{reverse-append}
use Rattle.ak_core.specs.Layout.{Layout}
use Rattle.ak_core.specs.declared.event.Event.{Event}
use Rattle.ak_core.specs.declared.moves.Move.{Move}
use Rattle.ak_model.specs.Paging.Histories.{History}
use Rattle.ak_model.specs.Paging.Inside.{inside}
use Rattle.ak_model.specs.Control.ControlState.{Context, Program, Enter, Probe, Finish, Guard, Leave, Control}
use Rattle.ak_model.specs.Control.Runs.{before_turns}
use Rattle.ak_model.specs.Control.Trace.{Moment, trace}
use Rattle.ak_model.specs.Tapes.ProgramTurns.{ProgramTurn, turn_in, turns_in, turns_of_move, program_turns}
use Rattle.ak_model.specs.Laws.EarlierTurns.{AreEarlier}
use Rattle.ak_model.proofs.Paging.InsideIsOfLayout.{placed}
use Rattle.ak_model.proofs.Control.MovedTo.{each_move}

early_more : (n m : ℕ) (turns : List ProgramTurn) → n ≤ m → AreEarlier n turns → AreEarlier m turns
early_more n m [] le h = tt
early_more n m (turn ∷ older) le h = let low = h.1 in (h.0, omega arith, early_more n m older le h.2)

early_append : (n : ℕ) (made older : List ProgramTurn) → AreEarlier n made → AreEarlier n older → AreEarlier n (made ++ older)
early_append n [] older h k = k
early_append n (turn ∷ made) older h k = (h.0, h.1, early_append n made older h.2 k)

early_reverse : (n : ℕ) (made : List ProgramTurn) → AreEarlier n made → AreEarlier n (reverse made)
early_reverse n [] h = tt
early_reverse n (turn ∷ made) h =
    subst (AreEarlier n) (sym (reverse-append (turn ∷ []) made)) (early_append n (reverse made) (turn ∷ []) (early_reverse n made h.2) (h.0, h.1, tt))

-- a run of a processor that is inside
module _ (lp : ℕ) (past : History) (within : inside past lp ≡ true) where
  in_early : (control : Control) (now : Option Context) → AreEarlier (length past) (turn_in lp past control now)
  in_early control None = tt
  in_early control (Some Program) = (within, omega arith, tt)
  in_early control (Some (Enter k v)) = tt
  in_early control (Some (Probe i)) = tt
  in_early control (Some Finish) = tt
  in_early control (Some Guard) = tt
  in_early control (Some (Leave b a)) = tt

  run_early : (controls : List Control) → AreEarlier (length past) (turns_in lp past controls)
  run_early [] = tt
  run_early (control ∷ controls) =
      early_append (length past) (turn_in lp past control control.now) (turns_in lp past controls) (in_early control control.now) (run_early controls)

module _ (layout : Layout) where
  move_early : (moment : Moment) (m : Move) → ((lp : ℕ) → inside moment.past lp ≡ true → nat_lt lp layout.lps ≡ true) → AreEarlier (length moment.past) (turns_of_move layout moment m)
  move_early moment m known =
      each_move layout moment (λ e. AreEarlier (length moment.past) e.turns)
      (record {
        quiet = tt;
        enters = λ lp v there out few. tt;
        resumes = λ lp saved rest there out free e. tt;
        interrupts = λ lp d. tt;
        runs = λ lp n d someone. early_reverse (length moment.past) _ (run_early lp moment.past d (before_turns layout moment.past n moment.control));
      })
      known m

  -- the turns of a trace
  pub turns-earlier : (tape : List Event) (moves : List Move) → AreEarlier (length (trace layout tape moves).past) (program_turns layout tape moves)
  turns-earlier tape [] = tt
  turns-earlier tape (m ∷ moves) =
      let before = trace layout tape moves in
      early_append (suc (length before.past)) (turns_of_move layout before m) (program_turns layout tape moves)
      (early_more (length before.past) (suc (length before.past)) _ (omega arith) (move_early before m (λ lp. placed layout lp tape moves)))
      (early_more (length before.past) (suc (length before.past)) _ (omega arith) (turns-earlier tape moves))
