-- An honest run ends by the end of the program or by its trap.
use Rattle.std.proofs.Common.{◌≡◌, ℕ, List, [], ◌∷◌, refl, sym, ◌∙◌}
use Rattle.std.specs.Prelude.{Bool, true, false, ◌||◌, Some, None}
use Rattle.ak_core.specs.Layout.{Layout, IsValid}
use Rattle.ak_core.specs.declared.event.Event.{Event}
use Rattle.ak_core.specs.declared.moves.Exit.{Exit}
use Rattle.ak_core.specs.declared.moves.Move.{Move}
use Rattle.ak_model.specs.Paging.Histories.{History, Pair, Change, Unchanged, Exits, change_of}
use Rattle.ak_model.specs.Kernels.HonestKernel.{is_end, ends, is_ended, drive, IsDriven}
use Rattle.ak_model.specs.Laws.Premises.{MissesFit}
use Rattle.ak_model.specs.Stops.ShownStop.{has_break, is_stopped, says_stopped, shows_stop}
use Rattle.ak_model.specs.Control.Trace.{trace}
use Rattle.ak_driver.specs.HonestRuns.{IsRoomy}
use Rattle.ak_driver.specs.EndingExits.{is_result, says_result, last_is_result}
use Rattle.ak_driver.specs.Requests.{answer_after}
use Rattle.ak_driver.proofs.Driving.AllRuns.{ends_over, never_stops}

-- an end that is no stop is a result
exit_result : (exit : Exit) → is_end exit ≡ is_result exit || is_stopped exit
exit_result (Exit.Pf base code) = refl
exit_result (Exit.Vector v) = refl
exit_result (Exit.Ask d c) = refl
exit_result Exit.Ready = refl
exit_result (Exit.Call b a) = refl
exit_result Exit.Nothing = refl
exit_result Exit.Stopped = refl
exit_result (Exit.Ended s) = refl
exit_result (Exit.Trapped v) = refl
exit_result Exit.Still = refl

change_result : (c : Change) → ends c ≡ says_result c || says_stopped c
change_result (Exits lp exit) = exit_result exit
change_result Unchanged = refl
change_result _ = refl

-- an end that was not there before is that of the last move
newest_ends : (layout : Layout) (pair : Pair) (past : History) → is_ended (pair ∷ past) ≡ true → is_ended past ≡ false → shows_stop (pair ∷ past) ≡ false → last_is_result (pair ∷ past) ≡ true
newest_ends layout pair past e before s = by (ends (change_of pair)) (says_result (change_of pair)) (says_stopped (change_of pair)) (change_result (change_of pair)) (is_ended past) (shows_stop past) e before s
  where
    by : (a b c : Bool) → a ≡ b || c → (d f : Bool) → (a || d) ≡ true → d ≡ false → (c || f) ≡ false → b ≡ true
    by a true c h d f e n s = refl
    by a false true h d f e n s = absurd (cc)
    by true false false h d f e n s = absurd (cc)
    by false false false h d f e n s = absurd (cc)

module _ (layout : Layout) (valid : IsValid layout) (roomy : IsRoomy layout) (tape : List Event) (misses : MissesFit layout [] tape) (whole : has_break tape ≡ false) (inputs : List ℕ) where
  -- a move is given only where the run has not ended
  going_on : (moves : List Move) (m : Move) → drive layout (trace layout tape moves).past inputs ≡ Some m → is_ended (trace layout tape moves).past ≡ false
  going_on moves m e = by (is_ended (trace layout tape moves).past) refl
    where
      by : (b : Bool) → is_ended (trace layout tape moves).past ≡ b → is_ended (trace layout tape moves).past ≡ false
      by false h = h
      by true h = absurd (let n : drive layout (trace layout tape moves).past inputs ≡ None = rw h refl in let z : None ≡ Some m = sym n ∙ e in cc)

  -- where the kernel has no move, the last one was answered by the end of the program or by its trap
  pub ends_by_result : (moves : List Move) → IsDriven layout tape inputs moves → drive layout (trace layout tape moves).past inputs ≡ None → last_is_result (trace layout tape moves).past ≡ true
  ends_by_result [] driven none = absurd (let e = ends_over layout valid roomy tape misses whole inputs [] driven none in let z : false ≡ true = e in cc)
  ends_by_result (m ∷ moves) driven none =
      newest_ends layout (m, answer_after layout tape moves m) (trace layout tape moves).past (ends_over layout valid roomy tape misses whole inputs (m ∷ moves) driven none) (going_on moves m driven.0)
      (never_stops layout valid roomy tape misses whole inputs (m ∷ moves) driven)
