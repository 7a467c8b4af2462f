-- What calls returned stays as moves are made, with more after it.
use Rattle.std.proofs.Common.{ℕ, zero, suc, [], ◌∷◌, ◌++◌, refl, ap, sym, ◌∙◌, append_assoc}
use Rattle.std.proofs.lemmas.List.{append-nil}
use Rattle.std.specs.Prelude.{Bool, true, false, List, Option, Some, None, ◌==◌, if◌then◌else◌}
use Rattle.ak_core.specs.Layout.{Layout}
use Rattle.ak_core.specs.Mem.{Access}
use Rattle.ak_core.specs.declared.event.Event.{Event}
use Rattle.ak_core.specs.declared.event.Event.TheVariants.{Call, Miss, Trap, Break}
use Rattle.ak_core.specs.declared.moves.Move.{Move}
use Rattle.ak_core.specs.declared.moves.Move.TheVariants.{SetPte, ReadPte, Eblock, Etrack, Ewb, Eldu, Eldb, Eremove, Epa, Discard, Eenter, Eresume, Run, Interrupt}
use Rattle.ak_core.specs.declared.moves.Answer.{Answer}
use Rattle.ak_core.specs.declared.moves.Answer.TheVariants.{Ok, Exit as Exited}
use Rattle.ak_model.specs.Paging.Histories.{History}
use Rattle.ak_model.specs.Control.ControlState.{Phase, New, Running, Calling, Asked, Ended, Trapped, Dead, Context, Program, Enter, Probe, Finish, Guard, Leave, Reason, Interrupted, Cleared, Raised, Denied, Missed, Broke, Faulted, Saved, Control}
use Rattle.ak_model.specs.Control.OneTurn.{Turn, Goes, Leaves}
use Rattle.ak_model.specs.Control.RuntimeTurn.{accesses, first_fault, handle, enter, finish, resume_guard, leave_call, effect, unless_fault}
use Rattle.ak_model.specs.Control.EventTurn.{due, event_turn}
use Rattle.ak_model.specs.Control.Runs.{turn_of, turn, go_on, run}
use Rattle.ak_model.specs.Control.Entering.{resumed_by, interrupted_by, on_ok, on_exit, control_after}
use Rattle.ak_model.specs.Sound.Outputs.{IsPrefixOf}
use Rattle.ak_model.proofs.Tapes.RunsOverTapes.{after}

-- ---- Beginnings

abbrev pub Grows : Control → Control → Type 0
Grows old new = IsPrefixOf old.returned new.returned

grows-same : (control : Control) → Grows control control
grows-same control = ([], append-nil control.returned)

begins-then : (xs ys zs : List ℕ) → IsPrefixOf xs ys → IsPrefixOf ys zs → IsPrefixOf xs zs
begins-then xs ys zs h k = (h.0 ++ k.0, sym (append_assoc xs h.0 k.0) ∙ ap (λ values. values ++ k.0) h.1 ∙ k.1)

-- the values after a turn begin with those before it
abbrev pub GrowsBy : Control → Turn → Type 0
GrowsBy control t = Grows control (after t)

-- ---- A step of the runtime

either_grows : (control : Control) (b : Bool) (x y : Turn) → GrowsBy control x → GrowsBy control y → GrowsBy control (if b then x else y)
either_grows control true x y h k = h
either_grows control false x y h k = k

module _ (layout : Layout) (control : Control) where
  reason_grows : (k : ℕ) (context : Context) (reason : Reason) (older : List Saved) →
      GrowsBy control (handle layout control k (record { context = context; reason = reason } ∷ older))
  reason_grows k context Interrupted older = grows-same control
  reason_grows k context Cleared older = grows-same control
  reason_grows k context (Raised v) older = grows-same control
  reason_grows k context Denied older = grows-same control
  reason_grows k context (Missed c) older = grows-same control
  reason_grows k context Broke older = grows-same control
  reason_grows k context (Faulted t) older = either_grows control (k == 2) _ _ (grows-same control) (grows-same control)

  handle_grows : (k : ℕ) (stack : List Saved) → GrowsBy control (handle layout control k stack)
  handle_grows k [] = grows-same control
  handle_grows k (saved ∷ older) = reason_grows k saved.context saved.reason older

  enter_grows : (k v : ℕ) (phase : Phase) → GrowsBy control (enter layout control k v phase)
  enter_grows k v (Ended s) = grows-same control
  enter_grows k v (Trapped x) = grows-same control
  enter_grows k v Dead = grows-same control
  enter_grows zero v New = grows-same control
  enter_grows zero v Calling = (v ∷ [], refl)
  enter_grows (suc k) v New = handle_grows (suc k) control.stack
  enter_grows (suc k) v Calling = handle_grows (suc k) control.stack
  enter_grows k v Running = handle_grows k control.stack
  enter_grows zero v (Asked c) = handle_grows zero control.stack
  enter_grows (suc zero) v (Asked c) = grows-same control
  enter_grows (suc (suc k)) v (Asked c) = handle_grows (suc (suc k)) control.stack

  finish_grows : (phase : Phase) → GrowsBy control (finish control phase)
  finish_grows (Asked c) = grows-same control
  finish_grows New = grows-same control
  finish_grows Running = grows-same control
  finish_grows Calling = grows-same control
  finish_grows (Ended s) = grows-same control
  finish_grows (Trapped x) = grows-same control
  finish_grows Dead = grows-same control

  guard_grows : (phase : Phase) → GrowsBy control (resume_guard control phase)
  guard_grows (Asked c) = grows-same control
  guard_grows New = grows-same control
  guard_grows Running = grows-same control
  guard_grows Calling = grows-same control
  guard_grows (Ended s) = grows-same control
  guard_grows (Trapped x) = grows-same control
  guard_grows Dead = grows-same control

  leave_grows : (b a : ℕ) → GrowsBy control (leave_call control b a)
  leave_grows zero a = grows-same control
  leave_grows (suc b) a = grows-same control

  effect_grows : (context : Context) → GrowsBy control (effect layout control context)
  effect_grows Program = grows-same control
  effect_grows (Enter k v) = enter_grows k v control.phase
  effect_grows (Probe i) = grows-same control
  effect_grows Finish = finish_grows control.phase
  effect_grows Guard = guard_grows control.phase
  effect_grows (Leave b a) = leave_grows b a

  step_grows : (context : Context) (t : Option Access) → GrowsBy control (unless_fault layout control context t)
  step_grows context None = effect_grows context
  step_grows context (Some t) = grows-same control

  -- ---- A turn of the program

  event_grows : (event : Option Event) → GrowsBy control (event_turn layout control event)
  event_grows None = grows-same control
  event_grows (Some (Call i b a)) = grows-same control
  event_grows (Some (Miss i c)) = grows-same control
  event_grows (Some (Break i)) = grows-same control
  event_grows (Some (Trap i v)) = either_grows control (v == 14) _ _ (grows-same control) (grows-same control)

  -- ---- Turns and moves

  pub turn_grows : (past : History) (now : Option Context) → GrowsBy control (turn_of layout past control now)
  turn_grows past None = grows-same control
  turn_grows past (Some Program) = event_grows (due control.count control.rest)
  turn_grows past (Some (Enter k v)) = step_grows (Enter k v) (first_fault layout past (accesses layout control (Enter k v)))
  turn_grows past (Some (Probe i)) = step_grows (Probe i) (first_fault layout past (accesses layout control (Probe i)))
  turn_grows past (Some Finish) = step_grows Finish (first_fault layout past (accesses layout control Finish))
  turn_grows past (Some Guard) = step_grows Guard (first_fault layout past (accesses layout control Guard))
  turn_grows past (Some (Leave b a)) = step_grows (Leave b a) (first_fault layout past (accesses layout control (Leave b a)))

-- ---- Runs and moves

go_on_grows : (layout : Layout) (past : History) (n : ℕ) (control : Control) (t : Turn) → GrowsBy control t →
    ((next : Control) → Grows next (run layout past n next).control) → Grows control (go_on t (run layout past n)).control
go_on_grows layout past n control (Goes next) h more =
    begins-then control.returned next.returned (run layout past n next).control.returned h (more next)
go_on_grows layout past n control (Leaves exit next) h more = h

run_grows : (layout : Layout) (past : History) (n : ℕ) (control : Control) → Grows control (run layout past n control).control
run_grows layout past zero control = grows-same control
run_grows layout past (suc n) control =
    go_on_grows layout past n control (turn layout past control) (turn_grows layout control past control.now) (run_grows layout past n)

ok_grows : (control new : Control) (a : Answer) → Grows control new → Grows control (on_ok a control new)
ok_grows control new Ok h = h
ok_grows control new _ h = grows-same control

exit_grows : (control new : Control) (a : Answer) → Grows control new → Grows control (on_exit a control new)
exit_grows control new (Exited exit) h = h
exit_grows control new _ h = grows-same control

resumed_grows : (control : Control) (stack : List Saved) → Grows control (resumed_by control stack)
resumed_grows control [] = grows-same control
resumed_grows control (saved ∷ older) = grows-same control

interrupted_grows : (control : Control) (now : Option Context) → Grows control (interrupted_by control now)
interrupted_grows control None = grows-same control
interrupted_grows control (Some context) = grows-same control

-- a move keeps the values, and may have one more
pub returned-grows : (layout : Layout) (past : History) (control : Control) (m : Move) (a : Answer) →
    IsPrefixOf control.returned (control_after layout past control m a).returned
returned-grows layout past control (Eenter lp v) a = ok_grows control _ a (grows-same control)
returned-grows layout past control (Eresume lp) a = ok_grows control _ a (resumed_grows control control.stack)
returned-grows layout past control (Run lp n) a = exit_grows control _ a (run_grows layout past n control)
returned-grows layout past control (Interrupt lp) a = ok_grows control _ a (interrupted_grows control control.now)
returned-grows layout past control (SetPte p f flags) a = grows-same control
returned-grows layout past control (ReadPte p) a = grows-same control
returned-grows layout past control (Eblock f) a = grows-same control
returned-grows layout past control Etrack a = grows-same control
returned-grows layout past control (Ewb f va i) a = grows-same control
returned-grows layout past control (Eldu f k p va i) a = grows-same control
returned-grows layout past control (Eldb f k p va i) a = grows-same control
returned-grows layout past control (Eremove f) a = grows-same control
returned-grows layout past control (Epa f) a = grows-same control
returned-grows layout past control (Discard k) a = grows-same control
