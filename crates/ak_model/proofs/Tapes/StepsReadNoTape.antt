-- A step of the runtime reads neither the tape nor the count, so a tape that is cut or made longer changes nothing before.
use Rattle.std.proofs.Common.{◌≡◌, ℕ, zero, suc, List, [], ◌∷◌, refl, ap, ◌∙◌}
use Rattle.std.specs.Prelude.{Bool, true, false, if◌then◌else◌, Option, Some, None, ◌==◌}
use Rattle.ak_core.specs.Layout.{Layout}
use Rattle.ak_core.specs.Mem.{Access}
use Rattle.ak_core.specs.declared.event.Event.{Event}
use Rattle.ak_model.specs.Paging.Histories.{History}
use Rattle.ak_model.specs.Control.ControlState.{Phase, New, Running, Calling, Asked, Ended, Trapped, Dead, Context, Program, Enter, Probe, Finish, Guard, Leave, Reason, Interrupted, Cleared, Raised, Denied, Missed, Broke, Faulted, Saved, Control}
use Rattle.ak_model.specs.Control.OneTurn.{Turn, Goes, Leaves}
use Rattle.ak_model.specs.Control.RuntimeTurn.{accesses, first_fault, own_fault, handle, enter, next_probe, asked_pages, leave_call, effect, unless_fault, runtime_turn}

abbrev pub on_turn : (Control → Control) → Turn → Turn
on_turn f (Goes control) = Goes (f control)
on_turn f (Leaves exit control) = Leaves exit (f control)

abbrev pub with_tape : List Event → ℕ → Control → Control
with_tape rest count control = record control { rest = rest; count = count }

abbrev saved_of : Context → Reason → Saved
saved_of context reason = record { context = context; reason = reason }

module _ (layout : Layout) (rest : List Event) (count : ℕ) where
  either_keeps : (b : Bool) (x y x' y' : Turn) → x' ≡ on_turn (with_tape rest count) x → y' ≡ on_turn (with_tape rest count) y → (if b then x' else y') ≡ on_turn (with_tape rest count) (if b then x else y)
  either_keeps true x y x' y' h k = h
  either_keeps false x y x' y' h k = k

  reason_keeps : (control : Control) (k : ℕ) (context : Context) (reason : Reason) (older : List Saved) → handle layout (with_tape rest count control) k (saved_of context reason ∷ older) ≡ on_turn (with_tape rest count) (handle layout control k (saved_of context reason ∷ older))
  reason_keeps control k context Interrupted older = refl
  reason_keeps control k context Cleared older = refl
  reason_keeps control k context (Raised v) older = refl
  reason_keeps control k context Denied older = refl
  reason_keeps control k context (Missed c) older = refl
  reason_keeps control k context Broke older = refl
  reason_keeps control k context (Faulted t) older = either_keeps (k == 2) _ _ _ _ refl refl

  handle_keeps : (control : Control) (k : ℕ) (stack : List Saved) → handle layout (with_tape rest count control) k stack ≡ on_turn (with_tape rest count) (handle layout control k stack)
  handle_keeps control k [] = refl
  handle_keeps control k (saved ∷ older) = reason_keeps control k saved.context saved.reason older

  enter_keeps : (control : Control) (k v : ℕ) (phase : Phase) → enter layout (with_tape rest count control) k v phase ≡ on_turn (with_tape rest count) (enter layout control k v phase)
  enter_keeps control k v (Ended s) = refl
  enter_keeps control k v (Trapped x) = refl
  enter_keeps control k v Dead = refl
  enter_keeps control zero v New = refl
  enter_keeps control zero v Calling = refl
  enter_keeps control (suc k) v New = handle_keeps control (suc k) control.stack
  enter_keeps control (suc k) v Calling = handle_keeps control (suc k) control.stack
  enter_keeps control k v Running = handle_keeps control k control.stack
  enter_keeps control zero v (Asked c) = handle_keeps control zero control.stack
  enter_keeps control (suc zero) v (Asked c) = refl
  enter_keeps control (suc (suc k)) v (Asked c) = handle_keeps control (suc (suc k)) control.stack

  finish_keeps : (control : Control) (phase : Phase) → Rattle.ak_model.specs.Control.RuntimeTurn.finish (with_tape rest count control) phase ≡ on_turn (with_tape rest count) (Rattle.ak_model.specs.Control.RuntimeTurn.finish control phase)
  finish_keeps control (Asked c) = refl
  finish_keeps control New = refl
  finish_keeps control Running = refl
  finish_keeps control Calling = refl
  finish_keeps control (Ended s) = refl
  finish_keeps control (Trapped x) = refl
  finish_keeps control Dead = refl

  guard_keeps : (control : Control) (phase : Phase) → Rattle.ak_model.specs.Control.RuntimeTurn.resume_guard (with_tape rest count control) phase ≡ on_turn (with_tape rest count) (Rattle.ak_model.specs.Control.RuntimeTurn.resume_guard control phase)
  guard_keeps control (Asked c) = refl
  guard_keeps control New = refl
  guard_keeps control Running = refl
  guard_keeps control Calling = refl
  guard_keeps control (Ended s) = refl
  guard_keeps control (Trapped x) = refl
  guard_keeps control Dead = refl

  leave_keeps : (control : Control) (b a : ℕ) → leave_call (with_tape rest count control) b a ≡ on_turn (with_tape rest count) (leave_call control b a)
  leave_keeps control zero a = refl
  leave_keeps control (suc b) a = refl

  effect_keeps : (control : Control) (context : Context) → effect layout (with_tape rest count control) context ≡ on_turn (with_tape rest count) (effect layout control context)
  effect_keeps control Program = refl
  effect_keeps control (Enter k v) = enter_keeps control k v control.phase
  effect_keeps control (Probe i) = refl
  effect_keeps control Finish = finish_keeps control control.phase
  effect_keeps control Guard = guard_keeps control control.phase
  effect_keeps control (Leave b a) = leave_keeps control b a

  fault_keeps : (control : Control) (context : Context) (t : Option Access) → unless_fault layout (with_tape rest count control) context t ≡ on_turn (with_tape rest count) (unless_fault layout control context t)
  fault_keeps control context None = effect_keeps control context
  fault_keeps control context (Some t) = refl

  accesses_keep : (control : Control) (context : Context) → accesses layout (with_tape rest count control) context ≡ accesses layout control context
  accesses_keep control Program = refl
  accesses_keep control (Enter k v) = refl
  accesses_keep control (Probe i) = refl
  accesses_keep control Finish = refl
  accesses_keep control Guard = refl
  accesses_keep control (Leave b a) = refl

  -- a runtime step with another rest and count
  pub runtime_keeps : (past : History) (control : Control) (context : Context) → runtime_turn layout past (with_tape rest count control) context ≡ on_turn (with_tape rest count) (runtime_turn layout past control context)
  runtime_keeps past control context =
      ap (λ all. unless_fault layout (with_tape rest count control) context (first_fault layout past all)) (accesses_keep control context)
      ∙ fault_keeps control context (first_fault layout past (accesses layout control context))
