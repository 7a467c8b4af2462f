-- What turns and moves leave of the cause of death: a turn that goes on keeps it and the saved contexts, and so does a turn of the
-- program keep it, and each move but a run.
use Rattle.std.proofs.Common.{◌≡◌, ℕ, zero, suc, List, [], ◌∷◌, length, refl, ap, ◌∙◌}
use Rattle.std.specs.Prelude.{false, Option, Some, None, ◌==◌, if◌then◌else◌}
use Rattle.ak_core.specs.Layout.{Layout}
use Rattle.ak_core.specs.Mem.{Access}
use Rattle.ak_core.specs.declared.event.Event.{Event}
use Rattle.ak_core.specs.declared.event.Event.TheVariants.{Call, Miss, Trap, Break}
use Rattle.ak_core.specs.declared.event.StopCause.TheVariants.{Stuck}
use Rattle.ak_core.specs.declared.moves.Answer.{Answer}
use Rattle.ak_core.specs.declared.moves.Answer.TheVariants.{Ok}
use Rattle.ak_core.specs.declared.moves.Exit.{Exit}
use Rattle.ak_core.specs.declared.moves.Move.{Move}
use Rattle.ak_core.specs.declared.moves.Move.TheVariants.{Eenter, Eresume, Run, Interrupt}
use Rattle.ak_core.specs.declared.page.Lp.{Lp}
use Rattle.ak_model.specs.Paging.Histories.{History}
use Rattle.ak_model.specs.Control.ControlState.{Phase, New, Running, Calling, Asked, Ended, Trapped, Dead, Context, Program, Enter, Probe, Finish, Guard, Leave, Reason, Interrupted, Cleared, Raised, Denied, Missed, Broke, Faulted, Saved, Cause, Named, Control, first_cause}
use Rattle.ak_model.specs.Control.Entering.{entered, resumed_by, interrupted_by, on_ok, on_exit, control_after}
use Rattle.ak_model.specs.Control.EventTurn.{due, leave_program, event_turn}
use Rattle.ak_model.specs.Control.OneTurn.{Turn, Goes, Leaves}
use Rattle.ak_model.specs.Control.RuntimeTurn.{accesses, first_fault, shown_fault, handle, enter, finish, resume_guard, leave_call, effect, unless_fault}
use Rattle.ak_model.specs.Control.Runs.{turn_of, run}
use Rattle.ak_model.proofs.Paging.Tests.{either_way}
use Rattle.ak_pager.specs.declared.turn.RtTurn.{RtTurn}
use Rattle.ak_relation.specs.Premises.Works.{named_by, CauseIs}
use Rattle.ak_relation.specs.Relation.Causes.{is_run}

-- ---- Turns that go on

-- what a turn that goes on keeps
pub record Kept (control after : Control) : Type 0 where
  pub stack : after.stack ≡ control.stack
  pub cause : after.cause ≡ control.cause

-- it does, if it goes on
abbrev pub GoingKeeps : Control → Turn → Type 0
GoingKeeps control (Goes after) = Kept control after
GoingKeeps control (Leaves exit after) = Unit {0}

module _ (layout : Layout) (control : Control) where
  handled : (k : ℕ) (stack : List Saved) → GoingKeeps control (handle layout control k stack)
  handled k [] = tt
  handled k (saved ∷ older) = by_reason saved.reason
    where
      by_reason : (reason : Reason) → GoingKeeps control (handle layout control k (record { context = saved.context; reason = reason } ∷ older))
      by_reason Interrupted = tt
      by_reason Cleared = tt
      by_reason (Raised v) = tt
      by_reason Denied = tt
      by_reason Broke = tt
      by_reason (Missed c) = tt
      by_reason (Faulted t) = either_way (GoingKeeps control) (k == 2) _ _ tt tt

  enter_keeps : (k v : ℕ) (phase : Phase) → GoingKeeps control (enter layout control k v phase)
  enter_keeps k v (Ended s) = tt
  enter_keeps k v (Trapped x) = tt
  enter_keeps k v Dead = tt
  enter_keeps k v Running = handled k control.stack
  enter_keeps zero v New = record { stack = refl; cause = refl }
  enter_keeps (suc k) v New = handled (suc k) control.stack
  enter_keeps zero v Calling = record { stack = refl; cause = refl }
  enter_keeps (suc k) v Calling = handled (suc k) control.stack
  enter_keeps zero v (Asked x) = handled zero control.stack
  enter_keeps (suc (suc k)) v (Asked x) = handled (suc (suc k)) control.stack
  enter_keeps (suc zero) v (Asked x) = record { stack = refl; cause = refl }

  finish_keeps : (phase : Phase) → GoingKeeps control (finish control phase)
  finish_keeps (Asked c) = tt
  finish_keeps New = tt
  finish_keeps Running = tt
  finish_keeps Calling = tt
  finish_keeps (Ended s) = tt
  finish_keeps (Trapped x) = tt
  finish_keeps Dead = tt

  guard_keeps : (phase : Phase) → GoingKeeps control (resume_guard control phase)
  guard_keeps (Asked c) = tt
  guard_keeps New = tt
  guard_keeps Running = tt
  guard_keeps Calling = tt
  guard_keeps (Ended s) = tt
  guard_keeps (Trapped x) = tt
  guard_keeps Dead = tt

  leave_keeps : (b a : ℕ) → GoingKeeps control (leave_call control b a)
  leave_keeps zero a = tt
  leave_keeps (suc b) a = tt

  effect_keeps : (context : Context) → GoingKeeps control (effect layout control context)
  effect_keeps Program = record { stack = refl; cause = refl }
  effect_keeps (Enter k v) = enter_keeps k v control.phase
  effect_keeps (Probe i) = record { stack = refl; cause = refl }
  effect_keeps Finish = finish_keeps control.phase
  effect_keeps Guard = guard_keeps control.phase
  effect_keeps (Leave b a) = leave_keeps b a

  step_keeps : (context : Context) (refused : Option Access) → GoingKeeps control (unless_fault layout control context refused)
  step_keeps context None = effect_keeps context
  step_keeps context (Some t) = tt

  event_keeps : (event : Option Event) → GoingKeeps control (event_turn layout control event)
  event_keeps None = record { stack = refl; cause = refl }
  event_keeps (Some (Call i b a)) = record { stack = refl; cause = refl }
  event_keeps (Some (Miss i c)) = tt
  event_keeps (Some (Break i)) = tt
  event_keeps (Some (Trap i v)) = either_way (GoingKeeps control) (v == 14) (leave_program (shown_fault layout) Denied control) (leave_program (Exit.Vector v) (Raised v) control) tt tt

  -- a turn in any context
  pub turn_keeps : (past : History) (now : Option Context) → GoingKeeps control (turn_of layout past control now)
  turn_keeps past None = record { stack = refl; cause = refl }
  turn_keeps past (Some Program) = event_keeps (due control.count control.rest)
  turn_keeps past (Some (Enter k v)) = step_keeps (Enter k v) (first_fault layout past (accesses layout control (Enter k v)))
  turn_keeps past (Some (Probe i)) = step_keeps (Probe i) (first_fault layout past (accesses layout control (Probe i)))
  turn_keeps past (Some Finish) = step_keeps Finish (first_fault layout past (accesses layout control Finish))
  turn_keeps past (Some Guard) = step_keeps Guard (first_fault layout past (accesses layout control Guard))
  turn_keeps past (Some (Leave b a)) = step_keeps (Leave b a) (first_fault layout past (accesses layout control (Leave b a)))

-- ---- Turns of the program

-- the cause after a turn
abbrev pub cause_in : Turn → Option Cause
cause_in (Goes after) = after.cause
cause_in (Leaves exit after) = after.cause

-- a turn of the program keeps it
pub event_cause : (layout : Layout) (control : Control) (event : Option Event) → cause_in (event_turn layout control event) ≡ control.cause
event_cause layout control None = refl
event_cause layout control (Some (Call i b a)) = refl
event_cause layout control (Some (Miss i c)) = refl
event_cause layout control (Some (Break i)) = refl
event_cause layout control (Some (Trap i v)) =
    either_way (λ t. cause_in t ≡ control.cause) (v == 14) (leave_program (shown_fault layout) Denied control) (leave_program (Exit.Vector v) (Raised v) control) refl refl

-- ---- Moves

ok_keeps : (a : Answer) (control after : Control) → after.cause ≡ control.cause → (on_ok a control after).cause ≡ control.cause
ok_keeps Ok control after e = e
ok_keeps _ control after e = refl

refused_keeps : (lp : Lp) (n : ℕ) (a : Answer) (control after : Control) → is_run (Run lp n) a ≡ false → (on_exit a control after).cause ≡ control.cause
refused_keeps lp n (Answer.Exit exit) control after none = absurd (cc)
refused_keeps lp n _ control after none = refl

resumed_keeps : (control : Control) (stack : List Saved) → (resumed_by control stack).cause ≡ control.cause
resumed_keeps control [] = refl
resumed_keeps control (saved ∷ older) = refl

interrupted_keeps : (control : Control) (now : Option Context) → (interrupted_by control now).cause ≡ control.cause
interrupted_keeps control None = refl
interrupted_keeps control (Some context) = refl

-- each move but a run keeps it
pub move_keeps : (layout : Layout) (past : History) (control : Control) (m : Move) (a : Answer) → is_run m a ≡ false → (control_after layout past control m a).cause ≡ control.cause
move_keeps layout past control (Eenter lp v) a none = ok_keeps a control (entered control v) refl
move_keeps layout past control (Eresume lp) a none = ok_keeps a control (resumed_by control control.stack) (resumed_keeps control control.stack)
move_keeps layout past control (Run lp n) a none = refused_keeps lp n a control (run layout past n control).control none
move_keeps layout past control (Interrupt lp) a none = ok_keeps a control (interrupted_by control control.now) (interrupted_keeps control control.now)
move_keeps layout past control _ a none = refl

-- ---- What the cause depends on

-- the same contexts and the same cause before
pub cause_same : (control other : Control) (outcome : RtTurn) (after : Option Cause) → other.stack ≡ control.stack → other.cause ≡ control.cause → CauseIs other outcome after → CauseIs control outcome after
cause_same control other RtTurn.Go after stack cause is = is ∙ cause
cause_same control other (RtTurn.Leave exit) after stack cause is = is ∙ cause
cause_same control other (RtTurn.Dead named) after stack cause is = is ∙ ap (λ o. first_cause o (named_by named)) cause
cause_same control other (RtTurn.Faulted t) after stack cause is =
    is ∙ ap (λ (saved : List Saved). if length saved == 2 then first_cause other.cause (Named (Stuck t.page t.kind)) else other.cause) stack
    ∙ ap (λ o. if length control.stack == 2 then first_cause o (Named (Stuck t.page t.kind)) else o) cause
