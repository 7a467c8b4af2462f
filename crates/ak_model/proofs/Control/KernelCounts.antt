-- The kernel can count the saved contexts, the pending flag and the queue from the answers.
use Rattle.std.proofs.Common.{◌≡◌, ℕ, zero, suc, List, [], ◌∷◌, ◌++◌, length, drop, take, arith, refl, ap, sym, ◌∙◌, subst}
use Rattle.std.specs.Prelude.{Bool, true, ◌||◌, Option, Some, None, ◌==◌, is_some, nat_lt}
use Rattle.ak_core.specs.Layout.{Layout}
use Rattle.ak_core.specs.Mem.{Access}
use Rattle.ak_core.specs.declared.moves.Exit.{Exit}
use Rattle.ak_core.specs.declared.moves.Exit.TheVariants.{Vector, Still}
use Rattle.ak_core.specs.declared.event.Event.{Event}
use Rattle.ak_core.specs.declared.event.Event.TheVariants.{Call as CallEvent, Miss, Trap, Break}
use Rattle.ak_core.specs.declared.moves.Move.{Move}
use Rattle.ak_model.specs.Paging.Histories.{History, Resumes, Exits, Interrupts, if_left}
use Rattle.ak_model.specs.Clusters.Queue.{drops}
use Rattle.ak_model.specs.Control.ControlState.{Phase, New, Running, Calling, Asked, Ended, Trapped, Dead, Context, Program, Enter, Probe, Finish, Guard, Leave, Reason, Interrupted, Cleared, Raised, Denied, Missed, Broke, Faulted, Saved, Control, cssa}
use Rattle.ak_model.specs.Control.OneTurn.{Turn, Goes, Leaves}
use Rattle.ak_model.specs.Control.RuntimeTurn.{accesses, first_fault, shown_fault, ask, handle, enter, finish, resume_guard, leave_call, effect, unless_fault}
use Rattle.ak_model.specs.Control.EventTurn.{due, leave_program, event_turn}
use Rattle.ak_model.specs.Control.Runs.{turn_of, turn, Ran, go_on, run}
use Rattle.ak_model.specs.Control.Entering.{resumed_by, interrupted_by}
use Rattle.ak_model.specs.Kernels.Counted.{is_asynchronous, more_if, Request, Service, with_served, service_by, service, IsRequested, Counts, CountsRight}
use Rattle.ak_model.specs.Control.Trace.{Moment, after_move}
use Rattle.ak_model.specs.Paging.Inside.{inside}
use Rattle.ak_model.proofs.Control.Stacks.{top_length, twice_length, bottom_length}
use Rattle.ak_model.proofs.Paging.Tests.{either_way}
use Rattle.ak_model.proofs.Paging.Readings.{Reading, reading}
use Rattle.ak_model.proofs.Control.MovedTo.{each_move}

module _ (layout : Layout) where
  abbrev TurnCounts : ℕ → Bool → Service → Turn → Type 0
  TurnCounts saved pending service (Goes control) = Counts saved pending service control
  TurnCounts saved pending service (Leaves exit control) = Counts (more_if (is_asynchronous exit) saved) (is_asynchronous exit || pending) (service_by exit service) control

  module _ (saved : ℕ) (pending : Bool) (service : Service) (control : Control) (old : Counts saved pending service control) where
    -- another phase, in which nothing is asked for, and another stack of this length
    settled : (next : Control) → cssa next ≡ cssa control → next.pending ≡ control.pending → next.queue ≡ control.queue → IsRequested next.phase service.request → Counts saved pending service next
    settled next l p q r = record { saved_is = old.saved_is ∙ sym l; pending_is = old.pending_is ∙ sym p; queue_is = old.queue_is ∙ sym q; requested = r }

    gone : Counts saved pending service (record control { now = None })
    gone = settled _ refl refl refl old.requested

    asked : (c : ℕ) → TurnCounts saved pending service (ask layout control c)
    asked c = record {
      saved_is = old.saved_is ∙ sym (top_length control.stack);
      pending_is = old.pending_is;
      queue_is = ap (drop (drops layout control.queue c)) old.queue_is;
      requested = (take (drops layout control.queue c) service.queue, refl);
    }

    by_reason : (k : ℕ) (inner : Context) (reason : Reason) (older : List Saved) → TurnCounts saved pending service (handle layout control k (record { context = inner; reason = reason } ∷ older))
    by_reason k inner Interrupted older = gone
    by_reason k inner Cleared older = gone
    by_reason k inner (Raised v) older = settled _ (top_length control.stack) refl refl tt
    by_reason k inner Denied older = settled _ (top_length control.stack) refl refl tt
    by_reason k inner Broke older = settled _ (top_length control.stack) refl refl tt
    by_reason k inner (Missed c) older = asked c
    by_reason k inner (Faulted t) older = either_way (TurnCounts saved pending service) (k == 2) _ _ (settled _ (twice_length control.stack) refl refl tt) (settled _ (top_length control.stack) refl refl tt)

    handled : (k : ℕ) (stack : List Saved) → TurnCounts saved pending service (handle layout control k stack)
    handled k [] = gone
    handled k (saved ∷ older) = by_reason k saved.context saved.reason older

    enter_counts : (k v : ℕ) (phase : Phase) → TurnCounts saved pending service (enter layout control k v phase)
    enter_counts k v (Ended s) = gone
    enter_counts k v (Trapped x) = gone
    enter_counts k v Dead = gone
    enter_counts k v Running = handled k control.stack
    enter_counts zero v New = settled _ refl refl refl tt
    enter_counts (suc k) v New = handled (suc k) control.stack
    enter_counts zero v Calling = settled _ refl refl refl tt
    enter_counts (suc k) v Calling = handled (suc k) control.stack
    enter_counts zero v (Asked c) = handled zero control.stack
    enter_counts (suc (suc k)) v (Asked c) = handled (suc (suc k)) control.stack
    enter_counts (suc zero) v (Asked c) = settled _ refl refl refl old.requested

    served : (c : ℕ) (request : Option Request) → service.request ≡ request → IsRequested (Asked c) request → (with_served service request).queue ≡ control.queue ++ c ∷ []
    served c None e h = absurd (let x = h.1 in cc)
    served c (Some request) e h = let x : request ≡ record { dropped = h.0; cluster = c } = let y = h.1 in cc in ap (λ q. q ++ request.cluster ∷ []) old.queue_is ∙ ap (λ r. control.queue ++ r.cluster ∷ []) x

    finish_counts : (phase : Phase) → control.phase ≡ phase → TurnCounts saved pending service (finish control phase)
    finish_counts (Asked c) e = record {
      saved_is = old.saved_is ∙ sym (bottom_length control.stack);
      pending_is = old.pending_is;
      queue_is = served c service.request refl (subst (λ p. IsRequested p service.request) e old.requested);
      requested = tt;
    }
    finish_counts New e = gone
    finish_counts Running e = gone
    finish_counts Calling e = gone
    finish_counts (Ended s) e = gone
    finish_counts (Trapped x) e = gone
    finish_counts Dead e = gone

    guard_counts : (phase : Phase) → TurnCounts saved pending service (resume_guard control phase)
    guard_counts (Asked c) = settled _ refl refl refl tt
    guard_counts New = gone
    guard_counts Running = gone
    guard_counts Calling = gone
    guard_counts (Ended s) = gone
    guard_counts (Trapped x) = gone
    guard_counts Dead = gone

    leave_counts : (b a : ℕ) → TurnCounts saved pending service (leave_call control b a)
    leave_counts zero a = settled _ refl refl refl tt
    leave_counts (suc b) a = settled _ refl refl refl tt

    effect_counts : (context : Context) → TurnCounts saved pending service (effect layout control context)
    effect_counts Program = old
    effect_counts (Enter k v) = enter_counts k v control.phase
    effect_counts (Probe i) = settled _ refl refl refl old.requested
    effect_counts Finish = finish_counts control.phase refl
    effect_counts Guard = guard_counts control.phase
    effect_counts (Leave b a) = leave_counts b a

    fault_counts : (context : Context) (o : Option Access) → TurnCounts saved pending service (unless_fault layout control context o)
    fault_counts context None = effect_counts context
    fault_counts context (Some t) = record { saved_is = (let e = old.saved_is in omega arith); pending_is = refl; queue_is = old.queue_is; requested = old.requested }

    left_program : (exit : Exit) (reason : Reason) → is_asynchronous exit ≡ true → service_by exit service ≡ service → TurnCounts saved pending service (leave_program exit reason control)
    left_program exit reason e s = record {
      saved_is = ap (λ b. more_if b saved) e ∙ (let l = old.saved_is in omega arith);
      pending_is = ap (λ b. b || pending) e;
      queue_is = ap (λ x. x.queue) s ∙ old.queue_is;
      requested = subst (λ x. IsRequested control.phase x.request) (sym s) old.requested;
    }

    event_counts : (x : Option Event) → TurnCounts saved pending service (event_turn layout control x)
    event_counts None = settled _ refl refl refl old.requested
    event_counts (Some (CallEvent i b a)) = settled _ refl refl refl old.requested
    event_counts (Some (Miss i c)) = left_program (shown_fault layout) (Missed c) refl refl
    event_counts (Some (Break i)) = left_program (shown_fault layout) Broke refl refl
    event_counts (Some (Trap i v)) = either_way (TurnCounts saved pending service) (v == 14) _ _ (left_program (shown_fault layout) Denied refl refl) (left_program (Vector v) (Raised v) refl refl)

    turn_by : (past : History) (now : Option Context) → TurnCounts saved pending service (turn_of layout past control now)
    turn_by past None = old
    turn_by past (Some Program) = event_counts (due control.count control.rest)
    turn_by past (Some (Enter k v)) = fault_counts (Enter k v) (first_fault layout past (accesses layout control (Enter k v)))
    turn_by past (Some (Probe i)) = fault_counts (Probe i) (first_fault layout past (accesses layout control (Probe i)))
    turn_by past (Some Finish) = fault_counts Finish (first_fault layout past (accesses layout control Finish))
    turn_by past (Some Guard) = fault_counts Guard (first_fault layout past (accesses layout control Guard))
    turn_by past (Some (Leave b a)) = fault_counts (Leave b a) (first_fault layout past (accesses layout control (Leave b a)))

  -- ---- A run

  abbrev RanCounts : ℕ → Bool → Service → Ran → Type 0
  RanCounts saved pending service ran = Counts (more_if (is_asynchronous ran.exit) saved) (is_asynchronous ran.exit || pending) (service_by ran.exit service) ran.control

  go_counts : (saved : ℕ) (pending : Bool) (service : Service) (past : History) (n : ℕ) (t : Turn) → TurnCounts saved pending service t → ((control : Control) → Counts saved pending service control → RanCounts saved pending service (run layout past n control)) → RanCounts saved pending service (go_on t (run layout past n))
  go_counts saved pending service past n (Goes next) h later = later next h
  go_counts saved pending service past n (Leaves exit next) h later = h

  run_counts : (saved : ℕ) (pending : Bool) (service : Service) (past : History) (n : ℕ) (control : Control) → Counts saved pending service control → RanCounts saved pending service (run layout past n control)
  run_counts saved pending service past zero control old = old
  run_counts saved pending service past (suc n) control old =
      go_counts saved pending service past n (turn layout past control) (turn_by saved pending service control old past control.now) (run_counts saved pending service past n)

  -- ---- A move

  module _ (saved : ℕ) (pending : Bool) (service : Service) (control : Control) (old : Counts saved pending service control) where
    -- what stands after a move that this is read of
    abbrev After : Reading → Control → Type 0
    After change next = Counts (change.saved saved) (change.pending pending) (change.service service) next

    resumed : (lp : ℕ) (newest : Saved) (older : List Saved) → control.stack ≡ newest ∷ older → After (reading (Resumes lp)) (resumed_by control (newest ∷ older))
    resumed lp newest older e = record {
      saved_is = (let l = old.saved_is in let n : cssa control ≡ suc (length older) = ap length e in omega arith);
      pending_is = old.pending_is;
      queue_is = old.queue_is;
      requested = old.requested;
    }

    interrupted : (lp : ℕ) (now : Option Context) → is_some now ≡ true → After (reading (Interrupts lp)) (interrupted_by control now)
    interrupted lp None some = absurd (cc)
    interrupted lp (Some context) some = record {
      saved_is = (let l = old.saved_is in omega arith);
      pending_is = old.pending_is;
      queue_is = old.queue_is;
      requested = old.requested;
    }

    left_after : (lp : ℕ) (exit : Exit) (next : Control) → Counts (more_if (is_asynchronous exit) saved) (is_asynchronous exit || pending) (service_by exit service) next → After (reading (if_left exit (Exits lp exit))) next
    left_after lp Still next h = h
    left_after lp exit next h = h

  -- one more move
  pub step_counts : (moment : Moment) (m : Move) → ((p : ℕ) → inside moment.past p ≡ true → nat_lt p layout.lps ≡ true) → ((p : ℕ) → inside moment.past p ≡ true → is_some moment.control.now ≡ true) → CountsRight moment → CountsRight (after_move layout moment m)
  step_counts moment m low context old =
      each_move layout moment (λ e. After _ _ _ moment.control old e.change e.next)
      (record {
        quiet = old;
        enters = λ lp v there out few. record { saved_is = old.saved_is; pending_is = refl; queue_is = old.queue_is; requested = old.requested };
        resumes = λ lp newest older there out free e. resumed _ _ _ moment.control old lp newest older e;
        interrupts = λ lp d. interrupted _ _ _ moment.control old lp moment.control.now (context lp d);
        runs = λ lp n d someone.
            let ran = run layout moment.past n moment.control in
            left_after _ _ _ moment.control old lp ran.exit ran.control (run_counts _ _ _ moment.past n moment.control old);
      })
      low m
