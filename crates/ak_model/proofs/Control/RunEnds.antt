-- How a run ends: it used up its turns, or its last turn left. Until then the saved contexts, the queue and the cause stay.
use Rattle.std.proofs.Common.{◌≡◌, ◌⊎◌, inl, inr, ℕ, zero, suc, ◌+◌, List, [], ◌∷◌, ◌++◌, append_assoc, refl, ap, sym, ◌∙◌, subst}
use Rattle.std.specs.Prelude.{Bool, true, false, reverse, if◌then◌else◌, Option, Some, None, ◌==◌}
use Rattle.std.proofs.lemmas.List.{reverse-append}
use Rattle.ak_core.specs.Layout.{Layout}
use Rattle.ak_core.specs.Mem.{Access}
use Rattle.ak_core.specs.declared.moves.Exit.{Exit}
use Rattle.ak_core.specs.declared.moves.Exit.TheVariants.{Still}
use Rattle.ak_core.specs.declared.event.Event.{Event}
use Rattle.ak_core.specs.declared.event.Event.TheVariants.{Call, Miss, Trap, Break}
use Rattle.ak_model.specs.Paging.Histories.{History}
use Rattle.ak_model.specs.Control.ControlState.{Phase, New, Running, Calling, Asked, Ended, Trapped, Dead, Context, Program, Enter, Probe, Finish, Guard, Leave, Reason, Interrupted, Cleared, Raised, Denied, Missed, Broke, Faulted, Saved, Control, is_asked}
use Rattle.ak_model.specs.Control.OneTurn.{Turn, Goes, Leaves}
use Rattle.ak_model.specs.Control.RuntimeTurn.{accesses, first_fault, handle, enter, finish, resume_guard, leave_call, effect, unless_fault}
use Rattle.ak_model.specs.Control.EventTurn.{due, leave_program, event_turn}
use Rattle.ak_model.specs.Control.RuntimeTurn.{shown_fault}
use Rattle.ak_model.specs.Control.Runs.{turn_of, turn, Ran, go_on, run, unless_left, before_turns}
use Rattle.ak_model.specs.Tapes.ProgramTurns.{ProgramTurn, turn_in, turns_in, turns_of_run}
use Rattle.ak_model.specs.Sound.Forced.{queue_by}
use Rattle.ak_model.specs.Laws.ToldFault.{is_guard}
use Rattle.ak_model.specs.Kernels.KernelRules.{is_finish_now}
use Rattle.ak_model.specs.Laws.Orderly.{is_live, IsOrderly, TurnIsOrderly}
use Rattle.ak_model.proofs.Paging.Tests.{either_way}
use Rattle.ak_model.proofs.Control.OrderlySteps.{ClustersFit}
use Rattle.ak_model.proofs.Control.OrderlyTurns.{turn_fits}
use Rattle.ak_model.proofs.Control.OrderlyTrace.{turn_more}

-- a context between the entering that comes back from an ask and the end of the probes
abbrev pub is_probing : Context → Bool
is_probing (Enter k v) = k == 1
is_probing (Probe i) = true
is_probing Finish = true
is_probing _ = false

-- that is what goes on
abbrev pub probes_now : Option Context → Bool
probes_now None = false
probes_now (Some context) = is_probing context

-- what stays until a turn leaves
pub record Since (start control : Control) : Type 0 where
  pub stack : control.stack ≡ start.stack
  pub queue : control.queue ≡ start.queue
  pub cause : control.cause ≡ start.cause
  pub live : is_live control.phase ≡ true → is_live start.phase ≡ true
  pub asked : is_asked control.phase ≡ true → control.phase ≡ start.phase
  pub guard : is_guard control.now ≡ true → is_guard start.now ≡ true
  pub finish : is_finish_now start.now ≡ true → is_finish_now control.now ≡ true
  pub probing : is_asked control.phase ≡ true → probes_now control.now ≡ true → probes_now start.now ≡ true

pub since_start : (control : Control) → Since control control
since_start control = record { stack = refl; queue = refl; cause = refl; live = λ h. h; asked = λ h. refl; guard = λ h. h; finish = λ h. h; probing = λ a h. h }

since_more : (start control next : Control) → Since start control → Since control next → Since start next
since_more start control next h k = record {
  stack = k.stack ∙ h.stack;
  queue = k.queue ∙ h.queue;
  cause = k.cause ∙ h.cause;
  live = λ l. h.live (k.live l);
  asked = λ a. let e = k.asked a in e ∙ h.asked (ap is_asked (sym e) ∙ a);
  guard = λ g. h.guard (k.guard g);
  finish = λ f. k.finish (h.finish f);
  probing = λ a p. h.probing (ap is_asked (sym (k.asked a)) ∙ a) (k.probing a p);
}

-- ---- One turn that goes on

abbrev TurnSince : Control → Turn → Type 0
TurnSince control (Goes next) = Since control next
TurnSince control (Leaves exit next) = Unit {0}

module _ (layout : Layout) (control : Control) where
  handled : (k : ℕ) (stack : List Saved) → TurnSince control (handle layout control k stack)
  handled k [] = tt
  handled k (saved ∷ older) = by_reason saved.reason
    where
      by_reason : (reason : Reason) → TurnSince control (handle layout control k (record { context = saved.context; reason = reason } ∷ older))
      by_reason Interrupted = tt
      by_reason Cleared = tt
      by_reason (Raised v) = tt
      by_reason Denied = tt
      by_reason Broke = tt
      by_reason (Missed c) = tt
      by_reason (Faulted t) = either_way (TurnSince control) (k == 2) _ _ tt tt

  -- the program begins or goes on after a call
  begins : (next : Control) → next.stack ≡ control.stack → next.queue ≡ control.queue → next.cause ≡ control.cause → is_live control.phase ≡ true → is_asked next.phase ≡ false → is_guard next.now ≡ false → is_finish_now control.now ≡ false → Since control next
  begins next s q c l a g f = record {
    stack = s;
    queue = q;
    cause = c;
    live = λ h. l;
    asked = λ h. absurd (cc);
    guard = λ h. absurd (cc);
    finish = λ h. absurd (cc);
    probing = λ h p. absurd (cc);
  }

  -- another context goes on
  goes_to : (next : Context) → is_guard (Some next) ≡ false → (is_finish_now control.now ≡ true → is_finish_now (Some next) ≡ true) → (is_probing next ≡ true → probes_now control.now ≡ true) → Since control (record control { now = Some next })
  goes_to next g f p = record {
    stack = refl;
    queue = refl;
    cause = refl;
    live = λ h. h;
    asked = λ h. refl;
    guard = λ h. absurd (cc);
    finish = f;
    probing = λ a h. p h;
  }

  module _ (context : Context) (is_now : control.now ≡ Some context) where
    enter_since : (k v : ℕ) (phase : Phase) → context ≡ Enter k v → control.phase ≡ phase → TurnSince control (enter layout control k v phase)
    enter_since k v (Ended s) c e = tt
    enter_since k v (Trapped x) c e = tt
    enter_since k v Dead c e = tt
    enter_since k v Running c e = handled k control.stack
    enter_since zero v New c e = begins _ refl refl refl (ap is_live e) refl refl (ap is_finish_now (is_now ∙ ap Some c))
    enter_since (suc k) v New c e = handled (suc k) control.stack
    enter_since zero v Calling c e = begins _ refl refl refl (ap is_live e) refl refl (ap is_finish_now (is_now ∙ ap Some c))
    enter_since (suc k) v Calling c e = handled (suc k) control.stack
    enter_since zero v (Asked x) c e = handled zero control.stack
    enter_since (suc (suc k)) v (Asked x) c e = handled (suc (suc k)) control.stack
    enter_since (suc zero) v (Asked x) c e =
        goes_to (Probe 0) refl (λ f. absurd (let n : is_finish_now control.now ≡ false = ap is_finish_now (is_now ∙ ap Some c) in cc)) (λ h. ap probes_now (is_now ∙ ap Some c))

    probe_since : (i : ℕ) (last : Bool) → context ≡ Probe i → Since control (record control { now = if last then Some Finish else Some (Probe (suc i)) })
    probe_since i true c = goes_to Finish refl (λ f. refl) (λ h. ap probes_now (is_now ∙ ap Some c))
    probe_since i false c = goes_to (Probe (suc i)) refl (λ f. absurd (let n : is_finish_now control.now ≡ false = ap is_finish_now (is_now ∙ ap Some c) in cc)) (λ h. ap probes_now (is_now ∙ ap Some c))

    finish_since : (phase : Phase) → TurnSince control (finish control phase)
    finish_since (Asked c) = tt
    finish_since New = tt
    finish_since Running = tt
    finish_since Calling = tt
    finish_since (Ended s) = tt
    finish_since (Trapped x) = tt
    finish_since Dead = tt

    guard_since : (phase : Phase) → TurnSince control (resume_guard control phase)
    guard_since (Asked c) = tt
    guard_since New = tt
    guard_since Running = tt
    guard_since Calling = tt
    guard_since (Ended s) = tt
    guard_since (Trapped x) = tt
    guard_since Dead = tt

    leave_since : (b a : ℕ) → TurnSince control (leave_call control b a)
    leave_since zero a = tt
    leave_since (suc b) a = tt

    effect_since : (next : Context) → context ≡ next → TurnSince control (effect layout control next)
    effect_since Program c = since_start control
    effect_since (Enter k v) c = enter_since k v control.phase c refl
    effect_since (Probe i) c = probe_since i _ c
    effect_since Finish c = finish_since control.phase
    effect_since Guard c = guard_since control.phase
    effect_since (Leave b a) c = leave_since b a

    unless_since : (o : Option Access) → TurnSince control (unless_fault layout control context o)
    unless_since None = effect_since context refl
    unless_since (Some t) = tt

  counted : Since control (record control { count = control.count + 1 })
  counted = record { stack = refl; queue = refl; cause = refl; live = λ h. h; asked = λ h. refl; guard = λ h. h; finish = λ h. h; probing = λ a h. h }

  called : (b a count : ℕ) (rest : List Event) → control.now ≡ Some Program → Since control (record control { count = count; rest = rest; now = Some (Leave b a) })
  called b a count rest n = record {
    stack = refl;
    queue = refl;
    cause = refl;
    live = λ h. h;
    asked = λ h. refl;
    guard = λ h. absurd (cc);
    finish = λ h. absurd (let x : is_finish_now control.now ≡ false = ap is_finish_now n in cc);
    probing = λ x h. absurd (cc);
  }

  event_since : (x : Option Event) → control.now ≡ Some Program → TurnSince control (event_turn layout control x)
  event_since None n = counted
  event_since (Some (Call i b a)) n = called b a _ _ n
  event_since (Some (Miss i c)) n = tt
  event_since (Some (Break i)) n = tt
  event_since (Some (Trap i v)) n = either_way (TurnSince control) (v == 14) (leave_program (shown_fault layout) Denied control) (leave_program (Exit.Vector v) (Raised v) control) tt tt

  turn_by : (past : History) (now : Option Context) → control.now ≡ now → TurnSince control (turn_of layout past control now)
  turn_by past None n = since_start control
  turn_by past (Some Program) n = event_since (due control.count control.rest) n
  turn_by past (Some (Enter k v)) n = unless_since (Enter k v) n (first_fault layout past (accesses layout control (Enter k v)))
  turn_by past (Some (Probe i)) n = unless_since (Probe i) n (first_fault layout past (accesses layout control (Probe i)))
  turn_by past (Some Finish) n = unless_since Finish n (first_fault layout past (accesses layout control Finish))
  turn_by past (Some Guard) n = unless_since Guard n (first_fault layout past (accesses layout control Guard))
  turn_by past (Some (Leave b a)) n = unless_since (Leave b a) n (first_fault layout past (accesses layout control (Leave b a)))

-- ---- A run

module _ (layout : Layout) (fit : ClustersFit layout) (lp : ℕ) (past : History) where
  -- its last turn left: from this control state, after these turns of the program
  pub record Ending (start : Control) (turns : List ProgramTurn) (ran : Ran) : Type 0 where
    pub control : Control
    pub older : List ProgramTurn
    pub since : Since start control
    pub orderly : IsOrderly layout (queue_by layout older) true control
    pub last : turn layout past control ≡ Leaves ran.exit ran.control
    pub turns_are : turns ≡ reverse (turn_in lp past control control.now) ++ older

  -- it used up its turns, or its last turn left
  abbrev pub Ends : Control → List ProgramTurn → Ran → Type 0
  Ends start turns ran = ((ran.exit ≡ Still) × Since start ran.control) ⊎ Ending start turns ran

  go_ends : (start control : Control) (n : ℕ) (older : List ProgramTurn) (t : Turn) → Since start control → IsOrderly layout (queue_by layout older) true control → turn layout past control ≡ t → TurnSince control t → ((next : Control) → t ≡ Goes next → Since start next → Ends start (reverse (turns_of_run layout lp past n next) ++ (reverse (turn_in lp past control control.now) ++ older)) (run layout past n next)) → Ends start (reverse (turns_in lp past (unless_left t (before_turns layout past n))) ++ (reverse (turn_in lp past control control.now) ++ older)) (go_on t (run layout past n))
  go_ends start control n older (Goes next) s o e h later = later next refl (since_more start control next s h)
  go_ends start control n older (Leaves exit next) s o e h later = inr (record { control = control; older = older; since = s; orderly = o; last = e; turns_are = refl })

  ends_by : (start : Control) (n : ℕ) (older : List ProgramTurn) (control : Control) → Since start control → IsOrderly layout (queue_by layout older) true control → Ends start (reverse (turns_of_run layout lp past n control) ++ older) (run layout past n control)
  ends_by start zero older control s o = inl (refl, s)
  ends_by start (suc n) older control s o =
      let t : Turn = turn layout past control in
      let here : List ProgramTurn = turn_in lp past control control.now in
      let more : List ProgramTurn = turns_in lp past (unless_left t (before_turns layout past n)) in
      let fits : TurnIsOrderly layout (queue_by layout (reverse here ++ older)) t =
      subst (λ q. TurnIsOrderly layout q t) (turn_more layout lp past control control.now older) (turn_fits layout (queue_by layout older) fit past control o) in
      let joined : reverse (here ++ more) ++ older ≡ reverse more ++ (reverse here ++ older) =
      ap (λ l. l ++ older) (reverse-append here more) ∙ append_assoc (reverse more) (reverse here) older in
      subst (λ l. Ends start l (go_on t (run layout past n))) (sym joined)
      (go_ends start control n older t s o refl (turn_by layout control past control.now refl)
      (λ next e. λ h. ends_by start n (reverse here ++ older) next h (subst (TurnIsOrderly layout (queue_by layout (reverse here ++ older))) e fits)))

  -- a run ends so
  pub run_ends : (n : ℕ) (older : List ProgramTurn) (control : Control) → IsOrderly layout (queue_by layout older) true control → Ends control (reverse (turns_of_run layout lp past n control) ++ older) (run layout past n control)
  run_ends n older control o = ends_by control n older control (since_start control) o
