-- Under a kernel that keeps its rules no turn stops the enclave, where the program breaks no access.
use Rattle.std.proofs.Common.{◌≡◌, ◌⊎◌, inl, inr, ℕ, zero, suc, ◌+◌, List, [], ◌∷◌, length, refl, ap, sym, ◌∙◌, subst}
use Rattle.std.specs.Prelude.{Bool, true, false, if◌then◌else◌, Option, Some, None, is_some, ◌==◌}
use Rattle.ak_core.specs.Layout.{Layout}
use Rattle.ak_core.specs.declared.moves.Exit.{Exit}
use Rattle.ak_core.specs.declared.event.Event.{Event}
use Rattle.ak_core.specs.declared.event.Event.TheVariants.{Call, Miss, Trap, Break}
use Rattle.ak_model.specs.Paging.Histories.{History, Exits}
use Rattle.ak_model.specs.Control.ControlState.{Phase, New, Running, Calling, Asked, Ended, Trapped, Dead, Context, Program, Enter, Probe, Finish, Guard, Leave, Reason, Interrupted, Cleared, Raised, Denied, Missed, Broke, Faulted, Saved, Control, is_asked}
use Rattle.ak_model.specs.Control.OneTurn.{Turn, Goes, Leaves}
use Rattle.ak_model.specs.Control.RuntimeTurn.{accesses, asked_pages, first_fault, guard_top, program_at_bottom, shown_fault, handle, enter, finish, resume_guard, leave_call, effect, unless_fault, runtime_turn}
use Rattle.ak_model.specs.Control.EventTurn.{due, without_first, leave_program, event_turn}
use Rattle.ak_model.specs.Laws.ToldFault.{is_break}
use Rattle.ak_model.specs.Kernels.KernelRules.{entered_after}
use Rattle.ak_model.specs.Laws.Orderly.{ContextFits, StackFits, SavedFits, IsOrderly}
use Rattle.ak_model.proofs.Control.Stacks.{top_length}

-- no step faulted and no access broke
abbrev pub ReasonCalm : Reason → Type 0
ReasonCalm Broke = ⊥
ReasonCalm (Faulted t) = ⊥
ReasonCalm _ = Unit {0}

abbrev pub StackCalm : List Saved → Type 0
StackCalm [] = Unit {0}
StackCalm (saved ∷ older) = ReasonCalm saved.reason × StackCalm older

-- the guard is not inside while a cluster is asked for
abbrev pub GuardFree : Phase → Option Context → Type 0
GuardFree phase (Some Guard) = is_asked phase ≡ false
GuardFree phase _ = Unit {0}

-- nothing stopped the enclave. While a cluster is asked for, an entering stands after the ask, or nobody has come back yet
pub record IsCalm (entered : Bool) (control : Control) : Type 0 where
  pub cause : control.cause ≡ None
  pub stack : StackCalm control.stack
  pub free : GuardFree control.phase control.now
  pub asked : is_asked control.phase ≡ true → (entered ≡ true) ⊎ ((is_some control.now ≡ false) × (length control.stack ≡ 1))

abbrev pub TurnCalm : Bool → Turn → Type 0
TurnCalm entered (Goes control) = IsCalm entered control
TurnCalm entered (Leaves exit control) = IsCalm (entered_after (Exits 0 exit) entered) control

top_calm : (stack : List Saved) → StackCalm stack → StackCalm (guard_top stack)
top_calm [] h = tt
top_calm (saved ∷ older) h = (tt, h.1)

bottom_calm : (stack : List Saved) → StackCalm stack → StackCalm (program_at_bottom stack)
bottom_calm [] h = tt
bottom_calm (saved ∷ []) h = (tt, tt)
bottom_calm (saved ∷ next ∷ older) h = (h.0, bottom_calm (next ∷ older) h.1)

module _ (layout : Layout) (so_far : List ℕ) (entered : Bool) (control : Control) (orderly : IsOrderly layout so_far true control) (old : IsCalm entered control) (context : Context) (is_now : control.now ≡ Some context) where
  was_entered : is_asked control.phase ≡ true → entered ≡ true
  was_entered h = elim (old.asked h) [ inl e ↦ e | inr f ↦ absurd (let n = f.0 in let x : is_some control.now ≡ true = ap is_some is_now in cc) ]

  -- the runtime leaves and nothing else changes
  gone : IsCalm entered (record control { now = None })
  gone = record { cause = old.cause; stack = old.stack; free = tt; asked = λ h. inl (was_entered h) }

  -- a phase in which nothing is asked for
  moved : (next : Control) → next.cause ≡ control.cause → StackCalm next.stack → GuardFree next.phase next.now → is_asked next.phase ≡ false → IsCalm entered next
  moved next c s g a = record { cause = c ∙ old.cause; stack = s; free = g; asked = λ h. absurd (cc) }

  -- the same phase
  stays : (next : Control) → next.cause ≡ control.cause → StackCalm next.stack → GuardFree next.phase next.now → next.phase ≡ control.phase → IsCalm entered next
  stays next c s g p = record { cause = c ∙ old.cause; stack = s; free = g; asked = λ h. inl (was_entered (ap is_asked (sym p) ∙ h)) }

  by_reason : (k : ℕ) (inner : Context) (reason : Reason) (older : List Saved) → control.stack ≡ record { context = inner; reason = reason } ∷ older → ReasonCalm reason → SavedFits layout control.phase control.queue (length older) (record { context = inner; reason = reason }) → TurnCalm entered (handle layout control k (record { context = inner; reason = reason } ∷ older))
  by_reason k inner Interrupted older e r h = gone
  by_reason k inner Cleared older e r h = gone
  by_reason k inner (Raised v) older e r h = moved _ refl (top_calm control.stack old.stack) tt refl
  by_reason k inner Denied older e r h = moved _ refl (top_calm control.stack old.stack) tt refl
  by_reason k inner Broke older e r h = absurd r
  by_reason k inner (Faulted t) older e r h = absurd r
  by_reason k inner (Missed c) older e r h =
      let fits : ContextFits layout control.phase (length older) Program = subst (ContextFits layout control.phase (length older)) h.reason.0 h.context in
      record {
        cause = old.cause;
        stack = top_calm control.stack old.stack;
        free = tt;
        asked = λ x. inr (refl, top_length control.stack ∙ ap length e ∙ ap suc fits.0);
      }

  handled_by : (k : ℕ) (stack : List Saved) → control.stack ≡ stack → StackCalm stack → StackFits layout control.phase control.queue stack → TurnCalm entered (handle layout control k stack)
  handled_by k [] e s h = gone
  handled_by k (saved ∷ older) e s h = by_reason k saved.context saved.reason older e s.0 h.0

  handled : (k : ℕ) → TurnCalm entered (handle layout control k control.stack)
  handled k = handled_by k control.stack refl old.stack orderly.stack

  enter_calm : (k v : ℕ) (phase : Phase) → control.phase ≡ phase → TurnCalm entered (enter layout control k v phase)
  enter_calm k v (Ended s) e = gone
  enter_calm k v (Trapped x) e = gone
  enter_calm k v Dead e = gone
  enter_calm k v Running e = handled k
  enter_calm zero v New e = moved _ refl old.stack tt refl
  enter_calm (suc k) v New e = handled (suc k)
  enter_calm zero v Calling e = moved _ refl old.stack tt refl
  enter_calm (suc k) v Calling e = handled (suc k)
  enter_calm zero v (Asked c) e = handled zero
  enter_calm (suc (suc k)) v (Asked c) e = handled (suc (suc k))
  enter_calm (suc zero) v (Asked c) e = stays _ refl old.stack tt refl

  probe_calm : (i : ℕ) (last : Bool) → IsCalm entered (record control { now = if last then Some Finish else Some (Probe (suc i)) })
  probe_calm i true = stays _ refl old.stack tt refl
  probe_calm i false = stays _ refl old.stack tt refl

  finish_calm : (phase : Phase) → TurnCalm entered (finish control phase)
  finish_calm (Asked c) = moved _ refl (bottom_calm control.stack old.stack) tt refl
  finish_calm New = gone
  finish_calm Running = gone
  finish_calm Calling = gone
  finish_calm (Ended s) = gone
  finish_calm (Trapped x) = gone
  finish_calm Dead = gone

  guard_calm : (phase : Phase) → is_asked phase ≡ false → TurnCalm entered (resume_guard control phase)
  guard_calm (Asked c) h = absurd (cc)
  guard_calm New h = gone
  guard_calm Running h = gone
  guard_calm Calling h = gone
  guard_calm (Ended s) h = gone
  guard_calm (Trapped x) h = gone
  guard_calm Dead h = gone

  leave_calm : (b a : ℕ) → TurnCalm entered (leave_call control b a)
  leave_calm zero a = moved _ refl old.stack tt refl
  leave_calm (suc b) a = moved _ refl old.stack tt refl

  effect_calm : (next : Context) → GuardFree control.phase (Some next) → TurnCalm entered (effect layout control next)
  effect_calm Program g = old
  effect_calm (Enter k v) g = enter_calm k v control.phase refl
  effect_calm (Probe i) g = probe_calm i (suc i == length (asked_pages layout control.phase))
  effect_calm Finish g = finish_calm control.phase
  effect_calm Guard g = guard_calm control.phase g
  effect_calm (Leave b a) g = leave_calm b a

  -- a step that does not fault
  pub runtime_calm : (past : History) → first_fault layout past (accesses layout control context) ≡ None → TurnCalm entered (runtime_turn layout past control context)
  runtime_calm past e =
      subst (λ o. TurnCalm entered (unless_fault layout control context o)) (sym e)
      (effect_calm context (subst (GuardFree control.phase) is_now old.free))

  -- ---- A turn of the program

  left_program : (exit : Exit) (reason : Reason) → ReasonCalm reason → entered_after (Exits 0 exit) entered ≡ entered → TurnCalm entered (leave_program exit reason control)
  left_program exit reason r e =
      subst (λ b. IsCalm b (record control { stack = record { context = Program; reason = reason } ∷ control.stack; now = None; pending = true; rest = without_first control.rest })) (sym e)
      (stays _ refl (r, old.stack) tt refl)

  vector_calm : (denied : Bool) (v : ℕ) → TurnCalm entered (if denied then leave_program (shown_fault layout) Denied control else leave_program (Exit.Vector v) (Raised v) control)
  vector_calm true v = left_program (shown_fault layout) Denied tt refl
  vector_calm false v = left_program (Exit.Vector v) (Raised v) tt refl

  counted : IsCalm entered (record control { count = control.count + 1 })
  counted = record { cause = old.cause; stack = old.stack; free = old.free; asked = old.asked }

  event_calm : (x : Option Event) → is_break x ≡ false → TurnCalm entered (event_turn layout control x)
  event_calm None h = counted
  event_calm (Some (Call i b a)) h = stays _ refl old.stack tt refl
  event_calm (Some (Miss i c)) h = left_program (shown_fault layout) (Missed c) tt refl
  event_calm (Some (Break i)) h = absurd (cc)
  event_calm (Some (Trap i v)) h = vector_calm (v == 14) v

  -- a turn of the program that does not break
  pub program_calm : is_break (due control.count control.rest) ≡ false → TurnCalm entered (event_turn layout control (due control.count control.rest))
  program_calm h = event_calm (due control.count control.rest) h
