-- Entering, resuming and an interrupt keep the laws of the control state.
use Rattle.std.proofs.Common.{◌≡◌, ℕ, ◌<◌, ◌≤◌, List, [], ◌∷◌, length, arith, refl, ap, ◌∙◌, subst}
use Rattle.std.specs.Prelude.{Bool, true, false, Option, Some, None, is_some, ◌==◌}
use Rattle.std.proofs.lemmas.Bool.{eqb-false}
use Rattle.ak_core.specs.Layout.{Layout}
use Rattle.ak_model.specs.Paging.Histories.{History, Enters, Resumes, Interrupts}
use Rattle.ak_model.specs.Paging.Inside.{someone_inside}
use Rattle.ak_model.specs.Control.ControlState.{Phase, New, Running, Calling, Asked, Ended, Trapped, Dead, Context, Program, Enter, Probe, Finish, Guard, Leave, Reason, Interrupted, Cleared, Raised, Denied, Missed, Broke, Faulted, Saved, Control, cssa}
use Rattle.ak_model.specs.Control.Entering.{entered, resumed_by, interrupted_by}
use Rattle.ak_model.specs.Laws.StepRows.{opens}
use Rattle.ak_model.specs.Laws.Orderly.{ContextFits, NowFits, StackFits, refuses_by, is_refused, miss_of, after_miss_if, is_live, ServedBy, IsOrderly}
use Rattle.ak_model.proofs.Paging.SomeoneInside.{entered_someone, resumed_someone}
use Rattle.ak_model.proofs.Paging.Readings.{Reading, reading, someone_then}
use Rattle.ak_model.proofs.Control.OrderlyTurns.{pushed_served}

module _ (layout : Layout) (so_far : List ℕ) where
  -- where nobody is inside, it matters not who is said to be
  pub widen : (someone : Bool) (control : Control) → IsOrderly layout so_far false control → IsOrderly layout so_far someone control
  widen someone control old = record {
    stack = old.stack;
    now = old.now;
    inside = λ h. absurd (let f = old.inside h in cc);
    phase = old.phase;
    queue = old.queue;
    served = old.served;
    tape = old.tape;
    pending_only = old.pending_only;
    pending_if = old.pending_if;
    stuck = old.stuck;
  }

  -- ---- A move

  abbrev pub AfterChange : History → Reading → Control → Type 0
  AfterChange past change control = IsOrderly layout so_far (someone_then layout past change) control

  -- nobody is inside, so there is no context
  pub none_now : (someone : Bool) (control : Control) → IsOrderly layout so_far someone control → someone ≡ false → is_some control.now ≡ false
  none_now someone control old e = by_now (is_some control.now) refl
    where
      by_now : (b : Bool) → is_some control.now ≡ b → is_some control.now ≡ false
      by_now false h = h
      by_now true h = absurd (let x = old.inside h in cc)

  -- what is resumed does not refuse to be, while the program may go on
  pub not_refused : (someone : Bool) (control : Control) (saved : Saved) (older : List Saved) → IsOrderly layout so_far someone control → control.stack ≡ saved ∷ older → control.pending ≡ false → is_some control.now ≡ false → is_live control.phase ≡ true → refuses_by saved.reason ≡ false
  not_refused someone control saved older old e free none live = by_reason (refuses_by saved.reason) refl
    where
      by_reason : (b : Bool) → refuses_by saved.reason ≡ b → refuses_by saved.reason ≡ false
      by_reason false h = h
      by_reason true h =
          let refused : is_refused control.stack ≡ true = ap is_refused e ∙ h in
          absurd (let p = old.pending_if none refused live in cc)

  idle : (phase : Phase) (stack : List Saved) (now : Option Context) → NowFits layout phase stack now → is_some now ≡ false → length stack ≡ 0 → opens phase ≡ true
  idle phase stack None h n = h
  idle phase stack (Some context) h n = absurd (cc)

  -- a context has at most two below it
  context_low : (phase : Phase) (d : ℕ) (context : Context) → ContextFits layout phase d context → d ≤ 2
  context_low phase d Program h = let e = h.0 in omega arith
  context_low phase d (Enter k v) h = h.1
  context_low phase d (Probe i) h = let e = h.0 in omega arith
  context_low phase d Finish h = let e = h.0 in omega arith
  context_low phase d Guard h = let e = h.0 in omega arith
  context_low phase d (Leave b a) h = let e = h.0 in omega arith

  pub three : (phase : Phase) (queue : List ℕ) (stack : List Saved) → StackFits layout phase queue stack → length stack ≤ 3
  three phase queue [] h = omega arith
  three phase queue (saved ∷ older) h = let l = context_low phase (length older) saved.context h.0.context in omega arith

  pub enter_fits : (past : History) (control : Control) (lp v : ℕ) → lp < layout.lps → someone_inside layout past ≡ false → (cssa control == 3) ≡ false → IsOrderly layout so_far (someone_inside layout past) control → AfterChange past (reading (Enters lp v)) (entered control v)
  enter_fits past control lp v low out full old =
      let few = three control.phase control.queue control.stack old.stack in
      let not_three = eqb-false (cssa control) 3 full in
      let none = none_now (someone_inside layout past) control old out in
      record {
        stack = old.stack;
        now = (refl, omega arith, idle control.phase control.stack control.now old.now none);
        inside = λ h. entered_someone layout past lp v low;
        phase = old.phase;
        queue = old.queue;
        served = old.served;
        tape = old.tape;
        pending_only = λ h. absurd (cc);
        pending_if = λ n r l. absurd (cc);
        stuck = λ l h. absurd (cc);
      }

  -- ---- Resuming

  refused_miss : (reason : Reason) → refuses_by reason ≡ false → miss_of reason ≡ None
  refused_miss Interrupted h = refl
  refused_miss Cleared h = refl
  refused_miss (Raised v) h = absurd (cc)
  refused_miss Denied h = absurd (cc)
  refused_miss (Missed c) h = absurd (cc)
  refused_miss Broke h = absurd (cc)
  refused_miss (Faulted t) h = absurd (cc)

  popped_served : (phase : Phase) (queue : List ℕ) (saved : Saved) (older : List Saved) → (is_live phase ≡ true → refuses_by saved.reason ≡ false) → ServedBy layout so_far phase queue (saved ∷ older) → ServedBy layout so_far phase queue older
  popped_served New queue saved older n h = h
  popped_served Calling queue saved older n h = h
  popped_served Running queue saved [] n h = subst (λ o. after_miss_if layout queue o ≡ so_far) (refused_miss saved.reason (n refl)) h
  popped_served Running queue saved (next ∷ older) n h = h
  popped_served (Asked c) queue saved older n h = h
  popped_served (Ended s) queue saved older n h = h
  popped_served (Trapped v) queue saved older n h = h
  popped_served Dead queue saved older n h = h

  pub resume_fits : (past : History) (control : Control) (lp : ℕ) (saved : Saved) (older : List Saved) → lp < layout.lps → someone_inside layout past ≡ false → control.pending ≡ false → control.stack ≡ saved ∷ older → IsOrderly layout so_far (someone_inside layout past) control → AfterChange past (reading (Resumes lp)) (resumed_by control (saved ∷ older))
  resume_fits past control lp saved older low out free e old =
      let none = none_now (someone_inside layout past) control old out in
      let fits : StackFits layout control.phase control.queue (saved ∷ older) = subst (StackFits layout control.phase control.queue) e old.stack in
      let served : ServedBy layout so_far control.phase control.queue (saved ∷ older) = subst (λ s. ServedBy layout so_far control.phase control.queue s) e old.served in
      record {
        stack = fits.1;
        now = fits.0.context;
        inside = λ h. resumed_someone layout past lp low;
        phase = old.phase;
        queue = old.queue;
        served = popped_served control.phase control.queue saved older (not_refused (someone_inside layout past) control saved older old e free none) served;
        tape = old.tape;
        pending_only = λ h. absurd (cc);
        pending_if = λ n r l. absurd (cc);
        stuck = λ l h. absurd (cc);
      }

  -- ---- Interrupts

  interrupt_by : (past : History) (control : Control) (lp : ℕ) (now : Option Context) → control.now ≡ now → NowFits layout control.phase control.stack now → IsOrderly layout so_far (someone_inside layout past) control → AfterChange past (reading (Interrupts lp)) (interrupted_by control now)
  interrupt_by past control lp None n h old = record {
    stack = old.stack;
    now = old.now;
    inside = λ e. absurd (let x : is_some control.now ≡ false = ap is_some n in cc);
    phase = old.phase;
    queue = old.queue;
    served = old.served;
    tape = old.tape;
    pending_only = old.pending_only;
    pending_if = old.pending_if;
    stuck = old.stuck;
  }
  interrupt_by past control lp (Some context) n h old = record {
    stack = (record { context = h; reason = tt }, old.stack);
    now = λ e. absurd (omega arith);
    inside = λ e. absurd (cc);
    phase = old.phase;
    queue = old.queue;
    served = pushed_served layout so_far control.phase control.queue (record { context = context; reason = Interrupted }) control.stack refl old.served;
    tape = old.tape;
    pending_only = λ e. absurd (free e);
    pending_if = λ e r l. absurd (cc);
    stuck = λ l e. absurd (free e);
  }
    where
      free : control.pending ≡ true → ⊥
      free e = let x : is_some control.now ≡ true = ap is_some n in let y = (old.pending_only e).0 in cc

  pub interrupt_fits : (past : History) (control : Control) (lp : ℕ) → IsOrderly layout so_far (someone_inside layout past) control → AfterChange past (reading (Interrupts lp)) (interrupted_by control control.now)
  interrupt_fits past control lp old = interrupt_by past control lp control.now refl old.now old
