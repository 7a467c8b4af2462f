-- Each step of the runtime keeps the laws of the control state.
use Rattle.std.proofs.Common.{◌≡◌, ℕ, zero, suc, ◌<◌, ◌≤◌, List, [], ◌∷◌, ◌++◌, length, drop, arith, refl, ap, sym, ◌∙◌, subst}
use Rattle.std.specs.Prelude.{Bool, true, false, if◌then◌else◌, Option, Some, None, is_some, ◌==◌}
use Rattle.std.proofs.lemmas.Bool.{eqb-false, eqb-true}
use Rattle.ak_core.specs.Layout.{Layout, size_of}
use Rattle.ak_core.specs.Mem.{Access}
use Rattle.ak_core.specs.declared.event.StopCause.TheVariants.{RuntimeUnmapped, ResumedEarly}
use Rattle.ak_model.specs.Paging.Pages.{pages_of}
use Rattle.ak_model.specs.Clusters.Queue.{drops, is_in}
use Rattle.ak_model.specs.Control.ControlState.{Phase, New, Running, Calling, Asked, Ended, Trapped, Dead, Context, Program, Enter, Probe, Finish, Guard, Leave, Reason, Interrupted, Cleared, Raised, Denied, Missed, Broke, Faulted, Saved, Cause, ByBreak, Named, Control, first_cause, is_asked}
use Rattle.ak_model.specs.Control.RuntimeTurn.{save, guard, guard_top, guarded_twice, program_at_bottom, asked_pages, fault, stuck_cause, nested_cause, own_fault, handle, trap, ask, enter, next_probe, finish, resume_guard, leave_call, effect}
use Rattle.ak_model.specs.Laws.StepRows.{opens, guards}
use Rattle.ak_model.specs.Laws.Orderly.{ContextFits, SavedFits, StackFits, is_refused, is_live, QueueFits, PhaseFits, ServedBy, IsOrderly, TurnIsOrderly}
use Rattle.ak_model.proofs.Control.Stacks.{top_length}
use Rattle.ak_model.proofs.Clusters.DistinctQueues.{out-drop, dropped_fits, appended_fits}

pub empty_if : {A : Type 0} (xs : List A) → length xs ≡ 0 → xs ≡ []
empty_if [] h = refl
empty_if (x ∷ xs) h = absurd (omega arith)

pub first_is_some : (earlier : Option Cause) (cause : Cause) → is_some (first_cause earlier cause) ≡ true
first_is_some None cause = refl
first_is_some (Some earlier) cause = refl

-- only while a cluster is asked for are there pages that are asked for
pub some_asked : (layout : Layout) (phase : Phase) (i : ℕ) → i < length (asked_pages layout phase) → is_asked phase ≡ true
some_asked layout (Asked c) i h = refl
some_asked layout _ i h = absurd (omega arith)

-- each cluster has a page, and fits the budget
pub record ClustersFit (layout : Layout) : Type 0 where
  pub some_page : (c : ℕ) → c < layout.clusters → 1 ≤ length (pages_of layout c)
  pub small : (c : ℕ) → c < layout.clusters → size_of layout.cluster_of c ≤ layout.budget

module _ (layout : Layout) (fit : ClustersFit layout) (so_far : List ℕ) (control : Control) (old : IsOrderly layout so_far true control) (context : Context) (is_now : control.now ≡ Some context) where
  -- a processor that goes on was not refused
  not_pending : control.pending ≡ true → ⊥
  not_pending h =
      let none = (old.pending_only h).0 in
      let some : is_some control.now ≡ true = ap is_some is_now in
      cc

  -- nobody is inside any more, and nothing refuses to resume
  settled : (phase : Phase) (queue : List ℕ) (stack : List Saved) (returned : List ℕ) (cause : Option Cause) → StackFits layout phase queue stack → (length stack ≡ 0 → opens phase ≡ true) → PhaseFits layout queue cause phase → QueueFits layout queue → ServedBy layout so_far phase queue stack → (is_refused stack ≡ true → is_live phase ≡ true → ⊥) → IsOrderly layout so_far false (record { phase = phase; queue = queue; stack = stack; now = None; pending = control.pending; count = control.count; rest = control.rest; returned = returned; cause = cause })
  settled phase queue stack returned cause s n p q t free = record {
    stack = s;
    now = n;
    inside = λ h. absurd (cc);
    phase = p;
    queue = q;
    served = t;
    tape = old.tape;
    pending_only = λ h. absurd (not_pending h);
    pending_if = λ n r l. absurd (free r l);
    stuck = λ l h. absurd (not_pending h);
  }

  -- the runtime leaves and nothing else changes
  gone : (length control.stack ≡ 0 → opens control.phase ≡ true) → (is_refused control.stack ≡ true → is_live control.phase ≡ true → ⊥) → IsOrderly layout so_far false (record control { now = None })
  gone n free = settled control.phase control.queue control.stack control.returned control.cause old.stack n old.phase old.queue old.served free

  -- with another context inside
  goes_to : (next : Context) → ContextFits layout control.phase (length control.stack) next → IsOrderly layout so_far true (record control { now = Some next })
  goes_to next fits = record {
    stack = old.stack;
    now = fits;
    inside = λ h. refl;
    phase = old.phase;
    queue = old.queue;
    served = old.served;
    tape = old.tape;
    pending_only = λ h. absurd (not_pending h);
    pending_if = λ n r l. absurd (cc);
    stuck = λ l h. absurd (not_pending h);
  }

  -- ---- The end

  guard_fits : (phase : Phase) (queue : List ℕ) → guards phase ≡ true → StackFits layout phase queue (guard ∷ [])
  guard_fits phase queue g = (record { context = (omega arith, g, λ e. absurd (omega arith)); reason = refl }, tt)

  two_guards : (queue : List ℕ) → StackFits layout Dead queue (guard ∷ guard ∷ [])
  two_guards queue = (record { context = (omega arith, refl, λ e. refl); reason = refl }, guard_fits Dead queue refl)

  dead : (stack : List Saved) (queue : List ℕ) (cause : Cause) → StackFits layout Dead queue stack → QueueFits layout queue → IsOrderly layout so_far false (record control { stack = stack; queue = queue; phase = Dead; now = None; cause = first_cause control.cause cause })
  dead stack queue cause s q = settled Dead queue stack control.returned (first_cause control.cause cause) s (λ e. refl) (first_is_some control.cause cause) q tt (λ r l. absurd (cc))

  guarded_fits : (phase : Phase) (queue : List ℕ) (stack : List Saved) → length stack ≤ 1 → guards phase ≡ true → StackFits layout phase queue (guard_top stack)
  guarded_fits phase queue [] l g = tt
  guarded_fits phase queue (saved ∷ []) l g = guard_fits phase queue g
  guarded_fits phase queue (saved ∷ next ∷ older) l g = absurd (omega arith)

  twice_fits : (queue : List ℕ) (stack : List Saved) → length stack ≡ 2 → StackFits layout Dead queue (guarded_twice stack)
  twice_fits queue [] l = tt
  twice_fits queue (saved ∷ []) l = absurd (omega arith)
  twice_fits queue (saved ∷ next ∷ []) l = two_guards queue
  twice_fits queue (saved ∷ next ∷ more ∷ older) l = absurd (omega arith)

  own_by : (k : ℕ) (b : Bool) (inner : Context) (t : Access) → (k == 2) ≡ b → k ≡ length control.stack → k ≤ 2 → TurnIsOrderly layout so_far (if b then Rattle.ak_model.specs.Control.RuntimeTurn.die (Named (nested_cause layout inner t)) (record control { stack = guarded_twice control.stack }) else Rattle.ak_model.specs.Control.RuntimeTurn.die (Named (RuntimeUnmapped t.page t.kind)) (Rattle.ak_model.specs.Control.RuntimeTurn.guarded control))
  own_by k true inner t e l m =
      let two = eqb-true k 2 e in
      dead (guarded_twice control.stack) control.queue (Named (nested_cause layout inner t)) (twice_fits control.queue control.stack (omega arith)) old.queue
  own_by k false inner t e l m =
      let less = eqb-false k 2 e in
      dead (guard_top control.stack) control.queue (Named (RuntimeUnmapped t.page t.kind)) (guarded_fits Dead control.queue control.stack (omega arith) refl) old.queue

  -- ---- Entering

  -- the program stands alone, in phase Running
  alone : (saved : Saved) (older : List Saved) → control.stack ≡ saved ∷ older → saved.context ≡ Program → SavedFits layout control.phase control.queue (length older) saved → (length control.stack ≡ 1) × (control.phase ≡ Running)
  alone saved older e p h =
      let fits : ContextFits layout control.phase (length older) Program = subst (ContextFits layout control.phase (length older)) p h.context in
      (ap length e ∙ ap suc fits.0, fits.1)

  trap_fits : (v : ℕ) → length control.stack ≡ 1 → TurnIsOrderly layout so_far (trap control v)
  trap_fits v one =
      settled (Trapped v) control.queue (guard_top control.stack) control.returned control.cause
      (guarded_fits (Trapped v) control.queue control.stack (omega arith) refl) (λ e. refl) tt old.queue tt (λ r l. absurd (cc))

  top_not_refused : (stack : List Saved) → is_refused (guard_top stack) ≡ true → ⊥
  top_not_refused [] h = absurd (cc)
  top_not_refused (saved ∷ older) h = absurd (cc)

  ask_fits : (c : ℕ) → length control.stack ≡ 1 → c < layout.clusters → is_in control.queue c ≡ false → ServedBy layout so_far (Asked c) (drop (drops layout control.queue c) control.queue) (guard_top control.stack) → TurnIsOrderly layout so_far (ask layout control c)
  ask_fits c one known out t =
      let d = drops layout control.queue c in
      let rest = dropped_fits layout control.queue c (fit.small c known) old.queue in
      let same = top_length control.stack in
      settled (Asked c) (drop d control.queue) (guard_top control.stack) control.returned control.cause
      (guarded_fits (Asked c) (drop d control.queue) control.stack (omega arith) refl) (λ e. absurd (omega arith))
      (known, out-drop d control.queue c out, rest.1) rest.0 t (λ r l. absurd (top_not_refused control.stack r))

  missed_tape : (phase : Phase) (saved : Saved) (c : ℕ) → phase ≡ Running → saved.reason ≡ Missed c → ServedBy layout so_far phase control.queue (saved ∷ []) → ServedBy layout so_far (Asked c) (drop (drops layout control.queue c) control.queue) []
  missed_tape phase saved c e r h =
      subst (λ reason. ServedBy layout so_far Running control.queue (record { context = saved.context; reason = reason } ∷ [])) r
      (subst (λ p. ServedBy layout so_far p control.queue (saved ∷ [])) e h)

  by_reason : (k : ℕ) (inner : Context) (reason : Reason) (older : List Saved) → control.stack ≡ record { context = inner; reason = reason } ∷ older → k ≡ length control.stack → k ≤ 2 → SavedFits layout control.phase control.queue (length older) (record { context = inner; reason = reason }) → TurnIsOrderly layout so_far (handle layout control k (record { context = inner; reason = reason } ∷ older))
  by_reason k inner Interrupted older e l m h =
      gone (λ none. absurd (let n = ap length e in omega arith)) (λ r live. absurd (let x : is_refused control.stack ≡ false = ap is_refused e in cc))
  by_reason k inner Cleared older e l m h =
      gone (λ none. absurd (let n = ap length e in omega arith)) (λ r live. absurd (let x : is_refused control.stack ≡ false = ap is_refused e in cc))
  by_reason k inner (Faulted t) older e l m h = own_by k (k == 2) inner t refl l m
  by_reason k inner (Raised v) older e l m h = trap_fits v (alone _ older e h.reason h).0
  by_reason k inner Denied older e l m h = trap_fits 14 (alone _ older e h.reason h).0
  by_reason k inner Broke older e l m h =
      let one = (alone _ older e h.reason h).0 in
      dead (guard_top control.stack) control.queue ByBreak (guarded_fits Dead control.queue control.stack (omega arith) refl) old.queue
  by_reason k inner (Missed c) older e l m h =
      let at = alone _ older e h.reason.0 h in
      let less : length older ≡ 0 = let n = at.0 in let x = ap length e in omega arith in
      let only : control.stack ≡ record { context = inner; reason = Missed c } ∷ [] = e ∙ ap (λ s. record { context = inner; reason = Missed c } ∷ s) (empty_if older less) in
      let tape : ServedBy layout so_far control.phase control.queue (record { context = inner; reason = Missed c } ∷ []) = subst (λ s. ServedBy layout so_far control.phase control.queue s) only old.served in
      ask_fits c at.0 h.reason.1 h.reason.2 (missed_tape control.phase (record { context = inner; reason = Missed c }) c at.1 refl tape)

  handled_by : (k : ℕ) (stack : List Saved) → control.stack ≡ stack → k ≡ length control.stack → k ≤ 2 → (k ≡ 0 → ⊥) → StackFits layout control.phase control.queue stack → TurnIsOrderly layout so_far (handle layout control k stack)
  handled_by k [] e l m some h = absurd (some (l ∙ ap length e))
  handled_by k (saved ∷ older) e l m some h = by_reason k saved.context saved.reason older e l m h.0

  handled : (k : ℕ) → k ≡ length control.stack → k ≤ 2 → (k ≡ 0 → ⊥) → TurnIsOrderly layout so_far (handle layout control k control.stack)
  handled k l m some = handled_by k control.stack refl l m some old.stack

  -- the program begins, or goes on after a call
  begins : (returned : List ℕ) (phase : Phase) → control.phase ≡ phase → length control.stack ≡ 0 → ServedBy layout so_far Running control.queue [] → IsOrderly layout so_far true (record control { phase = Running; now = Some Program; returned = returned })
  begins returned phase e none t =
      let empty : control.stack ≡ [] = empty_if control.stack none in
      record {
        stack = subst (StackFits layout Running control.queue) (sym empty) tt;
        now = (none, refl);
        inside = λ h. refl;
        phase = tt;
        queue = old.queue;
        served = subst (λ s. ServedBy layout so_far Running control.queue s) (sym empty) t;
        tape = old.tape;
        pending_only = λ h. absurd (not_pending h);
        pending_if = λ n r l. absurd (cc);
        stuck = λ l h. absurd (not_pending h);
      }

  over : (phase : Phase) → control.phase ≡ phase → opens phase ≡ true → is_live phase ≡ false → IsOrderly layout so_far false (record control { now = None })
  over phase e o dead = gone (λ none. ap opens e ∙ o) (λ r l. absurd (let x = ap is_live e in cc))

  enter_fits : (k v : ℕ) (phase : Phase) → control.phase ≡ phase → ContextFits layout phase (length control.stack) (Enter k v) → TurnIsOrderly layout so_far (enter layout control k v phase)
  enter_fits k v (Ended s) e h = over (Ended s) e refl refl
  enter_fits k v (Trapped x) e h = over (Trapped x) e refl refl
  enter_fits k v Dead e h = over Dead e refl refl
  enter_fits zero v Running e h = absurd (let x = h.2 (sym h.0) in cc)
  enter_fits (suc k) v Running e h = handled (suc k) h.0 (let l = h.0 in let m = h.1 in omega arith) (λ z. absurd (omega arith))
  enter_fits zero v New e h = begins control.returned New e (sym h.0) (subst (λ p. ServedBy layout so_far p control.queue control.stack) e old.served)
  enter_fits (suc k) v New e h = handled (suc k) h.0 (let l = h.0 in let m = h.1 in omega arith) (λ z. absurd (omega arith))
  enter_fits zero v Calling e h = begins (control.returned ++ v ∷ []) Calling e (sym h.0) (subst (λ p. ServedBy layout so_far p control.queue control.stack) e old.served)
  enter_fits (suc k) v Calling e h = handled (suc k) h.0 (let l = h.0 in let m = h.1 in omega arith) (λ z. absurd (omega arith))
  enter_fits zero v (Asked c) e h = absurd (let x = h.2 (sym h.0) in cc)
  enter_fits (suc (suc k)) v (Asked c) e h = handled (suc (suc k)) h.0 (let l = h.0 in let m = h.1 in omega arith) (λ z. absurd (omega arith))
  enter_fits (suc zero) v (Asked c) e h =
      let asked : PhaseFits layout control.queue control.cause (Asked c) = subst (PhaseFits layout control.queue control.cause) e old.phase in
      let some = fit.some_page c asked.0 in
      goes_to (Probe 0) (sym h.0, subst (λ p. 0 < length (asked_pages layout p)) (sym e) some)

  -- ---- Probes

  probe_by : (i : ℕ) (last : Bool) → (suc i == length (asked_pages layout control.phase)) ≡ last → ContextFits layout control.phase (length control.stack) (Probe i) → IsOrderly layout so_far true (record control { now = if last then Some Finish else Some (Probe (suc i)) })
  probe_by i true e h = goes_to Finish (h.0, some_asked layout control.phase i h.1)
  probe_by i false e h =
      let differ = eqb-false (suc i) (length (asked_pages layout control.phase)) e in
      let small : i < length (asked_pages layout control.phase) = h.1 in
      goes_to (Probe (suc i)) (h.0, omega arith)

  bottom_fits : (queue : List ℕ) (stack : List Saved) → length stack ≡ 1 → StackFits layout Running queue (program_at_bottom stack)
  bottom_fits queue [] h = tt
  bottom_fits queue (saved ∷ []) h = (record { context = (refl, refl); reason = refl }, tt)
  bottom_fits queue (saved ∷ next ∷ older) h = absurd (omega arith)

  bottom_tape : (queue : List ℕ) (stack : List Saved) → length stack ≡ 1 → ServedBy layout so_far Running queue [] → ServedBy layout so_far Running queue (program_at_bottom stack)
  bottom_tape queue [] h t = t
  bottom_tape queue (saved ∷ []) h t = t
  bottom_tape queue (saved ∷ next ∷ older) h t = absurd (omega arith)

  bottom_free : (stack : List Saved) → length stack ≡ 1 → is_refused (program_at_bottom stack) ≡ true → ⊥
  bottom_free [] h r = absurd (cc)
  bottom_free (saved ∷ []) h r = absurd (cc)
  bottom_free (saved ∷ next ∷ older) h r = absurd (omega arith)

  bottom_length : (stack : List Saved) → length stack ≡ 1 → length (program_at_bottom stack) ≡ 0 → ⊥
  bottom_length [] h r = absurd (omega arith)
  bottom_length (saved ∷ []) h r = absurd (omega arith)
  bottom_length (saved ∷ next ∷ older) h r = absurd (omega arith)

  finish_fits : (phase : Phase) → control.phase ≡ phase → (length control.stack ≡ 1) × (is_asked phase ≡ true) → TurnIsOrderly layout so_far (finish control phase)
  finish_fits (Asked c) e h =
      let asked : PhaseFits layout control.queue control.cause (Asked c) = subst (PhaseFits layout control.queue control.cause) e old.phase in
      let tape : ServedBy layout so_far (Asked c) control.queue control.stack = subst (λ p. ServedBy layout so_far p control.queue control.stack) e old.served in
      settled Running (control.queue ++ c ∷ []) (program_at_bottom control.stack) control.returned control.cause
      (bottom_fits (control.queue ++ c ∷ []) control.stack h.0) (λ none. absurd (bottom_length control.stack h.0 none)) tt
      (appended_fits layout control.queue c asked.0 asked.1 asked.2 old.queue) (bottom_tape (control.queue ++ c ∷ []) control.stack h.0 tape) (λ r l. absurd (bottom_free control.stack h.0 r))
  finish_fits New e h = absurd (let x = h.1 in cc)
  finish_fits Running e h = absurd (let x = h.1 in cc)
  finish_fits Calling e h = absurd (let x = h.1 in cc)
  finish_fits (Ended s) e h = absurd (let x = h.1 in cc)
  finish_fits (Trapped x) e h = absurd (let y = h.1 in cc)
  finish_fits Dead e h = absurd (let x = h.1 in cc)

  -- ---- The guard, and leaving for a call

  one_asked : (phase : Phase) → phase ≡ Dead → guards phase ≡ true → is_asked phase ≡ true → ⊥
  one_asked (Asked c) e g a = absurd (cc)
  one_asked New e g a = absurd (cc)
  one_asked Running e g a = absurd (cc)
  one_asked Calling e g a = absurd (cc)
  one_asked (Ended s) e g a = absurd (cc)
  one_asked (Trapped x) e g a = absurd (cc)
  one_asked Dead e g a = absurd (cc)

  guard_turn : (phase : Phase) → control.phase ≡ phase → ContextFits layout phase (length control.stack) Guard → TurnIsOrderly layout so_far (resume_guard control phase)
  guard_turn (Asked c) e h =
      dead control.stack control.queue (Named ResumedEarly) (none_saved control.stack refl) old.queue
    where
      none_saved : (stack : List Saved) → control.stack ≡ stack → StackFits layout Dead control.queue stack
      none_saved [] s = tt
      none_saved (saved ∷ older) s =
          let l : length control.stack ≡ 1 = let n = ap length s in let m = h.0 in omega arith in
          absurd (let x = h.2 l in cc)
  guard_turn (Trapped x) e h = over (Trapped x) e refl refl
  guard_turn Dead e h = over Dead e refl refl
  guard_turn New e h = absurd (let x = h.1 in cc)
  guard_turn Running e h = absurd (let x = h.1 in cc)
  guard_turn Calling e h = absurd (let x = h.1 in cc)
  guard_turn (Ended s) e h = absurd (let x = h.1 in cc)

  leave_fits : (b a : ℕ) → (length control.stack ≡ 0) × (control.phase ≡ Running) → TurnIsOrderly layout so_far (leave_call control b a)
  leave_fits zero a h =
      let empty : control.stack ≡ [] = empty_if control.stack h.0 in
      settled (Ended a) control.queue control.stack control.returned control.cause
      (subst (StackFits layout (Ended a) control.queue) (sym empty) tt) (λ e. refl) tt old.queue tt (λ r l. absurd (cc))
  leave_fits (suc b) a h =
      let empty : control.stack ≡ [] = empty_if control.stack h.0 in
      let tape : ServedBy layout so_far Running control.queue [] = subst (λ s. ServedBy layout so_far Running control.queue s) empty (subst (λ p. ServedBy layout so_far p control.queue control.stack) h.1 old.served) in
      settled Calling control.queue control.stack control.returned control.cause
      (subst (StackFits layout Calling control.queue) (sym empty) tt) (λ e. refl) tt old.queue tape (λ r l. absurd (let x : is_refused control.stack ≡ false = ap is_refused empty in cc))

  -- what a step does where no access faults
  pub effect_fits : (next : Context) → ContextFits layout control.phase (length control.stack) next → TurnIsOrderly layout so_far (effect layout control next)
  effect_fits Program h = old
  effect_fits (Enter k v) h = enter_fits k v control.phase refl h
  effect_fits (Probe i) h = probe_by i (suc i == length (asked_pages layout control.phase)) refl h
  effect_fits Finish h = finish_fits control.phase refl h
  effect_fits Guard h = guard_turn control.phase refl h
  effect_fits (Leave b a) h = leave_fits b a h
