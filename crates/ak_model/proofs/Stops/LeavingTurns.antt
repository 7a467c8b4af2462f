-- What a turn that leaves does to the refusals to resume, to contexts that come back from an ask, and to the cause of the stop.
use Rattle.std.proofs.Common.{◌≡◌, inl, inr, ℕ, zero, suc, ◌<◌, ◌≤◌, List, [], ◌∷◌, length, arith, refl, ap, sym, ◌∙◌, subst}
use Rattle.std.specs.Prelude.{Bool, true, false, ◌||◌, slice_index, if◌then◌else◌, Option, Some, None, nat_lt, ◌==◌}
use Rattle.std.specs.List.{list_any}
use Rattle.std.proofs.lemmas.Bool.{ltb-true, ltb-false, eqb-true, eqb-false, or_right, or_parts}
use Rattle.ak_core.specs.Layout.{Layout}
use Rattle.ak_core.specs.Mem.{Access}
use Rattle.ak_core.specs.declared.moves.Exit.{Exit}
use Rattle.ak_core.specs.declared.moves.Exit.TheVariants.{Ask}
use Rattle.ak_core.specs.declared.event.Event.{Event}
use Rattle.ak_core.specs.declared.event.Event.TheVariants.{Call, Miss, Trap, Break}
use Rattle.ak_core.specs.declared.event.StopCause.TheVariants.{Unmapped, RuntimeUnmapped, FetchNotHonoured, ResumedEarly, Stuck}
use Rattle.ak_model.specs.Paging.Pages.{pages}
use Rattle.ak_model.specs.Paging.Histories.{History}
use Rattle.ak_model.specs.Paging.Walk.{access_walkable}
use Rattle.ak_model.specs.Control.ControlState.{Phase, New, Running, Calling, Asked, Ended, Trapped, Dead, Context, Program, Enter, Probe, Finish, Guard, Leave, Reason, Interrupted, Cleared, Raised, Denied, Missed, Broke, Faulted, Saved, Cause, ByBreak, Named, Control, cssa, first_cause, is_asked}
use Rattle.ak_model.specs.Control.OneTurn.{Turn, Goes, Leaves}
use Rattle.ak_model.specs.Control.RuntimeTurn.{asked_pages, accesses, first_fault, guard_top, program_at_bottom, shown_fault, nested_cause, die, guarded, guarded_twice, handle, enter, finish, resume_guard, leave_call, effect, unless_fault}
use Rattle.ak_model.specs.Control.EventTurn.{due, leave_program, event_turn}
use Rattle.ak_model.specs.Control.Runs.{turn_of, turn}
use Rattle.ak_model.specs.Stops.Blame.{is_fault}
use Rattle.ak_model.specs.Laws.ToldFault.{newest_refusal, is_guard}
use Rattle.ak_model.specs.Kernels.KernelRules.{is_finish_now, is_past_probes}
use Rattle.ak_model.specs.Laws.StepRows.{guards}
use Rattle.ak_model.specs.Laws.Orderly.{ContextFits, NowFits, FaultFits, SavedFits, StackFits, IsOwnAccess, is_live, IsOrderly, TurnIsOrderly, after_turn}
use Rattle.ak_model.proofs.Control.Unwalkable.{unwalkable}
use Rattle.ak_model.proofs.Control.OrderlySteps.{ClustersFit}
use Rattle.ak_model.proofs.Control.OrderlyTurns.{turn_fits}
use Rattle.ak_model.proofs.Clusters.ClusterPages.{asked_low}
use Rattle.ak_model.proofs.Control.RunEnds.{is_probing, probes_now}

-- a saved context came back from an ask
abbrev pub stack_probes : List Saved → Bool
stack_probes stack = list_any (λ saved. is_probing saved.context) stack

-- a context, saved or going on, did
abbrev pub has_probing : Control → Bool
has_probing control = probes_now control.now || stack_probes control.stack

-- a saved context was past the probes, the last of which has this number
abbrev pub stack_past : ℕ → List Saved → Bool
stack_past last stack = list_any (λ saved. is_past_probes last saved.context saved.reason) stack

-- the kernel is asked for a cluster
abbrev pub is_ask : Exit → Bool
is_ask (Ask d c) = true
is_ask _ = false

-- a refusal to resume that tells of no fault of a step, and of no break
abbrev pub IsMild : Option Reason → Type 0
IsMild (Some Broke) = ⊥
IsMild (Some (Faulted t)) = ⊥
IsMild _ = Unit {0}

module _ (layout : Layout) (past : History) where
  -- a step faulted, and its context was saved
  pub record StepFaults (control : Control) (next : Control) : Type 0 where
    pub context : Context
    pub access : Access
    pub now : control.now ≡ Some context
    pub lost : access_walkable layout past access ≡ false
    pub stack : next.stack ≡ record { context = context; reason = Faulted access } ∷ control.stack
    pub phase : next.phase ≡ control.phase

  -- the newest refusal to resume is as before, or one of no fault, or that of a step's fault, or that of a break
  pub data Outcome (control : Control) (exit : Exit) (next : Control) : Type 0 where
    Same : is_fault exit ≡ false → newest_refusal next.stack ≡ newest_refusal control.stack → next.queue ≡ control.queue → is_live control.phase ≡ true → Outcome control exit next
    Mild : IsMild (newest_refusal next.stack) → Outcome control exit next
    Faults : is_fault exit ≡ true → StepFaults control next → Outcome control exit next
    Breaks : is_fault exit ≡ true → newest_refusal next.stack ≡ Some Broke → next.queue ≡ control.queue → Outcome control exit next

  -- what a cause says of the control state before the turn
  abbrev pub StopBy : Control → Option Cause → Type 0
  StopBy control None = Unit {0}
  StopBy control (Some ByBreak) = (newest_refusal control.stack ≡ Some Broke) × (is_live control.phase ≡ true)
  StopBy control (Some (Named (Unmapped p kind))) = ⊥
  StopBy control (Some (Named (RuntimeUnmapped p kind))) =
      (newest_refusal control.stack ≡ Some (Faulted (record { page = p; kind = kind }))) × (is_live control.phase ≡ true) × IsOwnAccess layout (record { page = p; kind = kind })
  StopBy control (Some (Named (FetchNotHonoured p kind))) =
      (newest_refusal control.stack ≡ Some (Faulted (record { page = p; kind = kind }))) × (is_live control.phase ≡ true) × p.0 < pages layout
  StopBy control (Some (Named ResumedEarly)) = (is_asked control.phase ≡ true) × (is_guard control.now ≡ true)
  StopBy control (Some (Named (Stuck p kind))) =
      IsOwnAccess layout (record { page = p; kind = kind }) × (access_walkable layout past (record { page = p; kind = kind }) ≡ false)

  -- where what came back is not past the probes after the turn, it was not before
  abbrev pub NotPast : Control → Control → Type 0
  NotPast control next = (last : ℕ) → stack_past last next.stack ≡ false → (is_finish_now control.now ≡ false) × (stack_past last control.stack ≡ false)

  pub record Left (control : Control) (exit : Exit) (next : Control) : Type 0 where
    pub out : next.now ≡ None
    pub refusal : is_live next.phase ≡ true → Outcome control exit next
    pub probing : is_asked next.phase ≡ true → stack_probes next.stack ≡ true → (next.phase ≡ control.phase) × (has_probing control ≡ true) × (is_ask exit ≡ false) × NotPast control next
    pub cause : control.cause ≡ None → StopBy control next.cause
    pub stays : (x : Cause) → control.cause ≡ Some x → next.cause ≡ Some x

  abbrev pub TurnLeft : Control → Turn → Type 0
  TurnLeft control (Goes next) = Unit {0}
  TurnLeft control (Leaves exit next) = Left control exit next

  module _ (so_far : List ℕ) (control : Control) (orderly : IsOrderly layout so_far true control) where
    -- ---- Causes

    same_cause : (cause : Option Cause) → cause ≡ control.cause → control.cause ≡ None → StopBy control cause
    same_cause cause e none = subst (StopBy control) (sym (e ∙ none)) tt

    new_cause : (cause : Cause) → StopBy control (Some cause) → control.cause ≡ None → StopBy control (first_cause control.cause cause)
    new_cause cause h none = subst (λ o. StopBy control (first_cause o cause)) (sym none) h

    first_stays : (cause x : Cause) → control.cause ≡ Some x → first_cause control.cause cause ≡ Some x
    first_stays cause x e = ap (λ o. first_cause o cause) e

    -- ---- The runtime leaves

    -- with nothing saved, and nothing else changed
    gone : (exit : Exit) → is_finish_now control.now ≡ false → is_fault exit ≡ false → is_ask exit ≡ false → is_live control.phase ≡ true → Left control exit (record control { now = None })
    gone exit n f a l = record {
      out = refl;
      refusal = λ h. Same f refl refl l;
      probing = λ h p. (refl, or_right (probes_now control.now) _ p, a, λ last x. (n, x));
      cause = same_cause control.cause refl;
      stays = λ x e. e;
    }

    -- the program does not go on
    over : (exit : Exit) (next : Control) → next.now ≡ None → is_live next.phase ≡ false → is_asked next.phase ≡ false → (control.cause ≡ None → StopBy control next.cause) → ((x : Cause) → control.cause ≡ Some x → next.cause ≡ Some x) → Left control exit next
    over exit next n l a c s = record { out = n; refusal = λ h. absurd (cc); probing = λ h p. absurd (cc); cause = c; stays = s }

    -- nothing refuses to resume, and nothing that is saved came back
    free : (exit : Exit) (next : Control) → next.now ≡ None → newest_refusal next.stack ≡ None → stack_probes next.stack ≡ false → next.cause ≡ control.cause → Left control exit next
    free exit next n r p c = record {
      out = n;
      refusal = λ h. Mild (subst IsMild (sym r) tt);
      probing = λ h q. absurd (cc);
      cause = same_cause next.cause c;
      stays = λ x e. c ∙ e;
    }

    top_free : (stack : List Saved) → length stack ≡ 1 → (newest_refusal (guard_top stack) ≡ None) × (stack_probes (guard_top stack) ≡ false)
    top_free [] h = absurd (omega arith)
    top_free (saved ∷ []) h = (refl, refl)
    top_free (saved ∷ next ∷ older) h = absurd (omega arith)

    bottom_free : (stack : List Saved) → length stack ≡ 1 → (newest_refusal (program_at_bottom stack) ≡ None) × (stack_probes (program_at_bottom stack) ≡ false)
    bottom_free [] h = absurd (omega arith)
    bottom_free (saved ∷ []) h = (refl, refl)
    bottom_free (saved ∷ next ∷ older) h = absurd (omega arith)

    -- ---- The runtime's own fault

    probe_by : (t : Access) (i : ℕ) (low : Bool) → nat_lt t.page.0 (pages layout) ≡ low → newest_refusal control.stack ≡ Some (Faulted t) → is_live control.phase ≡ true → i < length (asked_pages layout control.phase) → FaultFits layout control.phase (Probe i) t → StopBy control (Some (Named (if low then FetchNotHonoured t.page t.kind else RuntimeUnmapped t.page t.kind)))
    probe_by t i true e r l small fits = (r, l, ltb-true t.page.0 (pages layout) e)
    probe_by t i false e r l small fits =
        elim fits [
          | inl same ↦
              let high = ltb-false t.page.0 (pages layout) e in
              let low = asked_low layout control.phase i small in
              let page : t.page.0 ≡ slice_index (asked_pages layout control.phase) i = ap (λ x. x.page.0) same in
              absurd (omega arith)
          | inr own ↦ (r, l, own)
        ]

    nested : (inner : Context) (t : Access) (d : ℕ) → newest_refusal control.stack ≡ Some (Faulted t) → is_live control.phase ≡ true → ContextFits layout control.phase d inner → FaultFits layout control.phase inner t → StopBy control (Some (Named (nested_cause layout inner t)))
    nested Program t d r l h fits = absurd fits
    nested (Enter k v) t d r l h fits = (r, l, fits)
    nested (Probe i) t d r l h fits = probe_by t i (nat_lt t.page.0 (pages layout)) refl r l h.1 fits
    nested Finish t d r l h fits = (r, l, fits)
    nested Guard t d r l h fits = (r, l, fits)
    nested (Leave b a) t d r l h fits = (r, l, fits)

    -- the oldest saved context is no probe
    alone : (inner : Context) (t : Access) (d : ℕ) → d ≡ 0 → ContextFits layout control.phase d inner → FaultFits layout control.phase inner t → IsOwnAccess layout t
    alone Program t d z h fits = absurd fits
    alone (Enter k v) t d z h fits = fits
    alone (Probe i) t d z h fits = absurd (let one = h.0 in omega arith)
    alone Finish t d z h fits = fits
    alone Guard t d z h fits = fits
    alone (Leave b a) t d z h fits = fits

    own_left : (k : ℕ) (b : Bool) (inner : Context) (t : Access) (older : List Saved) → (k == 2) ≡ b → k ≡ suc (length older) → k ≤ 2 → newest_refusal control.stack ≡ Some (Faulted t) → is_live control.phase ≡ true → SavedFits layout control.phase control.queue (length older) (record { context = inner; reason = Faulted t }) → TurnLeft control (if b then die (Named (nested_cause layout inner t)) (record control { stack = guarded_twice control.stack }) else die (Named (RuntimeUnmapped t.page t.kind)) (guarded control))
    own_left k true inner t older e d m r l h =
        over _ _ refl refl refl (new_cause (Named (nested_cause layout inner t)) (nested inner t (length older) r l h.context h.reason)) (first_stays (Named (nested_cause layout inner t)))
    own_left k false inner t older e d m r l h =
        let less = eqb-false k 2 e in
        over _ _ refl refl refl (new_cause (Named (RuntimeUnmapped t.page t.kind)) (r, l, alone inner t (length older) (omega arith) h.context h.reason)) (first_stays (Named (RuntimeUnmapped t.page t.kind)))

    -- ---- Entering

    by_reason : (k : ℕ) (inner : Context) (reason : Reason) (older : List Saved) → control.stack ≡ record { context = inner; reason = reason } ∷ older → is_finish_now control.now ≡ false → k ≡ length control.stack → k ≤ 2 → is_live control.phase ≡ true → SavedFits layout control.phase control.queue (length older) (record { context = inner; reason = reason }) → TurnLeft control (handle layout control k (record { context = inner; reason = reason } ∷ older))
    by_reason k inner Interrupted older e n d m l h = gone _ n refl refl l
    by_reason k inner Cleared older e n d m l h = gone _ n refl refl l
    by_reason k inner (Raised v) older e n d m l h = over _ _ refl refl refl (same_cause control.cause refl) (λ x c. c)
    by_reason k inner Denied older e n d m l h = over _ _ refl refl refl (same_cause control.cause refl) (λ x c. c)
    by_reason k inner Broke older e n d m l h = over _ _ refl refl refl (new_cause ByBreak (ap newest_refusal e, l)) (first_stays ByBreak)
    by_reason k inner (Faulted t) older e n d m l h = own_left k (k == 2) inner t older refl (d ∙ ap length e) m (ap newest_refusal e) l h
    by_reason k inner (Missed c) older e n d m l h =
        let fits : ContextFits layout control.phase (length older) Program = subst (ContextFits layout control.phase (length older)) h.reason.0 h.context in
        let top = top_free control.stack (ap length e ∙ ap suc fits.0) in
        free _ _ refl top.0 top.1 refl

    handled_by : (k : ℕ) (stack : List Saved) → control.stack ≡ stack → is_finish_now control.now ≡ false → k ≡ length control.stack → k ≤ 2 → is_live control.phase ≡ true → StackFits layout control.phase control.queue stack → TurnLeft control (handle layout control k stack)
    handled_by k [] e n d m l h = gone _ n refl refl l
    handled_by k (saved ∷ older) e n d m l h = by_reason k saved.context saved.reason older e n d m l h.0

    handled : (k : ℕ) → is_finish_now control.now ≡ false → k ≡ length control.stack → k ≤ 2 → is_live control.phase ≡ true → TurnLeft control (handle layout control k control.stack)
    handled k n d m l = handled_by k control.stack refl n d m l orderly.stack

    ended : (exit : Exit) (phase : Phase) → control.phase ≡ phase → is_live phase ≡ false → is_asked phase ≡ false → Left control exit (record control { now = None })
    ended exit phase e l a = over exit _ refl (ap is_live e ∙ l) (ap is_asked e ∙ a) (same_cause control.cause refl) (λ x c. c)

    enter_left : (k v : ℕ) (phase : Phase) → control.phase ≡ phase → is_finish_now control.now ≡ false → ContextFits layout phase (length control.stack) (Enter k v) → TurnLeft control (enter layout control k v phase)
    enter_left k v (Ended s) e n h = ended _ (Ended s) e refl refl
    enter_left k v (Trapped x) e n h = ended _ (Trapped x) e refl refl
    enter_left k v Dead e n h = ended _ Dead e refl refl
    enter_left k v Running e n h = handled k n h.0 (let l = h.0 in let m = h.1 in omega arith) (ap is_live e)
    enter_left zero v New e n h = tt
    enter_left (suc k) v New e n h = handled (suc k) n h.0 (let l = h.0 in let m = h.1 in omega arith) (ap is_live e)
    enter_left zero v Calling e n h = tt
    enter_left (suc k) v Calling e n h = handled (suc k) n h.0 (let l = h.0 in let m = h.1 in omega arith) (ap is_live e)
    enter_left zero v (Asked c) e n h = handled zero n h.0 (omega arith) (ap is_live e)
    enter_left (suc (suc k)) v (Asked c) e n h = handled (suc (suc k)) n h.0 (let l = h.0 in let m = h.1 in omega arith) (ap is_live e)
    enter_left (suc zero) v (Asked c) e n h = tt

    -- ---- Other steps

    finish_left : (phase : Phase) → (length control.stack ≡ 1) × (is_asked phase ≡ true) → TurnLeft control (finish control phase)
    finish_left (Asked c) h = let bottom = bottom_free control.stack h.0 in free _ _ refl bottom.0 bottom.1 refl
    finish_left New h = absurd (let x = h.1 in cc)
    finish_left Running h = absurd (let x = h.1 in cc)
    finish_left Calling h = absurd (let x = h.1 in cc)
    finish_left (Ended s) h = absurd (let x = h.1 in cc)
    finish_left (Trapped x) h = absurd (let y = h.1 in cc)
    finish_left Dead h = absurd (let x = h.1 in cc)

    guard_left : (phase : Phase) → control.phase ≡ phase → control.now ≡ Some Guard → guards phase ≡ true → TurnLeft control (resume_guard control phase)
    guard_left (Asked c) e n g = over _ _ refl refl refl (new_cause (Named ResumedEarly) (ap is_asked e, ap is_guard n)) (first_stays (Named ResumedEarly))
    guard_left (Trapped x) e n g = ended _ (Trapped x) e refl refl
    guard_left Dead e n g = ended _ Dead e refl refl
    guard_left New e n g = absurd (cc)
    guard_left Running e n g = absurd (cc)
    guard_left Calling e n g = absurd (cc)
    guard_left (Ended s) e n g = absurd (cc)

    leave_left : (b a : ℕ) → control.phase ≡ Running → TurnLeft control (leave_call control b a)
    leave_left zero a e = over _ _ refl refl refl (same_cause control.cause refl) (λ x c. c)
    leave_left (suc b) a e = record {
      out = refl;
      refusal = λ h. Same refl refl refl (ap is_live e);
      probing = λ h p. absurd (cc);
      cause = same_cause control.cause refl;
      stays = λ x c. c;
    }

    effect_left : (next : Context) → control.now ≡ Some next → ContextFits layout control.phase (length control.stack) next → TurnLeft control (effect layout control next)
    effect_left Program n h = tt
    effect_left (Enter k v) n h = enter_left k v control.phase refl (ap is_finish_now n) h
    effect_left (Probe i) n h = tt
    effect_left Finish n h = finish_left control.phase h
    effect_left Guard n h = guard_left control.phase refl n h.1
    effect_left (Leave b a) n h = leave_left b a h.1

    -- ---- A step that faults

    -- with two contexts saved an entry goes on
    stuck_own : (context : Context) (t : Access) → length control.stack ≡ 2 → ContextFits layout control.phase (length control.stack) context → FaultFits layout control.phase context t → IsOwnAccess layout t
    stuck_own Program t two h fits = absurd fits
    stuck_own (Enter k v) t two h fits = fits
    stuck_own (Probe i) t two h fits = absurd (let one = h.0 in omega arith)
    stuck_own Finish t two h fits = fits
    stuck_own Guard t two h fits = fits
    stuck_own (Leave b a) t two h fits = fits

    stuck_by : (b : Bool) (context : Context) (t : Access) → (cssa control == 2) ≡ b → ContextFits layout control.phase (length control.stack) context → FaultFits layout control.phase context t → access_walkable layout past t ≡ false → control.cause ≡ None → StopBy control (if b then first_cause control.cause (Named (Stuck t.page t.kind)) else control.cause)
    stuck_by true context t e h fits lost none = new_cause (Named (Stuck t.page t.kind)) (stuck_own context t (eqb-true (cssa control) 2 e) h fits, lost) none
    stuck_by false context t e h fits lost none = same_cause control.cause refl none

    stuck_stays : (b : Bool) (t : Access) (x : Cause) → control.cause ≡ Some x → (if b then first_cause control.cause (Named (Stuck t.page t.kind)) else control.cause) ≡ Some x
    stuck_stays true t x e = first_stays (Named (Stuck t.page t.kind)) x e
    stuck_stays false t x e = e

    pushed_probes : (context : Context) (t : Access) → control.now ≡ Some context → stack_probes (record { context = context; reason = Faulted t } ∷ control.stack) ≡ true → has_probing control ≡ true
    pushed_probes context t n h = subst (λ now. (probes_now now || stack_probes control.stack) ≡ true) (sym n) h

    not_finish : (last : ℕ) (context : Context) (reason : Reason) → is_past_probes last context reason ≡ false → is_finish_now (Some context) ≡ false
    not_finish last Program reason h = refl
    not_finish last (Enter k v) reason h = refl
    not_finish last (Probe i) reason h = refl
    not_finish last Finish reason h = absurd (cc)
    not_finish last Guard reason h = refl
    not_finish last (Leave b a) reason h = refl

    pushed_past : (context : Context) (t : Access) → control.now ≡ Some context → (last : ℕ) → stack_past last (record { context = context; reason = Faulted t } ∷ control.stack) ≡ false → (is_finish_now control.now ≡ false) × (stack_past last control.stack ≡ false)
    pushed_past context t n last h =
        let parts = or_parts (is_past_probes last context (Faulted t)) (stack_past last control.stack) h in
        (ap is_finish_now n ∙ not_finish last context (Faulted t) parts.0, parts.1)

    unless_left : (context : Context) (o : Option Access) → control.now ≡ Some context → ContextFits layout control.phase (length control.stack) context → first_fault layout past (accesses layout control context) ≡ o → TurnIsOrderly layout so_far (unless_fault layout control context o) → TurnLeft control (unless_fault layout control context o)
    unless_left context None n h e fits = effect_left context n h
    unless_left context (Some t) n h e fits = record {
      out = refl;
      refusal = λ l. Faults refl (record { context = context; access = t; now = n; lost = unwalkable layout past (accesses layout control context) t e; stack = refl; phase = refl });
      probing = λ a p. (refl, pushed_probes context t n p, refl, pushed_past context t n);
      cause = stuck_by (cssa control == 2) context t refl h fits.stack.0.reason (unwalkable layout past (accesses layout control context) t e);
      stays = stuck_stays (cssa control == 2) t;
    }

    runtime_left : (context : Context) → control.now ≡ Some context → ContextFits layout control.phase (length control.stack) context → TurnIsOrderly layout so_far (unless_fault layout control context (first_fault layout past (accesses layout control context))) → TurnLeft control (unless_fault layout control context (first_fault layout past (accesses layout control context)))
    runtime_left context n h fits = unless_left context (first_fault layout past (accesses layout control context)) n h refl fits

    -- ---- A turn of the program

    left_program : (exit : Exit) (reason : Reason) → control.phase ≡ Running → IsMild (newest_refusal (record { context = Program; reason = reason } ∷ control.stack)) → TurnLeft control (leave_program exit reason control)
    left_program exit reason e m = record {
      out = refl;
      refusal = λ l. Mild m;
      probing = λ a p. absurd (let x : is_asked control.phase ≡ false = ap is_asked e in cc);
      cause = same_cause control.cause refl;
      stays = λ x c. c;
    }

    vector_left : (denied : Bool) (v : ℕ) → control.phase ≡ Running → TurnLeft control (if denied then leave_program (shown_fault layout) Denied control else leave_program (Exit.Vector v) (Raised v) control)
    vector_left true v e = left_program (shown_fault layout) Denied e tt
    vector_left false v e = left_program (Exit.Vector v) (Raised v) e tt

    event_left : (x : Option Event) → control.now ≡ Some Program → control.phase ≡ Running → TurnLeft control (event_turn layout control x)
    event_left None n e = tt
    event_left (Some (Call i b a)) n e = tt
    event_left (Some (Miss i c)) n e = left_program (shown_fault layout) (Missed c) e tt
    event_left (Some (Trap i v)) n e = vector_left (v == 14) v e
    event_left (Some (Break i)) n e = record {
      out = refl;
      refusal = λ l. Breaks refl refl refl;
      probing = λ a p. absurd (let x : is_asked control.phase ≡ false = ap is_asked e in cc);
      cause = same_cause control.cause refl;
      stays = λ x c. c;
    }

    -- ---- Any turn

    turn_by : (now : Option Context) → control.now ≡ now → NowFits layout control.phase control.stack now → TurnIsOrderly layout (after_turn layout so_far control now) (turn_of layout past control now) → TurnLeft control (turn_of layout past control now)
    turn_by None n h fits = tt
    turn_by (Some Program) n h fits = event_left (due control.count control.rest) n h.1
    turn_by (Some (Enter k v)) n h fits = runtime_left (Enter k v) n h fits
    turn_by (Some (Probe i)) n h fits = runtime_left (Probe i) n h fits
    turn_by (Some Finish) n h fits = runtime_left Finish n h fits
    turn_by (Some Guard) n h fits = runtime_left Guard n h fits
    turn_by (Some (Leave b a)) n h fits = runtime_left (Leave b a) n h fits

    pub turn_left : ClustersFit layout → TurnLeft control (turn layout past control)
    turn_left fit = turn_by control.now refl orderly.now (turn_fits layout so_far fit past control orderly)
