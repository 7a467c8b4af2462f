-- As many values were returned as calls were made, but one while an answer is owed: kept by each turn.
use Rattle.std.proofs.Common.{◌≡◌, inl, inr, ℕ, zero, suc, ◌+◌, List, [], ◌∷◌, ◌++◌, length, refl, ap, sym, ◌∙◌, subst, arith}
use Rattle.std.proofs.lemmas.List.{length-append}
use Rattle.std.specs.Prelude.{Bool, true, false, Option, Some, None, ◌==◌, if◌then◌else◌}
use Rattle.ak_core.specs.Layout.{Layout}
use Rattle.ak_model.specs.Control.ControlState.{Phase, New, Running, Calling, Asked, Ended, Trapped, Dead, Context, Program, Probe, Finish, Reason, Interrupted, Cleared, Raised, Denied, Missed, Broke, Faulted, Saved, Control}
use Rattle.ak_model.specs.Control.OneTurn.{Turn}
use Rattle.ak_model.specs.Control.RuntimeTurn.{program_at_bottom, handle, enter, finish, resume_guard, leave_call}
use Rattle.ak_model.specs.Laws.Orderly.{ContextFits, SavedFits, StackFits}
use Rattle.ak_model.specs.Laws.OwedAnswers.{Owing, Settled, Owed, Unknown, oldest, owing_running, owing_by, owing}
use Rattle.ak_model.specs.Laws.Calls.{IsReturned, IsAnswered, TurnIsAnswered}

-- ---- What is owed

-- a context is saved: the oldest one stays
pub oldest_saved : (stack : List Saved) (context : Context) (reason : Reason) → oldest (record { context = context; reason = reason } ∷ stack) None ≡ oldest stack (Some context)
oldest_saved [] context reason = refl
oldest_saved (saved ∷ older) context reason = same older
  where
    same : (older : List Saved) → oldest (saved ∷ older) None ≡ oldest (saved ∷ older) (Some context)
    same [] = refl
    same (next ∷ older) = deeper next older
      where
        deeper : (next : Saved) (older : List Saved) → oldest (next ∷ older) None ≡ oldest (next ∷ older) (Some context)
        deeper next [] = refl
        deeper next (last ∷ older) = deeper last older

-- with something saved it does not matter what is inside
pub oldest_any : (saved : Saved) (older : List Saved) (now next : Option Context) → oldest (saved ∷ older) now ≡ oldest (saved ∷ older) next
oldest_any saved [] now next = refl
oldest_any saved (deeper ∷ older) now next = oldest_any deeper older now next

-- the context inside is no call
abbrev pub IsNoCall : Option Context → Type 0
IsNoCall now = owing_running now ≡ Settled

-- another context inside, where neither is a call
pub other_now : (phase : Phase) (stack : List Saved) (now next : Option Context) → IsNoCall now → IsNoCall next → owing_by phase (oldest stack now) ≡ owing_by phase (oldest stack next)
other_now Running [] now next h k = h ∙ sym k
other_now New [] now next h k = refl
other_now Calling [] now next h k = refl
other_now (Asked c) [] now next h k = refl
other_now (Ended s) [] now next h k = refl
other_now (Trapped v) [] now next h k = refl
other_now Dead [] now next h k = refl
other_now phase (saved ∷ older) now next h k = ap (owing_by phase) (oldest_any saved older now next)

-- nothing is known of a dead enclave's last call
dead : (o : Owing) (calls values : ℕ) → IsReturned o calls values → IsReturned Unknown calls values
dead Settled calls values h = inl h
dead Owed calls values h = inr h
dead Unknown calls values h = h

bottom : (stack : List Saved) → owing_running (oldest (program_at_bottom stack) None) ≡ Settled
bottom [] = refl
bottom (saved ∷ []) = refl
bottom (saved ∷ next ∷ older) = top saved next older (bottom (next ∷ older))
  where
    top : (saved next : Saved) (older : List Saved) → owing_running (oldest (program_at_bottom (next ∷ older)) None) ≡ Settled →
        owing_running (oldest (saved ∷ program_at_bottom (next ∷ older)) None) ≡ Settled
    top saved next [] h = h
    top saved next (last ∷ older) h = h

-- ---- Steps of the runtime

module _ (layout : Layout) (control : Control) (calls : ℕ) (old : IsAnswered calls control) where
  -- where what is owed stays
  pub same : (next : Control) → owing control ≡ owing next → next.returned ≡ control.returned → IsAnswered calls next
  same next o r = record {
    returned = subst (λ x. IsReturned x calls (length next.returned)) o (subst (λ l. IsReturned (owing control) calls (length l)) (sym r) old.returned);
  }

  gone : IsNoCall control.now → IsAnswered calls (record control { now = None })
  gone h = same (record control { now = None }) (other_now control.phase control.stack control.now None h refl) refl

  dies : (next : Control) → owing next ≡ Unknown → next.returned ≡ control.returned → IsAnswered calls next
  dies next o r = record {
    returned = subst (λ x. IsReturned x calls (length next.returned)) (sym o)
        (subst (λ l. IsReturned Unknown calls (length l)) (sym r) (dead (owing control) calls (length control.returned) old.returned));
  }

  -- either of two turns
  pub either : (b : Bool) (t u : Turn) → TurnIsAnswered calls t → TurnIsAnswered calls u → TurnIsAnswered calls (if b then t else u)
  either true t u h k = h
  either false t u h k = k

  -- the program stands alone in the stack
  alone : (older : List Saved) (reason : Reason) → control.stack ≡ record { context = Program; reason = reason } ∷ older → length older ≡ 0 → control.phase ≡ Running → owing control ≡ Settled
  alone [] reason e none running = ap (λ s. owing_by control.phase (oldest s control.now)) e ∙ ap (λ p. owing_by p (Some Program)) running
  alone (next ∷ older) reason e none running = absurd (omega arith)

  by_reason : (k : ℕ) (inner : Context) (reason : Reason) (older : List Saved) → control.stack ≡ record { context = inner; reason = reason } ∷ older → IsNoCall control.now →
      SavedFits layout control.phase control.queue (length older) (record { context = inner; reason = reason }) →
      TurnIsAnswered calls (handle layout control k (record { context = inner; reason = reason } ∷ older))
  by_reason k inner Interrupted older e h fits = gone h
  by_reason k inner Cleared older e h fits = gone h
  by_reason k inner Broke older e h fits = dies _ refl refl
  by_reason k inner (Faulted t) older e h fits = either (k == 2) _ _ (dies _ refl refl) (dies _ refl refl)
  by_reason k inner (Raised v) older e h fits =
      let inside = subst (λ c. ContextFits layout control.phase (length older) c) fits.reason fits.context in
      same _ (alone older (Raised v) (e ∙ ap (λ (c : Context). record { context = c; reason = Raised v } ∷ older) fits.reason) inside.0 inside.1) refl
  by_reason k inner Denied older e h fits =
      let inside = subst (λ c. ContextFits layout control.phase (length older) c) fits.reason fits.context in
      same _ (alone older Denied (e ∙ ap (λ (c : Context). record { context = c; reason = Denied } ∷ older) fits.reason) inside.0 inside.1) refl
  by_reason k inner (Missed c) older e h fits =
      let is = fits.reason in
      let inside = subst (λ c. ContextFits layout control.phase (length older) c) is.0 fits.context in
      same _ (alone older (Missed c) (e ∙ ap (λ (x : Context). record { context = x; reason = Missed c } ∷ older) is.0) inside.0 inside.1) refl

  handled : (k : ℕ) (stack : List Saved) → control.stack ≡ stack → IsNoCall control.now → StackFits layout control.phase control.queue stack →
      TurnIsAnswered calls (handle layout control k stack)
  handled k [] e h fits = gone h
  handled k (saved ∷ older) e h fits = by_reason k saved.context saved.reason older e h fits.0

  -- with nothing saved
  pub empty : (stack : List Saved) → length stack ≡ 0 → stack ≡ []
  empty [] h = refl
  empty (saved ∷ older) h = absurd (omega arith)

  module _ (fits : StackFits layout control.phase control.queue control.stack) where
    -- an entry step
    pub entered : (k v : ℕ) (phase : Phase) → control.phase ≡ phase → IsNoCall control.now → k ≡ length control.stack → TurnIsAnswered calls (enter layout control k v phase)
    entered k v (Ended s) e h d = gone h
    entered k v (Trapped x) e h d = gone h
    entered k v Dead e h d = gone h
    entered k v Running e h d = handled k control.stack refl h fits
    entered zero v New e h d =
        let none = empty control.stack (sym d) in
        same _ (ap (λ p. owing_by p (oldest control.stack control.now)) e ∙ sym (ap (λ s. owing_by Running (oldest s (Some Program))) none)) refl
    entered (suc k) v New e h d = handled (suc k) control.stack refl h fits
    entered zero v Calling e h d =
        let none = empty control.stack (sym d) in
        let owed : calls ≡ length control.returned + 1 = subst (λ p. IsReturned (owing_by p (oldest control.stack control.now)) calls (length control.returned)) e old.returned in
        record {
          returned = subst (λ s. IsReturned (owing_by Running (oldest s (Some Program))) calls (length (control.returned ++ v ∷ []))) (sym none)
              (owed ∙ sym (length-append control.returned (v ∷ [])));
        }
    entered (suc k) v Calling e h d = handled (suc k) control.stack refl h fits
    entered zero v (Asked c) e h d = handled zero control.stack refl h fits
    entered (suc zero) v (Asked c) e h d = same _ (other_now control.phase control.stack control.now (Some (Probe 0)) h refl) refl
    entered (suc (suc k)) v (Asked c) e h d = handled (suc (suc k)) control.stack refl h fits

  -- a probe
  pub probed : (i : ℕ) (b : Bool) → IsNoCall control.now → IsAnswered calls (record control { now = if b then Some Finish else Some (Probe (suc i)) })
  probed i true h = same _ (other_now control.phase control.stack control.now (Some Finish) h refl) refl
  probed i false h = same _ (other_now control.phase control.stack control.now (Some (Probe (suc i))) h refl) refl

  -- the end of the probes
  pub finished : (phase : Phase) → control.phase ≡ phase → IsNoCall control.now → TurnIsAnswered calls (finish control phase)
  finished (Asked c) e h = same _ (ap (λ p. owing_by p (oldest control.stack control.now)) e ∙ sym (bottom control.stack)) refl
  finished New e h = gone h
  finished Running e h = gone h
  finished Calling e h = gone h
  finished (Ended s) e h = gone h
  finished (Trapped v) e h = gone h
  finished Dead e h = gone h

  -- the guard
  pub guarded_on : (phase : Phase) → control.phase ≡ phase → IsNoCall control.now → TurnIsAnswered calls (resume_guard control phase)
  guarded_on (Asked c) e h = dies _ refl refl
  guarded_on (Trapped v) e h = gone h
  guarded_on New e h = gone h
  guarded_on Running e h = gone h
  guarded_on Calling e h = gone h
  guarded_on (Ended s) e h = gone h
  guarded_on Dead e h = gone h

  -- a call leaves
  pub left : (b a : ℕ) → owing control ≡ Owed → TurnIsAnswered calls (leave_call control b a)
  left zero s o = same _ o refl
  left (suc b) a o = same _ o refl
