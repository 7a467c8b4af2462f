-- One processor at most is inside, and a context goes on just where one is.
use Rattle.std.proofs.Common.{◌≡◌, ◌⊎◌, inl, inr, ℕ, zero, suc, ◌+◌, ◌<◌, List, [], ◌∷◌, length, refl, ap, sym, ◌∙◌, subst}
use Rattle.std.specs.Prelude.{Bool, true, false, All, if◌then◌else◌, Option, Some, None, is_some, nat_lt, ◌==◌}
use Rattle.std.proofs.lemmas.Bool.{eq-eqb, eqb-true, ltb-true}
use Rattle.std.proofs.lemmas.List.Elements.{All-nil, All-cons}
use Rattle.ak_core.specs.Layout.{Layout}
use Rattle.ak_core.specs.Mem.{Access}
use Rattle.ak_core.specs.declared.event.Event.{Event}
use Rattle.ak_core.specs.declared.event.Event.TheVariants.{Call, Miss, Trap, Break}
use Rattle.ak_core.specs.declared.moves.Exit.{Exit}
use Rattle.ak_core.specs.declared.moves.Exit.TheVariants.{Still}
use Rattle.ak_model.specs.Paging.Histories.{History, Change, Unchanged, Enters, Resumes, Exits, Interrupts, if_left}
use Rattle.ak_model.specs.Paging.Inside.{since, since_after, inside, someone_inside}
use Rattle.ak_model.specs.Control.ControlState.{Phase, New, Running, Calling, Asked, Ended, Trapped, Dead, Context, Program, Enter, Probe, Finish, Guard, Leave, Reason, Interrupted, Cleared, Raised, Denied, Missed, Broke, Faulted, Saved, Control}
use Rattle.ak_model.specs.Control.OneTurn.{Turn, Goes, Leaves}
use Rattle.ak_model.specs.Control.RuntimeTurn.{asked_pages, accesses, first_fault, handle, enter, finish, resume_guard, leave_call, effect, unless_fault}
use Rattle.ak_model.specs.Control.EventTurn.{due, event_turn}
use Rattle.ak_model.specs.Control.Runs.{turn_of, turn, Ran, go_on, run, unless_left, before_turns}
use Rattle.ak_model.specs.Control.Entering.{entered, resumed_by, interrupted_by}
use Rattle.ak_model.proofs.Paging.Tests.{either_way}
use Rattle.ak_model.proofs.Paging.SomeoneInside.{entered_someone, resumed_someone, is_someone}
use Rattle.ak_model.proofs.Paging.Readings.{Reading, reading, someone_then}

-- the processor is still inside
abbrev is_still : Exit → Bool
is_still Still = true
is_still _ = false

-- a turn goes on with a context, or leaves
abbrev TurnPresent : Turn → Type 0
TurnPresent (Goes control) = is_some control.now ≡ true
TurnPresent (Leaves exit control) = (is_still exit ≡ false) × (is_some control.now ≡ false)

module _ (layout : Layout) where
  module _ (control : Control) (some : is_some control.now ≡ true) where
    by_reason : (k : ℕ) (inner : Context) (reason : Reason) (older : List Saved) → TurnPresent (handle layout control k (record { context = inner; reason = reason } ∷ older))
    by_reason k inner Interrupted older = (refl, refl)
    by_reason k inner Cleared older = (refl, refl)
    by_reason k inner (Raised v) older = (refl, refl)
    by_reason k inner Denied older = (refl, refl)
    by_reason k inner Broke older = (refl, refl)
    by_reason k inner (Missed c) older = (refl, refl)
    by_reason k inner (Faulted t) older = either_way TurnPresent (k == 2) _ _ (refl, refl) (refl, refl)

    handled : (k : ℕ) (stack : List Saved) → TurnPresent (handle layout control k stack)
    handled k [] = (refl, refl)
    handled k (saved ∷ older) = by_reason k saved.context saved.reason older

    enter_present : (k v : ℕ) (phase : Phase) → TurnPresent (enter layout control k v phase)
    enter_present k v (Ended s) = (refl, refl)
    enter_present k v (Trapped x) = (refl, refl)
    enter_present k v Dead = (refl, refl)
    enter_present k v Running = handled k control.stack
    enter_present zero v New = refl
    enter_present (suc k) v New = handled (suc k) control.stack
    enter_present zero v Calling = refl
    enter_present (suc k) v Calling = handled (suc k) control.stack
    enter_present zero v (Asked c) = handled zero control.stack
    enter_present (suc (suc k)) v (Asked c) = handled (suc (suc k)) control.stack
    enter_present (suc zero) v (Asked c) = refl

    finish_present : (phase : Phase) → TurnPresent (finish control phase)
    finish_present (Asked c) = (refl, refl)
    finish_present New = (refl, refl)
    finish_present Running = (refl, refl)
    finish_present Calling = (refl, refl)
    finish_present (Ended s) = (refl, refl)
    finish_present (Trapped x) = (refl, refl)
    finish_present Dead = (refl, refl)

    guard_present : (phase : Phase) → TurnPresent (resume_guard control phase)
    guard_present (Asked c) = (refl, refl)
    guard_present New = (refl, refl)
    guard_present Running = (refl, refl)
    guard_present Calling = (refl, refl)
    guard_present (Ended s) = (refl, refl)
    guard_present (Trapped x) = (refl, refl)
    guard_present Dead = (refl, refl)

    leave_present : (b a : ℕ) → TurnPresent (leave_call control b a)
    leave_present zero a = (refl, refl)
    leave_present (suc b) a = (refl, refl)

    probed : (b : Bool) (i : ℕ) → is_some (if b then Some Finish else Some (Probe i)) ≡ true
    probed true i = refl
    probed false i = refl

    effect_present : (context : Context) → TurnPresent (effect layout control context)
    effect_present Program = some
    effect_present (Enter k v) = enter_present k v control.phase
    effect_present (Probe i) = probed (suc i == length (asked_pages layout control.phase)) (suc i)
    effect_present Finish = finish_present control.phase
    effect_present Guard = guard_present control.phase
    effect_present (Leave b a) = leave_present b a

    fault_present : (context : Context) (o : Option Access) → TurnPresent (unless_fault layout control context o)
    fault_present context None = effect_present context
    fault_present context (Some t) = (refl, refl)

    event_present : (x : Option Event) → TurnPresent (event_turn layout control x)
    event_present None = some
    event_present (Some (Call i b a)) = refl
    event_present (Some (Miss i c)) = (refl, refl)
    event_present (Some (Break i)) = (refl, refl)
    event_present (Some (Trap i v)) = either_way TurnPresent (v == 14) _ _ (refl, refl) (refl, refl)

    turn_by : (past : History) (now : Option Context) → TurnPresent (turn_of layout past control now)
    turn_by past None = some
    turn_by past (Some Program) = event_present (due control.count control.rest)
    turn_by past (Some (Enter k v)) = fault_present (Enter k v) (first_fault layout past (accesses layout control (Enter k v)))
    turn_by past (Some (Probe i)) = fault_present (Probe i) (first_fault layout past (accesses layout control (Probe i)))
    turn_by past (Some Finish) = fault_present Finish (first_fault layout past (accesses layout control Finish))
    turn_by past (Some Guard) = fault_present Guard (first_fault layout past (accesses layout control Guard))
    turn_by past (Some (Leave b a)) = fault_present (Leave b a) (first_fault layout past (accesses layout control (Leave b a)))

  -- ---- A run

  abbrev RanPresent : Ran → Type 0
  RanPresent ran = ((ran.exit ≡ Still) × (is_some ran.control.now ≡ true)) ⊎ ((is_still ran.exit ≡ false) × (is_some ran.control.now ≡ false))

  -- a context goes on
  abbrev HasContext : Control → Type 0
  HasContext control = is_some control.now ≡ true

  abbrev RunPresent : History → ℕ → Control → Type 0
  RunPresent past n control = RanPresent (run layout past n control) × All HasContext (before_turns layout past n control)

  go_present : (past : History) (n : ℕ) (t : Turn) → TurnPresent t → ((control : Control) → HasContext control → RunPresent past n control) → RanPresent (go_on t (run layout past n)) × All HasContext (unless_left t (before_turns layout past n))
  go_present past n (Goes next) h later = later next h
  go_present past n (Leaves exit next) h later = (inr h, All-nil HasContext)

  pub run_present : (past : History) (n : ℕ) (control : Control) → HasContext control → RunPresent past n control
  run_present past zero control some = (inl (refl, some), All-nil HasContext)
  run_present past (suc n) control some =
      let on = go_present past n (turn layout past control) (turn_by control some past control.now) (run_present past n) in
      (on.0, All-cons HasContext control (unless_left (turn layout past control) (before_turns layout past n)) some on.1)

  -- ---- A move

  -- one processor at most, and a context where there is one
  pub record Present (inside : ℕ → Bool) (someone : Bool) (control : Control) : Type 0 where
    pub alone : (p q : ℕ) → inside p ≡ true → inside q ≡ true → p ≡ q
    pub context : (p : ℕ) → inside p ≡ true → is_some control.now ≡ true
    pub someone_is : is_some control.now ≡ true → someone ≡ true

  module _ (past : History) (control : Control) (low : (p : ℕ) → inside past p ≡ true → nat_lt p layout.lps ≡ true) (old : Present (inside past) (someone_inside layout past) control) where
    -- what stands after a move that this is read of
    abbrev pub After : Reading → Control → Type 0
    After change next = Present (λ p. is_some (change.since p (length past + 1) (since past p))) (someone_then layout past change) next

    -- where nobody was inside, only the processor that enters is
    only : (lp q place : ℕ) (b : Bool) → (q == lp) ≡ b → someone_inside layout past ≡ false → is_some (if b then Some place else since past q) ≡ true → q ≡ lp
    only lp q place true e out h = eqb-true q lp e
    only lp q place false e out h = absurd (let x = is_someone layout past q (ltb-true q layout.lps (low q h)) h in cc)

    comes : (lp : ℕ) (next : Control) (c : Change) → ((q : ℕ) → since_after c q (length past + 1) (since past q) ≡ (if q == lp then Some (length past + 1) else since past q)) → someone_inside layout past ≡ false → is_some next.now ≡ true → someone_then layout past (reading c) ≡ true → After (reading c) next
    comes lp next c e out some there = record {
      alone = λ p q h k. at p h ∙ sym (at q k);
      context = λ p h. some;
      someone_is = λ h. there;
    }
      where
        at : (q : ℕ) → is_some (since_after c q (length past + 1) (since past q)) ≡ true → q ≡ lp
        at q h = only lp q (length past + 1) (q == lp) refl out (subst (λ o. is_some o ≡ true) (e q) h)

    pub enters : (lp v : ℕ) → lp < layout.lps → someone_inside layout past ≡ false → After (reading (Enters lp v)) (entered control v)
    enters lp v there out = comes lp (entered control v) (Enters lp v) (λ q. refl) out refl (entered_someone layout past lp v there)

    pub resumes : (lp : ℕ) (saved : Saved) (rest : List Saved) → lp < layout.lps → someone_inside layout past ≡ false → After (reading (Resumes lp)) (resumed_by control (saved ∷ rest))
    resumes lp saved rest there out = comes lp (resumed_by control (saved ∷ rest)) (Resumes lp) (λ q. refl) out refl (resumed_someone layout past lp there)

    -- nobody is left inside
    nobody : (lp q : ℕ) (b : Bool) → (q == lp) ≡ b → inside past lp ≡ true → is_some (if b then None else since past q) ≡ true → ⊥
    nobody lp q true e h k = cc
    nobody lp q false e h k =
        let same : q ≡ lp = old.alone q lp k h in
        let x : (q == lp) ≡ true = eq-eqb q lp same in cc

    goes : (lp : ℕ) (next : Control) (c : Change) → ((q : ℕ) → since_after c q (length past + 1) (since past q) ≡ (if q == lp then None else since past q)) → inside past lp ≡ true → is_some next.now ≡ false → After (reading c) next
    goes lp next c e h out = record {
      alone = λ p q x y. absurd (none p x);
      context = λ p x. absurd (none p x);
      someone_is = λ x. absurd (cc);
    }
      where
        none : (q : ℕ) → is_some (since_after c q (length past + 1) (since past q)) ≡ true → ⊥
        none q x = nobody lp q (q == lp) refl h (subst (λ o. is_some o ≡ true) (e q) x)

    saved_now : (now : Option Context) → control.now ≡ now → is_some (interrupted_by control now).now ≡ false
    saved_now None e = ap is_some e
    saved_now (Some context) e = refl

    pub interrupts : (lp : ℕ) → inside past lp ≡ true → After (reading (Interrupts lp)) (interrupted_by control control.now)
    interrupts lp e = goes lp (interrupted_by control control.now) (Interrupts lp) (λ q. refl) e (saved_now control.now refl)

    left : (lp : ℕ) (exit : Exit) (next : Control) → is_still exit ≡ false → inside past lp ≡ true → is_some next.now ≡ false → After (reading (if_left exit (Exits lp exit))) next
    left lp Still next s h n = absurd (cc)
    left lp exit next s h n = goes lp next (Exits lp exit) (λ q. refl) h n

    stays : (next : Control) → is_some next.now ≡ true → is_some control.now ≡ true → After (reading Unchanged) next
    stays next some had = record { alone = old.alone; context = λ p h. some; someone_is = λ h. old.someone_is had }

    ran_after : (lp : ℕ) (ran : Ran) → inside past lp ≡ true → RanPresent ran → After (reading (if_left ran.exit (Exits lp ran.exit))) ran.control
    ran_after lp ran h r =
        elim r [
          | inl s ↦ subst (λ exit. After (reading (if_left exit (Exits lp exit))) ran.control) (sym s.0) (stays ran.control s.1 (old.context lp h))
          | inr f ↦ left lp ran.exit ran.control f.0 h f.1
        ]

    pub runs : (lp n : ℕ) → inside past lp ≡ true → (let ran = run layout past n control in After (reading (if_left ran.exit (Exits lp ran.exit))) ran.control)
    runs lp n e = ran_after lp (run layout past n control) e (run_present past n control (old.context lp e)).0
