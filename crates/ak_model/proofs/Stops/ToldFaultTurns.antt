-- What stands behind the move to blame: one turn, and a run.
use Rattle.std.proofs.Common.{◌≡◌, ℕ, zero, suc, List, [], ◌∷◌, ◌++◌, append_assoc, length, arith, refl, ap, sym, ◌∙◌, subst}
use Rattle.std.specs.Prelude.{Bool, true, false, reverse, if◌then◌else◌, Option, Some, None, ◌==◌}
use Rattle.std.proofs.lemmas.List.{reverse-append}
use Rattle.ak_core.specs.Layout.{Layout}
use Rattle.ak_core.specs.Mem.{Access}
use Rattle.ak_core.specs.declared.moves.Exit.{Exit}
use Rattle.ak_core.specs.declared.event.Event.{Event}
use Rattle.ak_core.specs.declared.event.Event.TheVariants.{Call, Miss, Trap, Break}
use Rattle.ak_model.specs.Paging.Histories.{History}
use Rattle.ak_model.specs.Paging.Walk.{access_walkable}
use Rattle.ak_model.specs.Control.ControlState.{Phase, New, Running, Calling, Asked, Ended, Trapped, Dead, Context, Program, Enter, Probe, Finish, Guard, Leave, Reason, Interrupted, Cleared, Raised, Denied, Missed, Broke, Faulted, Saved, Control}
use Rattle.ak_model.specs.Control.OneTurn.{Turn, Goes, Leaves}
use Rattle.ak_model.specs.Control.RuntimeTurn.{asked_pages, accesses, first_fault, guard_top, program_at_bottom, shown_fault, handle, enter, finish, resume_guard, leave_call, effect, unless_fault, runtime_turn}
use Rattle.ak_model.specs.Control.EventTurn.{due, leave_program, event_turn}
use Rattle.ak_model.specs.Control.Runs.{turn_of, turn, Ran, go_on, run, unless_left, before_turns}
use Rattle.ak_model.specs.Tapes.ProgramTurns.{ProgramTurn, turn_in, turns_in, turns_of_run}
use Rattle.ak_model.specs.Stops.Blame.{is_fault}
use Rattle.ak_model.specs.Laws.ToldFault.{newest_refusal, FaultStands, is_guard, FaultIsTold}
use Rattle.ak_model.specs.Laws.Orderly.{ContextFits, NowFits, SavedFits, StackFits, is_live, IsOrderly, TurnIsOrderly, after_turn}
use Rattle.ak_model.proofs.Control.Unwalkable.{unwalkable}
use Rattle.ak_model.proofs.Paging.Tests.{either_way}
use Rattle.ak_model.proofs.Control.OrderlySteps.{ClustersFit}
use Rattle.ak_model.proofs.Control.OrderlyTurns.{turn_fits}

module _ (layout : Layout) (past : History) (resumed : ℕ) where
  abbrev pub TurnStands : History → List ProgramTurn → Turn → Type 0
  TurnStands before turns (Goes control) = FaultIsTold layout before resumed turns control
  TurnStands before turns (Leaves exit control) = FaultIsTold layout (if is_fault exit then past else before) resumed turns control

  module _ (so_far : List ℕ) (before : History) (turns : List ProgramTurn) (control : Control) (orderly : IsOrderly layout so_far true control) (old : FaultIsTold layout before resumed turns control) (context : Context) (is_now : control.now ≡ Some context) where
    -- the runtime leaves and nothing else changes
    gone : FaultIsTold layout before resumed turns (record control { now = None })
    gone = record { fault = old.fault; guard = λ h. absurd (cc) }

    -- the stack stays
    stays : (next : Control) → next.stack ≡ control.stack → (is_live next.phase ≡ true → is_live control.phase ≡ true) → (is_guard next.now ≡ true → is_guard control.now ≡ true) → FaultIsTold layout before resumed turns next
    stays next s l g = record { fault = λ h. subst (λ stack. FaultStands layout before turns (newest_refusal stack)) (sym s) (old.fault (l h)); guard = λ h. old.guard (g h) }

    -- the program does not go on
    over : (next : Control) → is_live next.phase ≡ false → is_guard next.now ≡ false → FaultIsTold layout before resumed turns next
    over next l g = record { fault = λ h. absurd (cc); guard = λ h. absurd (cc) }

    -- nothing refuses to resume
    free : (next : Control) → newest_refusal next.stack ≡ None → is_guard next.now ≡ false → FaultIsTold layout before resumed turns next
    free next r g = record { fault = λ h. subst (FaultStands layout before turns) (sym r) tt; guard = λ h. absurd (cc) }

    top_free : (stack : List Saved) → length stack ≡ 1 → newest_refusal (guard_top stack) ≡ None
    top_free [] h = absurd (omega arith)
    top_free (saved ∷ []) h = refl
    top_free (saved ∷ next ∷ older) h = absurd (omega arith)

    bottom_free : (stack : List Saved) → length stack ≡ 1 → newest_refusal (program_at_bottom stack) ≡ None
    bottom_free [] h = absurd (omega arith)
    bottom_free (saved ∷ []) h = refl
    bottom_free (saved ∷ next ∷ older) h = absurd (omega arith)

    by_reason : (k : ℕ) (inner : Context) (reason : Reason) (older : List Saved) → control.stack ≡ record { context = inner; reason = reason } ∷ older → SavedFits layout control.phase control.queue (length older) (record { context = inner; reason = reason }) → TurnStands before turns (handle layout control k (record { context = inner; reason = reason } ∷ older))
    by_reason k inner Interrupted older e h = gone
    by_reason k inner Cleared older e h = gone
    by_reason k inner (Raised v) older e h = over _ refl refl
    by_reason k inner Denied older e h = over _ refl refl
    by_reason k inner Broke older e h = over _ refl refl
    by_reason k inner (Faulted t) older e h = either_way (TurnStands before turns) (k == 2) _ _ (over _ refl refl) (over _ refl refl)
    by_reason k inner (Missed c) older e h =
        let fits : ContextFits layout control.phase (length older) Program = subst (ContextFits layout control.phase (length older)) h.reason.0 h.context in
        free _ (top_free control.stack (ap length e ∙ ap suc fits.0)) refl

    handled_by : (k : ℕ) (stack : List Saved) → control.stack ≡ stack → StackFits layout control.phase control.queue stack → TurnStands before turns (handle layout control k stack)
    handled_by k [] e h = gone
    handled_by k (saved ∷ older) e h = by_reason k saved.context saved.reason older e h.0

    handled : (k : ℕ) → TurnStands before turns (handle layout control k control.stack)
    handled k = handled_by k control.stack refl orderly.stack

    enter_stands : (k v : ℕ) (phase : Phase) → control.phase ≡ phase → TurnStands before turns (enter layout control k v phase)
    enter_stands k v (Ended s) e = gone
    enter_stands k v (Trapped x) e = gone
    enter_stands k v Dead e = gone
    enter_stands k v Running e = handled k
    enter_stands zero v New e = stays _ refl (λ h. ap is_live e) (λ h. absurd (cc))
    enter_stands (suc k) v New e = handled (suc k)
    enter_stands zero v Calling e = stays _ refl (λ h. ap is_live e) (λ h. absurd (cc))
    enter_stands (suc k) v Calling e = handled (suc k)
    enter_stands zero v (Asked c) e = handled zero
    enter_stands (suc (suc k)) v (Asked c) e = handled (suc (suc k))
    enter_stands (suc zero) v (Asked c) e = stays _ refl (λ h. h) (λ h. absurd (cc))

    probe_stands : (i : ℕ) (last : Bool) → FaultIsTold layout before resumed turns (record control { now = if last then Some Finish else Some (Probe (suc i)) })
    probe_stands i true = stays _ refl (λ h. h) (λ h. absurd (cc))
    probe_stands i false = stays _ refl (λ h. h) (λ h. absurd (cc))

    finish_stands : (phase : Phase) → length control.stack ≡ 1 → TurnStands before turns (finish control phase)
    finish_stands (Asked c) one = free _ (bottom_free control.stack one) refl
    finish_stands New one = gone
    finish_stands Running one = gone
    finish_stands Calling one = gone
    finish_stands (Ended s) one = gone
    finish_stands (Trapped x) one = gone
    finish_stands Dead one = gone

    guard_stands : (phase : Phase) → TurnStands before turns (resume_guard control phase)
    guard_stands (Asked c) = over _ refl refl
    guard_stands New = gone
    guard_stands Running = gone
    guard_stands Calling = gone
    guard_stands (Ended s) = gone
    guard_stands (Trapped x) = gone
    guard_stands Dead = gone

    leave_stands : (b a : ℕ) → control.phase ≡ Running → TurnStands before turns (leave_call control b a)
    leave_stands zero a e = over _ refl refl
    leave_stands (suc b) a e = stays _ refl (λ h. ap is_live e) (λ h. absurd (cc))

    effect_stands : (next : Context) → ContextFits layout control.phase (length control.stack) next → TurnStands before turns (effect layout control next)
    effect_stands Program h = old
    effect_stands (Enter k v) h = enter_stands k v control.phase refl
    effect_stands (Probe i) h = probe_stands i (suc i == length (asked_pages layout control.phase))
    effect_stands Finish h = finish_stands control.phase h.0
    effect_stands Guard h = guard_stands control.phase
    effect_stands (Leave b a) h = leave_stands b a h.1

    -- ---- A step that faults

    unless_stands : (next : Context) (o : Option Access) → ContextFits layout control.phase (length control.stack) next → ((t : Access) → o ≡ Some t → access_walkable layout past t ≡ false) → TurnStands before turns (unless_fault layout control next o)
    unless_stands next None h at = effect_stands next h
    unless_stands next (Some t) h at = record { fault = λ l. at t refl; guard = λ g. absurd (cc) }

    runtime_stands : (next : Context) → ContextFits layout control.phase (length control.stack) next → TurnStands before turns (runtime_turn layout past control next)
    runtime_stands next h =
        unless_stands next (first_fault layout past (accesses layout control next)) h
        (unwalkable layout past (accesses layout control next))

    -- ---- A turn of the program

    module _ (none : length control.stack ≡ 0) (program : is_guard control.now ≡ false) (lp count : ℕ) where
      no_refusal : (stack : List Saved) → length stack ≡ 0 → newest_refusal stack ≡ None
      no_refusal [] h = refl
      no_refusal (saved ∷ older) h = absurd (omega arith)

      goes_on : (all : List ProgramTurn) (next : Control) → next.stack ≡ control.stack → is_guard next.now ≡ false → FaultIsTold layout before resumed all next
      goes_on all next e g = record {
        fault = λ l. subst (FaultStands layout before all) (sym (ap newest_refusal e ∙ no_refusal control.stack none)) tt;
        guard = λ h. absurd (cc);
      }

      vector_stands : (all : List ProgramTurn) (denied : Bool) (v : ℕ) → TurnStands before all (if denied then leave_program (shown_fault layout) Denied control else leave_program (Exit.Vector v) (Raised v) control)
      vector_stands all true v = record { fault = λ l. tt; guard = λ h. absurd (cc) }
      vector_stands all false v = record { fault = λ l. tt; guard = λ h. absurd (cc) }

      event_stands : (x : Option Event) → TurnStands before (record { lp = lp; past = past; count = count; event = x } ∷ turns) (event_turn layout control x)
      event_stands None = goes_on _ _ refl program
      event_stands (Some (Call i b a)) = goes_on _ _ refl refl
      event_stands (Some (Miss i c)) = record { fault = λ l. tt; guard = λ h. absurd (cc) }
      event_stands (Some (Break i)) = record { fault = λ l. (refl, refl); guard = λ h. absurd (cc) }
      event_stands (Some (Trap i v)) = vector_stands _ (v == 14) v

  -- ---- A run

  module _ (fit : ClustersFit layout) (lp : ℕ) where
    turn_by : (so_far : List ℕ) (before : History) (turns : List ProgramTurn) (control : Control) → IsOrderly layout so_far true control → FaultIsTold layout before resumed turns control → (now : Option Context) → control.now ≡ now → NowFits layout control.phase control.stack now → TurnStands before (reverse (turn_in lp past control now) ++ turns) (turn_of layout past control now)
    turn_by so_far before turns control orderly old None n h = old
    turn_by so_far before turns control orderly old (Some Program) n h = event_stands so_far before turns control orderly old Program n h.0 (ap is_guard n) lp control.count (due control.count control.rest)
    turn_by so_far before turns control orderly old (Some (Enter k v)) n h = runtime_stands so_far before turns control orderly old (Enter k v) n (Enter k v) h
    turn_by so_far before turns control orderly old (Some (Probe i)) n h = runtime_stands so_far before turns control orderly old (Probe i) n (Probe i) h
    turn_by so_far before turns control orderly old (Some Finish) n h = runtime_stands so_far before turns control orderly old Finish n Finish h
    turn_by so_far before turns control orderly old (Some Guard) n h = runtime_stands so_far before turns control orderly old Guard n Guard h
    turn_by so_far before turns control orderly old (Some (Leave b a)) n h = runtime_stands so_far before turns control orderly old (Leave b a) n (Leave b a) h

    abbrev pub RanStands : History → List ProgramTurn → Ran → Type 0
    RanStands before turns ran = FaultIsTold layout (if is_fault ran.exit then past else before) resumed turns ran.control

    go_stands : (before : History) (turns : List ProgramTurn) (n : ℕ) (so_far : List ℕ) (t : Turn) → TurnIsOrderly layout so_far t → TurnStands before turns t → ((control : Control) → IsOrderly layout so_far true control → FaultIsTold layout before resumed turns control → RanStands before (reverse (turns_of_run layout lp past n control) ++ turns) (run layout past n control)) → RanStands before (reverse (turns_in lp past (unless_left t (before_turns layout past n))) ++ turns) (go_on t (run layout past n))
    go_stands before turns n so_far (Goes next) o h later = later next o h
    go_stands before turns n so_far (Leaves exit next) o h later = h

    -- a run
    pub run_stands : (n : ℕ) (before : History) (turns : List ProgramTurn) (so_far : List ℕ) (control : Control) → IsOrderly layout so_far true control → FaultIsTold layout before resumed turns control → RanStands before (reverse (turns_of_run layout lp past n control) ++ turns) (run layout past n control)
    run_stands zero before turns so_far control orderly old = old
    run_stands (suc n) before turns so_far control orderly old =
        let t : Turn = turn layout past control in
        let here : List ProgramTurn = turn_in lp past control control.now in
        let more : List ProgramTurn = turns_in lp past (unless_left t (before_turns layout past n)) in
        let next : List ℕ = after_turn layout so_far control control.now in
        let on = go_stands before (reverse here ++ turns) n next t (turn_fits layout so_far fit past control orderly) (turn_by so_far before turns control orderly old control.now refl orderly.now) (run_stands n before (reverse here ++ turns) next) in
        let joined : reverse (here ++ more) ++ turns ≡ reverse more ++ (reverse here ++ turns) =
        ap (λ l. l ++ turns) (reverse-append here more) ∙ append_assoc (reverse more) (reverse here) turns in
        subst (λ l. RanStands before l (go_on t (run layout past n))) (sym joined) on
