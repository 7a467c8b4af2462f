-- Each turn keeps the laws of the control state, and each step of the runtime has a row.
use Rattle.std.proofs.Common.{◌≡◌, ℕ, zero, suc, ◌+◌, ◌≤◌, List, [], ◌∷◌, length, arith, refl, ap, sym, subst, inl, inr, ◌<◌}
use Rattle.std.specs.Prelude.{Bool, true, false, not, find, if◌then◌else◌, Option, Some, None, is_some, ◌==◌}
use Rattle.std.specs.Bool.{then_some}
use Rattle.std.proofs.lemmas.Bool.{eq-eqb}
use Rattle.std.proofs.lemmas.Bool.Decides.{nat_tests}
use Rattle.ak_core.specs.Layout.{Layout}
use Rattle.ak_core.specs.Mem.{Access, access_to}
use Rattle.ak_core.specs.declared.moves.Exit.{Exit}
use Rattle.ak_core.specs.declared.event.Event.{Event}
use Rattle.ak_core.specs.declared.event.Event.TheVariants.{Call, Miss, Trap, Break}
use Rattle.ak_core.specs.declared.event.StopCause.TheVariants.{Stuck}
use Rattle.ak_core.specs.declared.page.Kind.TheVariants.{Write, Exec}
use Rattle.ak_model.specs.Paging.Histories.{History}
use Rattle.ak_model.specs.Paging.Walk.{access_walkable}
use Rattle.ak_model.specs.Control.ControlState.{Phase, New, Running, Calling, Asked, Ended, Trapped, Dead, Context, Program, Enter, Probe, Finish, Guard, Leave, Reason, Raised, Denied, Missed, Broke, Faulted, Saved, Cause, Named, Control, cssa, first_cause}
use Rattle.ak_model.specs.Control.RuntimeTurn.{accesses, first_fault, stuck_cause, shown_fault, fault, unless_fault, runtime_turn}
use Rattle.ak_model.specs.Control.EventTurn.{count_of, due, without_first, leave_program, event_turn, program_turn}
use Rattle.ak_model.specs.Control.Runs.{turn_of, turn}
use Rattle.ak_model.specs.Laws.Premises.{MissesFit}
use Rattle.ak_model.specs.Laws.StepRows.{HasRow, IsInRow}
use Rattle.ak_model.specs.Clusters.Queue.{after_miss, is_in}
use Rattle.ak_model.specs.Laws.Orderly.{ContextFits, NowFits, ReasonFits, FaultFits, refuses_by, PhaseFits, miss_of, after_miss_if, ServedBy, IsOrderly, TurnIsOrderly, after_event, after_turn, IsOwnAccess}
use Rattle.ak_model.specs.Paging.Pages.{pages, ssa_page, state_page, code_page, strong_kind}
use Rattle.ak_model.proofs.Control.OrderlySteps.{empty_if, ClustersFit, effect_fits}

pub rw_kind : (layout : Layout) (p : ℕ) → pages layout < p → p < pages layout + 5 → strong_kind layout p ≡ Write
rw_kind layout p low high = grind (arith, nat_tests)

module _ (layout : Layout) (so_far : List ℕ) where
  -- ---- The access at which a step faults

  abbrev AllFit : Phase → Context → List Access → Type 0
  AllFit phase context [] = Unit {0}
  AllFit phase context (t ∷ all) = FaultFits layout phase context t × AllFit phase context all

  found_by : (test : Access → Bool) (P : Access → Type 0) (x : Access) (b : Bool) (later : Option Access) (t : Access) → P x → (later ≡ Some t → P t) → (if b then Some x else later) ≡ Some t → P t
  found_by test P x true later t here there e = let same : x ≡ t = cc in subst P same here
  found_by test P x false later t here there e = there e

  found : (phase : Phase) (context : Context) (test : Access → Bool) (all : List Access) (t : Access) → AllFit phase context all → find test all ≡ Some t → FaultFits layout phase context t
  found phase context test [] t h e = absurd (cc)
  found phase context test (x ∷ all) t h e = found_by test (FaultFits layout phase context) x (test x) (find test all) t h.0 (λ later. found phase context test all t h.1 later) e

  code_own : IsOwnAccess layout (access_to (code_page layout) Exec)
  code_own = let e : strong_kind layout (code_page layout) ≡ Exec = grind (arith, nat_tests) in (omega arith, omega arith, sym e)

  write_own : (p : ℕ) → pages layout < p → p < pages layout + 5 → IsOwnAccess layout (access_to p Write)
  write_own p low high = (low, omega arith, sym (rw_kind layout p low high))

  state_own : IsOwnAccess layout (access_to (state_page layout) Write)
  state_own = write_own (state_page layout) (omega arith) (omega arith)

  ssa_own : (i : ℕ) → i ≤ 2 → IsOwnAccess layout (access_to (ssa_page layout i) Write)
  ssa_own i low = write_own (ssa_page layout i) (omega arith) (omega arith)

  entry_fit : (control : Control) (k v d : ℕ) → k ≡ d → d ≤ 2 → AllFit control.phase (Enter k v) (accesses layout control (Enter k v))
  entry_fit control zero v d e l = (code_own, (state_own, tt))
  entry_fit control (suc zero) v d e l = (code_own, (state_own, (ssa_own 0 (omega arith), tt)))
  entry_fit control (suc (suc zero)) v d e l = (code_own, (state_own, (ssa_own 0 (omega arith), (ssa_own 1 (omega arith), tt))))
  entry_fit control (suc (suc (suc k))) v d e l = absurd (omega arith)

  -- a context of the runtime
  abbrev IsRuntime : Context → Type 0
  IsRuntime Program = ⊥
  IsRuntime _ = Unit {0}

  all_fit : (control : Control) (context : Context) → IsRuntime context → ContextFits layout control.phase (length control.stack) context → AllFit control.phase context (accesses layout control context)
  all_fit control Program r h = absurd r
  all_fit control (Enter k v) r h = entry_fit control k v (length control.stack) h.0 h.1
  all_fit control (Probe i) r h = (inr code_own, (inr state_own, (inl refl, tt)))
  all_fit control Finish r h = (code_own, (state_own, (ssa_own 0 (omega arith), tt)))
  all_fit control Guard r h = (code_own, (state_own, tt))
  all_fit control (Leave b a) r h = (code_own, (state_own, tt))

  faults_fit : (past : History) (control : Control) (context : Context) (t : Access) → IsRuntime context → ContextFits layout control.phase (length control.stack) context → first_fault layout past (accesses layout control context) ≡ Some t → FaultFits layout control.phase context t
  faults_fit past control context t r h e = found control.phase context (λ x. not (access_walkable layout past x)) (accesses layout control context) t (all_fit control context r h) e

  -- ---- A step that faults

  pub pushed_served : (phase : Phase) (queue : List ℕ) (saved : Saved) (stack : List Saved) → miss_of saved.reason ≡ None → ServedBy layout so_far phase queue stack → ServedBy layout so_far phase queue (saved ∷ stack)
  pushed_served New queue saved stack e h = h
  pushed_served Calling queue saved stack e h = h
  pushed_served Running queue saved [] e h = subst (λ o. after_miss_if layout queue o ≡ so_far) (sym e) h
  pushed_served Running queue saved (next ∷ older) e h = h
  pushed_served (Asked c) queue saved stack e h = h
  pushed_served (Ended s) queue saved stack e h = h
  pushed_served (Trapped v) queue saved stack e h = h
  pushed_served Dead queue saved stack e h = h

  more_cause : (phase : Phase) (queue : List ℕ) (cause cause' : Option Cause) → (is_some cause ≡ true → is_some cause' ≡ true) → PhaseFits layout queue cause phase → PhaseFits layout queue cause' phase
  more_cause New queue cause cause' m h = h
  more_cause Running queue cause cause' m h = h
  more_cause Calling queue cause cause' m h = h
  more_cause (Asked c) queue cause cause' m h = h
  more_cause (Ended s) queue cause cause' m h = h
  more_cause (Trapped v) queue cause cause' m h = h
  more_cause Dead queue cause cause' m h = m h

  first_stays : (earlier : Option Cause) (cause : Cause) (b : Bool) → is_some earlier ≡ true → is_some (if b then first_cause earlier cause else earlier) ≡ true
  first_stays earlier cause false h = h
  first_stays (Some earlier) cause true h = refl
  first_stays None cause true h = absurd (cc)

  first_is : (earlier : Option Cause) (cause : Cause) (b : Bool) → b ≡ true → is_some (if b then first_cause earlier cause else earlier) ≡ true
  first_is None cause true h = refl
  first_is (Some earlier) cause true h = refl
  first_is earlier cause false h = absurd (cc)

  fault_fits : (control : Control) (context : Context) (t : Access) → IsOrderly layout so_far true control → ContextFits layout control.phase (length control.stack) context → FaultFits layout control.phase context t → TurnIsOrderly layout so_far (fault layout control context t)
  fault_fits control context t old fits at = record {
    stack = (record { context = fits; reason = at }, old.stack);
    now = λ e. absurd (omega arith);
    inside = λ h. absurd (cc);
    phase = more_cause control.phase control.queue control.cause (stuck_cause control t) (first_stays control.cause (Named (Stuck t.page t.kind)) (cssa control == 2)) old.phase;
    queue = old.queue;
    served = pushed_served control.phase control.queue (record { context = context; reason = Faulted t }) control.stack refl old.served;
    tape = old.tape;
    pending_only = λ h. (refl, refl);
    pending_if = λ n r l. refl;
    stuck = λ l h. let two : cssa control ≡ 2 = omega arith in first_is control.cause (Named (Stuck t.page t.kind)) (cssa control == 2) (eq-eqb (cssa control) 2 two);
  }

  -- ---- A turn of the program

  module _ (control : Control) (old : IsOrderly layout so_far true control) (is_now : control.now ≡ Some Program) (none : length control.stack ≡ 0) (running : control.phase ≡ Running) where
    empty : control.stack ≡ []
    empty = empty_if control.stack none

    -- the misses so far are served
    here : control.queue ≡ so_far
    here = subst (λ s. ServedBy layout so_far Running control.queue s) empty (subst (λ p. ServedBy layout so_far p control.queue control.stack) running old.served)

    not_pending : control.pending ≡ true → ⊥
    not_pending h =
        let out = (old.pending_only h).0 in
        let some : is_some control.now ≡ true = ap is_some is_now in
        cc

    saved_served : (reason : Reason) (next : List ℕ) → after_miss_if layout control.queue (miss_of reason) ≡ next → ServedBy layout next control.phase control.queue (record { context = Program; reason = reason } ∷ control.stack)
    saved_served reason next h =
        subst (λ p. ServedBy layout next p control.queue (record { context = Program; reason = reason } ∷ control.stack)) (sym running)
        (subst (λ s. ServedBy layout next Running control.queue (record { context = Program; reason = reason } ∷ s)) (sym empty) h)

    left_program : (exit : Exit) (reason : Reason) (next : List ℕ) → ReasonFits layout control.phase control.queue Program reason → refuses_by reason ≡ true → after_miss_if layout control.queue (miss_of reason) ≡ next → MissesFit layout next (without_first control.rest) → TurnIsOrderly layout next (leave_program exit reason control)
    left_program exit reason next fits refuses s t = record {
      stack = (record { context = (none, running); reason = fits }, old.stack);
      now = λ e. absurd (omega arith);
      inside = λ h. absurd (cc);
      phase = old.phase;
      queue = old.queue;
      served = saved_served reason next s;
      tape = t;
      pending_only = λ h. (refl, refuses);
      pending_if = λ n r l. refl;
      stuck = λ l h. absurd (omega arith);
    }

    goes_on : (next : Context) (rest : List Event) (count : ℕ) → ContextFits layout control.phase (length control.stack) next → MissesFit layout so_far rest → IsOrderly layout so_far true (record control { count = count; rest = rest; now = Some next })
    goes_on next rest count fits t = record {
      stack = old.stack;
      now = fits;
      inside = λ h. refl;
      phase = old.phase;
      queue = old.queue;
      served = old.served;
      tape = t;
      pending_only = λ h. absurd (not_pending h);
      pending_if = λ n r l. absurd (cc);
      stuck = λ l h. absurd (not_pending h);
    }

    vector_fits : (denied : Bool) (v : ℕ) → MissesFit layout so_far (without_first control.rest) → TurnIsOrderly layout so_far (if denied then leave_program (shown_fault layout) Denied control else leave_program (Exit.Vector v) (Raised v) control)
    vector_fits true v t = left_program (shown_fault layout) Denied so_far refl refl here t
    vector_fits false v t = left_program (Exit.Vector v) (Raised v) so_far refl refl here t

    event_fits : (x : Event) → MissesFit layout so_far (x ∷ without_first control.rest) → TurnIsOrderly layout (after_event layout so_far (Some x)) (event_turn layout control (Some x))
    event_fits (Call i b a) h = goes_on (Leave b a) (without_first control.rest) (control.count + 1) (none, running) h
    event_fits (Miss i c) h =
        left_program (shown_fault layout) (Missed c) (after_miss layout so_far c) (refl, h.0, subst (λ q. is_in q c ≡ false) (sym here) h.1) refl
        (ap (λ q. after_miss layout q c) here) h.2
    event_fits (Break i) h = left_program (shown_fault layout) Broke so_far refl refl here h
    event_fits (Trap i v) h = vector_fits (v == 14) v h

    counted : IsOrderly layout so_far true (record control { count = control.count + 1 })
    counted = record {
      stack = old.stack;
      now = old.now;
      inside = old.inside;
      phase = old.phase;
      queue = old.queue;
      served = old.served;
      tape = old.tape;
      pending_only = old.pending_only;
      pending_if = old.pending_if;
      stuck = old.stuck;
    }

    due_fits : (b : Bool) (x : Event) → MissesFit layout so_far (x ∷ without_first control.rest) → TurnIsOrderly layout (after_event layout so_far (then_some b x)) (event_turn layout control (then_some b x))
    due_fits true x h = event_fits x h
    due_fits false x h = counted

    tape_fits : (rest : List Event) → control.rest ≡ rest → TurnIsOrderly layout (after_event layout so_far (due control.count rest)) (event_turn layout control (due control.count rest))
    tape_fits [] e = counted
    tape_fits (x ∷ rest) e =
        let first : without_first control.rest ≡ rest = ap without_first e in
        let fits : MissesFit layout so_far (x ∷ rest) = subst (MissesFit layout so_far) e old.tape in
        due_fits (count_of x == control.count) x (subst (λ r. MissesFit layout so_far (x ∷ r)) (sym first) fits)

    program_fits : TurnIsOrderly layout (after_turn layout so_far control (Some Program)) (program_turn layout control)
    program_fits = tape_fits control.rest refl

  -- ---- Any turn

  module _ (fit : ClustersFit layout) (past : History) (control : Control) (old : IsOrderly layout so_far true control) where
    unless_fits : (context : Context) (o : Option Access) → control.now ≡ Some context → ContextFits layout control.phase (length control.stack) context → ((t : Access) → o ≡ Some t → FaultFits layout control.phase context t) → TurnIsOrderly layout so_far (unless_fault layout control context o)
    unless_fits context None n fits at = effect_fits layout fit so_far control old context n context fits
    unless_fits context (Some t) n fits at = fault_fits control context t old fits (at t refl)

    runtime_fits : (context : Context) → IsRuntime context → control.now ≡ Some context → ContextFits layout control.phase (length control.stack) context → TurnIsOrderly layout so_far (runtime_turn layout past control context)
    runtime_fits context r n fits =
        unless_fits context (first_fault layout past (accesses layout control context)) n fits
        (λ t e. faults_fit past control context t r fits e)

    turn_by : (now : Option Context) → control.now ≡ now → NowFits layout control.phase control.stack now → TurnIsOrderly layout (after_turn layout so_far control now) (turn_of layout past control now)
    turn_by None n h = old
    turn_by (Some Program) n h = program_fits control old n h.0 h.1
    turn_by (Some (Enter k v)) n h = runtime_fits (Enter k v) tt n h
    turn_by (Some (Probe i)) n h = runtime_fits (Probe i) tt n h
    turn_by (Some Finish) n h = runtime_fits Finish tt n h
    turn_by (Some Guard) n h = runtime_fits Guard tt n h
    turn_by (Some (Leave b a)) n h = runtime_fits (Leave b a) tt n h

    -- a turn keeps the laws
    pub turn_fits : TurnIsOrderly layout (after_turn layout so_far control control.now) (turn layout past control)
    turn_fits = turn_by control.now refl old.now

  -- ---- Rows

  module _ (someone : Bool) (control : Control) (old : IsOrderly layout so_far someone control) where
    has_row : (k v : ℕ) → ContextFits layout control.phase (length control.stack) (Enter k v) → HasRow layout control (Enter k v)
    has_row zero v h = (sym h.0, h.2 (sym h.0))
    has_row (suc k) v h = sym h.0

    row_by : (now : Option Context) → NowFits layout control.phase control.stack now → IsInRow layout control now
    row_by None h = tt
    row_by (Some Program) h = h.0
    row_by (Some (Enter k v)) h = has_row k v h
    row_by (Some (Probe i)) h = h
    row_by (Some Finish) h = h
    row_by (Some Guard) h = h.1
    row_by (Some (Leave b a)) h = h.0

    -- what is inside has a row
    pub in_row : IsInRow layout control control.now
    in_row = row_by control.now old.now

    -- where the program is inside, the misses so far are served
    pub in_program : control.now ≡ Some Program → control.queue ≡ so_far
    in_program n =
        let fits : ContextFits layout control.phase (length control.stack) Program = subst (NowFits layout control.phase control.stack) n old.now in
        let empty : control.stack ≡ [] = empty_if control.stack fits.0 in
        subst (λ s. ServedBy layout so_far Running control.queue s) empty (subst (λ p. ServedBy layout so_far p control.queue control.stack) fits.1 old.served)
