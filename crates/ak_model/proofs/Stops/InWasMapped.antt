-- Each page of a cluster that is in was mapped at some earlier moment: at its probe.
use Rattle.std.proofs.Common.{◌≡◌, ◌⊎◌, inl, inr, ℕ, zero, suc, ◌<◌, List, [], ◌∷◌, ◌++◌, length, drop, arith, refl, ap, sym, ◌∙◌, subst}
use Rattle.std.specs.Prelude.{Bool, true, false, not, slice_index, if◌then◌else◌, Option, Some, None, nat_lt, ◌==◌}
use Rattle.std.proofs.lemmas.Bool.{or_right, eqb-true, eqb-false, or_cases}
use Rattle.ak_core.specs.Layout.{Layout, IsValid}
use Rattle.ak_core.specs.Mem.{Access}
use Rattle.ak_core.specs.declared.event.Event.{Event}
use Rattle.ak_core.specs.declared.event.Event.TheVariants.{Call, Miss, Trap, Break}
use Rattle.ak_core.specs.declared.moves.Exit.{Exit}
use Rattle.ak_core.specs.declared.moves.Move.{Move}
use Rattle.ak_model.specs.Paging.Pages.{pages, cluster_at, pages_of}
use Rattle.ak_model.specs.Paging.Histories.{History, Pair}
use Rattle.ak_model.specs.Paging.Walk.{access_walkable}
use Rattle.ak_model.specs.Clusters.Queue.{drops, is_in}
use Rattle.ak_model.specs.Control.ControlState.{Phase, New, Running, Calling, Asked, Ended, Trapped, Dead, Context, Program, Enter, Probe, Finish, Guard, Leave, Reason, Interrupted, Cleared, Raised, Denied, Missed, Broke, Faulted, Saved, Control, is_asked}
use Rattle.ak_model.specs.Control.OneTurn.{Turn, Goes, Leaves}
use Rattle.ak_model.specs.Control.RuntimeTurn.{asked_pages, accesses, first_fault, guard_top, program_at_bottom, shown_fault, handle, enter, finish, resume_guard, leave_call, effect, unless_fault}
use Rattle.ak_model.specs.Control.EventTurn.{due, leave_program, event_turn}
use Rattle.ak_model.specs.Control.Runs.{turn_of, turn, go_on, run}
use Rattle.ak_model.specs.Paging.Inside.{inside, someone_inside}
use Rattle.ak_model.specs.Control.Answers.{answer}
use Rattle.ak_model.specs.Control.Entering.{resumed_by, interrupted_by}
use Rattle.ak_model.specs.Control.Trace.{Moment, after_move, trace}
use Rattle.ak_model.specs.Tapes.ProgramTurns.{program_turns}
use Rattle.ak_model.specs.Sound.Forced.{queue_by}
use Rattle.ak_model.specs.Laws.Premises.{MissesFit}
use Rattle.ak_model.specs.Kernels.KernelRules.{is_mapped}
use Rattle.ak_model.specs.Laws.Orderly.{ContextFits, NowFits, SavedFits, StackFits, IsOrderly, TurnIsOrderly, after_turn}
use Rattle.ak_model.proofs.Paging.Tests.{either_way}
use Rattle.ak_model.proofs.Paging.InsideIsOfLayout.{placed}
use Rattle.ak_model.proofs.Control.MovedTo.{each_move}
use Rattle.ak_model.proofs.Clusters.DistinctQueues.{out-drop}
use Rattle.ak_model.proofs.Control.OrderlySteps.{ClustersFit}
use Rattle.ak_model.proofs.Control.OrderlyTurns.{turn_fits}
use Rattle.ak_model.proofs.Clusters.ClusterPages.{page_stands}
use Rattle.ak_model.proofs.Clusters.ValidClusters.{clusters_fit}
use Rattle.ak_model.proofs.Control.OrderlyMoments.{trace_is_orderly}

-- what is in was in before some left
in-drop : (d : ℕ) (queue : List ℕ) (c : ℕ) → is_in (drop d queue) c ≡ true → is_in queue c ≡ true
in-drop d queue c h = by_test (is_in queue c) refl
  where
    by_test : (b : Bool) → is_in queue c ≡ b → is_in queue c ≡ true
    by_test true e = e
    by_test false e = absurd (let x = out-drop d queue c e in cc)

in-append : (queue : List ℕ) (x c : ℕ) → is_in (queue ++ x ∷ []) c ≡ true → (is_in queue c ≡ true) ⊎ (x ≡ c)
in-append [] x c h = elim (or_cases (x == c) false h) [ inl e ↦ inr (eqb-true x c e) | inr f ↦ absurd (cc) ]
in-append (y ∷ queue) x c h =
    elim (or_cases (y == c) (is_in (queue ++ x ∷ []) c) h) [
      | inl e ↦ inl (rw e refl)
      | inr later ↦ elim (in-append queue x c later) [ inl i ↦ inl (or_right (y == c) (is_in queue c) i) | inr s ↦ inr s ]
    ]

module _ (layout : Layout) where
  -- the page was mapped at some moment
  abbrev pub WasMapped : History → ℕ → Type 0
  WasMapped past p = (d : ℕ) × (is_mapped layout (drop d past) p ≡ true)

  -- ---- What was found so far

  module _ (past : History) (phase : Phase) where
    -- the pages that were probed, of the cluster that is asked for
    abbrev Probed : Context → Type 0
    Probed (Probe i) = (c : ℕ) → phase ≡ Asked c → (j : ℕ) → j < i → WasMapped past (slice_index (pages_of layout c) j)
    Probed Finish = (c : ℕ) → phase ≡ Asked c → (j : ℕ) → j < length (pages_of layout c) → WasMapped past (slice_index (pages_of layout c) j)
    Probed _ = Unit {0}

    abbrev NowProbed : Option Context → Type 0
    NowProbed None = Unit {0}
    NowProbed (Some context) = Probed context

    abbrev AllProbed : List Saved → Type 0
    AllProbed [] = Unit {0}
    AllProbed (saved ∷ older) = Probed saved.context × AllProbed older

    -- where nothing is asked for, nothing has to be probed
    unasked : (context : Context) → is_asked phase ≡ false → Probed context
    unasked (Probe i) n = λ c e j l. absurd (let x : is_asked phase ≡ true = ap is_asked e in cc)
    unasked Finish n = λ c e j l. absurd (let x : is_asked phase ≡ true = ap is_asked e in cc)
    unasked Program n = tt
    unasked (Enter k v) n = tt
    unasked Guard n = tt
    unasked (Leave b a) n = tt

    all_unasked : (stack : List Saved) → is_asked phase ≡ false → AllProbed stack
    all_unasked [] n = tt
    all_unasked (saved ∷ older) n = (unasked saved.context n, all_unasked older n)

  -- each page of what is in was mapped, and so were those that were probed
  pub record Ever (past : History) (control : Control) : Type 0 where
    pub queue : (p : ℕ) → p < pages layout → is_in control.queue (cluster_at layout p) ≡ true → WasMapped past p
    pub stack : AllProbed past control.phase control.stack
    pub now : NowProbed past control.phase control.now

  -- ---- One turn

  abbrev TurnEver : History → Turn → Type 0
  TurnEver past (Goes control) = Ever past control
  TurnEver past (Leaves exit control) = Ever past control

  module _ (past : History) (so_far : List ℕ) (control : Control) (orderly : IsOrderly layout so_far true control) (old : Ever past control) where
    gone : Ever past (record control { now = None })
    gone = record { queue = old.queue; stack = old.stack; now = tt }

    -- a phase in which nothing is asked for
    moved : (next : Control) → next.queue ≡ control.queue → is_asked next.phase ≡ false → NowProbed past next.phase next.now → Ever past next
    moved next q n now = record {
      queue = λ p low h. old.queue p low (subst (λ x. is_in x (cluster_at layout p) ≡ true) q h);
      stack = all_unasked past next.phase next.stack n;
      now = now;
    }

    lone_top : (phase : Phase) (stack : List Saved) → length stack ≡ 1 → AllProbed past phase (guard_top stack)
    lone_top phase [] h = tt
    lone_top phase (saved ∷ []) h = (tt, tt)
    lone_top phase (saved ∷ next ∷ older) h = absurd (omega arith)

    by_reason : (k : ℕ) (inner : Context) (reason : Reason) (older : List Saved) → control.stack ≡ record { context = inner; reason = reason } ∷ older → SavedFits layout control.phase control.queue (length older) (record { context = inner; reason = reason }) → TurnEver past (handle layout control k (record { context = inner; reason = reason } ∷ older))
    by_reason k inner Interrupted older e h = gone
    by_reason k inner Cleared older e h = gone
    by_reason k inner (Raised v) older e h = moved _ refl refl tt
    by_reason k inner Denied older e h = moved _ refl refl tt
    by_reason k inner Broke older e h = moved _ refl refl tt
    by_reason k inner (Faulted t) older e h = either_way (TurnEver past) (k == 2) _ _ (moved _ refl refl tt) (moved _ refl refl tt)
    by_reason k inner (Missed c) older e h =
        let fits : ContextFits layout control.phase (length older) Program = subst (ContextFits layout control.phase (length older)) h.reason.0 h.context in
        record {
          queue = λ p low x. old.queue p low (in-drop (drops layout control.queue c) control.queue (cluster_at layout p) x);
          stack = lone_top (Asked c) control.stack (ap length e ∙ ap suc fits.0);
          now = tt;
        }

    handled_by : (k : ℕ) (stack : List Saved) → control.stack ≡ stack → StackFits layout control.phase control.queue stack → TurnEver past (handle layout control k stack)
    handled_by k [] e h = gone
    handled_by k (saved ∷ older) e h = by_reason k saved.context saved.reason older e h.0

    handled : (k : ℕ) → TurnEver past (handle layout control k control.stack)
    handled k = handled_by k control.stack refl orderly.stack

    enter_ever : (k v : ℕ) (phase : Phase) → control.phase ≡ phase → TurnEver past (enter layout control k v phase)
    enter_ever k v (Ended s) e = gone
    enter_ever k v (Trapped x) e = gone
    enter_ever k v Dead e = gone
    enter_ever k v Running e = handled k
    enter_ever zero v New e = moved _ refl refl tt
    enter_ever (suc k) v New e = handled (suc k)
    enter_ever zero v Calling e = moved _ refl refl tt
    enter_ever (suc k) v Calling e = handled (suc k)
    enter_ever zero v (Asked c) e = handled zero
    enter_ever (suc (suc k)) v (Asked c) e = handled (suc (suc k))
    enter_ever (suc zero) v (Asked c) e = record { queue = old.queue; stack = old.stack; now = λ x f j l. absurd (omega arith) }

    -- the pages before and this one
    one_more : (i : ℕ) → Probed past control.phase (Probe i) → WasMapped past (slice_index (asked_pages layout control.phase) i) → Probed past control.phase (Probe (suc i))
    one_more i h here c e j l = by_place (j == i) refl
      where
        by_place : (same : Bool) → (j == i) ≡ same → WasMapped past (slice_index (pages_of layout c) j)
        by_place true s =
            subst (λ n. WasMapped past (slice_index (pages_of layout c) n)) (sym (eqb-true j i s))
            (subst (λ phase. WasMapped past (slice_index (asked_pages layout phase) i)) e here)
        by_place false s = let differ = eqb-false j i s in h c e j (omega arith)

    probe_ever : (i : ℕ) (last : Bool) → (suc i == length (asked_pages layout control.phase)) ≡ last → Probed past control.phase (Probe (suc i)) → Ever past (record control { now = if last then Some Finish else Some (Probe (suc i)) })
    probe_ever i true e h = record {
      queue = old.queue;
      stack = old.stack;
      now = λ c f j l.
          let all = eqb-true (suc i) (length (asked_pages layout control.phase)) e in
          let same : length (asked_pages layout control.phase) ≡ length (pages_of layout c) = ap (λ phase. length (asked_pages layout phase)) f in
          h c f j (omega arith);
    }
    probe_ever i false e h = record { queue = old.queue; stack = old.stack; now = h }

    finish_ever : (phase : Phase) → control.phase ≡ phase → Probed past control.phase Finish → TurnEver past (finish control phase)
    finish_ever (Asked c) e h = record {
      queue = λ p low x.
          elim (in-append control.queue c (cluster_at layout p) x) [
            | inl before ↦ old.queue p low before
            | inr this ↦
                let at = page_stands layout p low in
                let place : at.0 < length (pages_of layout c) = subst (λ d. at.0 < length (pages_of layout d)) (sym this) at.1 in
                let page : slice_index (pages_of layout c) at.0 ≡ p = ap (λ d. slice_index (pages_of layout d) at.0) this ∙ at.2 in
                subst (WasMapped past) page (h c e at.0 place)
          ];
      stack = all_unasked past Running (program_at_bottom control.stack) refl;
      now = tt;
    }
    finish_ever New e h = gone
    finish_ever Running e h = gone
    finish_ever Calling e h = gone
    finish_ever (Ended s) e h = gone
    finish_ever (Trapped x) e h = gone
    finish_ever Dead e h = gone

    guard_ever : (phase : Phase) → TurnEver past (resume_guard control phase)
    guard_ever (Asked c) = moved _ refl refl tt
    guard_ever New = gone
    guard_ever Running = gone
    guard_ever Calling = gone
    guard_ever (Ended s) = gone
    guard_ever (Trapped x) = gone
    guard_ever Dead = gone

    leave_ever : (b a : ℕ) → TurnEver past (leave_call control b a)
    leave_ever zero a = moved _ refl refl tt
    leave_ever (suc b) a = moved _ refl refl tt

    -- what a step accesses besides the runtime's pages was mapped
    abbrev Found : Context → Type 0
    Found (Probe i) = WasMapped past (slice_index (asked_pages layout control.phase) i)
    Found _ = Unit {0}

    effect_ever : (next : Context) → Probed past control.phase next → Found next → TurnEver past (effect layout control next)
    effect_ever Program h f = old
    effect_ever (Enter k v) h f = enter_ever k v control.phase refl
    effect_ever (Probe i) h f = probe_ever i (suc i == length (asked_pages layout control.phase)) refl (one_more i h f)
    effect_ever Finish h f = finish_ever control.phase refl h
    effect_ever Guard h f = guard_ever control.phase
    effect_ever (Leave b a) h f = leave_ever b a

    -- ---- What a step that does not fault found

    abbrev AllWalk : List Access → Type 0
    AllWalk [] = Unit {0}
    AllWalk (t ∷ all) = (access_walkable layout past t ≡ true) × AllWalk all

    walk_by : (b : Bool) (t : Access) (later : Option Access) (rest : Type 0) → access_walkable layout past t ≡ b → (later ≡ None → rest) → (if not b then Some t else later) ≡ None → (access_walkable layout past t ≡ true) × rest
    walk_by true t later rest e go h = (e, go h)
    walk_by false t later rest e go h = absurd (cc)

    all_walk : (all : List Access) → first_fault layout past all ≡ None → AllWalk all
    all_walk [] h = tt
    all_walk (t ∷ all) h = walk_by (access_walkable layout past t) t (first_fault layout past all) (AllWalk all) refl (all_walk all) h

    found : (next : Context) → ContextFits layout control.phase (length control.stack) next → first_fault layout past (accesses layout control next) ≡ None → Found next
    found (Probe i) h e = let walks = all_walk (accesses layout control (Probe i)) e in (0, walks.1.1.0)
    found Program h e = tt
    found (Enter k v) h e = tt
    found Finish h e = tt
    found Guard h e = tt
    found (Leave b a) h e = tt

    -- ---- Any turn

    unless_ever : (context : Context) (o : Option Access) → control.now ≡ Some context → ContextFits layout control.phase (length control.stack) context → first_fault layout past (accesses layout control context) ≡ o → TurnEver past (unless_fault layout control context o)
    unless_ever context None n h e = effect_ever context (subst (NowProbed past control.phase) n old.now) (found context h e)
    unless_ever context (Some t) n h e = record { queue = old.queue; stack = (subst (NowProbed past control.phase) n old.now, old.stack); now = tt }

    left_program : (exit : Exit) (reason : Reason) → TurnEver past (leave_program exit reason control)
    left_program exit reason = record { queue = old.queue; stack = (tt, old.stack); now = tt }

    event_ever : (x : Option Event) → TurnEver past (event_turn layout control x)
    event_ever None = record { queue = old.queue; stack = old.stack; now = old.now }
    event_ever (Some (Call i b a)) = record { queue = old.queue; stack = old.stack; now = tt }
    event_ever (Some (Miss i c)) = left_program (shown_fault layout) (Missed c)
    event_ever (Some (Break i)) = left_program (shown_fault layout) Broke
    event_ever (Some (Trap i v)) = either_way (TurnEver past) (v == 14) (leave_program (shown_fault layout) Denied control) (leave_program (Exit.Vector v) (Raised v) control) (left_program (shown_fault layout) Denied) (left_program (Exit.Vector v) (Raised v))

    turn_by : (now : Option Context) → control.now ≡ now → NowFits layout control.phase control.stack now → TurnEver past (turn_of layout past control now)
    turn_by None n h = old
    turn_by (Some Program) n h = event_ever (due control.count control.rest)
    turn_by (Some (Enter k v)) n h = unless_ever (Enter k v) (first_fault layout past (accesses layout control (Enter k v))) n h refl
    turn_by (Some (Probe i)) n h = unless_ever (Probe i) (first_fault layout past (accesses layout control (Probe i))) n h refl
    turn_by (Some Finish) n h = unless_ever Finish (first_fault layout past (accesses layout control Finish)) n h refl
    turn_by (Some Guard) n h = unless_ever Guard (first_fault layout past (accesses layout control Guard)) n h refl
    turn_by (Some (Leave b a)) n h = unless_ever (Leave b a) (first_fault layout past (accesses layout control (Leave b a))) n h refl

  -- ---- A run

  module _ (fit : ClustersFit layout) (past : History) where
    go_ever : (n : ℕ) (so_far : List ℕ) (t : Turn) → TurnIsOrderly layout so_far t → TurnEver past t → ((next : Control) → IsOrderly layout so_far true next → Ever past next → Ever past (run layout past n next).control) → Ever past (go_on t (run layout past n)).control
    go_ever n so_far (Goes next) o h later = later next o h
    go_ever n so_far (Leaves exit next) o h later = h

    pub run_ever : (n : ℕ) (so_far : List ℕ) (control : Control) → IsOrderly layout so_far true control → Ever past control → Ever past (run layout past n control).control
    run_ever zero so_far control o old = old
    run_ever (suc n) so_far control o old =
        go_ever n (after_turn layout so_far control control.now) (turn layout past control) (turn_fits layout so_far fit past control o)
        (turn_by past so_far control o old control.now refl o.now) (run_ever n (after_turn layout so_far control control.now))

  -- ---- One move later

  later_probed : (pair : Pair) (past : History) (phase : Phase) (context : Context) → Probed past phase context → Probed (pair ∷ past) phase context
  later_probed pair past phase (Probe i) h = λ c e j l. let at = h c e j l in (suc at.0, at.1)
  later_probed pair past phase Finish h = λ c e j l. let at = h c e j l in (suc at.0, at.1)
  later_probed pair past phase Program h = tt
  later_probed pair past phase (Enter k v) h = tt
  later_probed pair past phase Guard h = tt
  later_probed pair past phase (Leave b a) h = tt

  later_all : (pair : Pair) (past : History) (phase : Phase) (stack : List Saved) → AllProbed past phase stack → AllProbed (pair ∷ past) phase stack
  later_all pair past phase [] h = tt
  later_all pair past phase (saved ∷ older) h = (later_probed pair past phase saved.context h.0, later_all pair past phase older h.1)

  later_now : (pair : Pair) (past : History) (phase : Phase) (now : Option Context) → NowProbed past phase now → NowProbed (pair ∷ past) phase now
  later_now pair past phase None h = tt
  later_now pair past phase (Some context) h = later_probed pair past phase context h

  pub ever_later : (pair : Pair) (past : History) (control : Control) → Ever past control → Ever (pair ∷ past) control
  ever_later pair past control h = record {
    queue = λ p low x. let at = h.queue p low x in (suc at.0, at.1);
    stack = later_all pair past control.phase control.stack h.stack;
    now = later_now pair past control.phase control.now h.now;
  }

  -- ---- Moves

  module _ (fit : ClustersFit layout) (so_far : List ℕ) (past : History) (control : Control) (orderly : IsOrderly layout so_far (someone_inside layout past) control) (old : Ever past control) where
    resume_step : (saved : Saved) (older : List Saved) → control.stack ≡ saved ∷ older → Ever past (resumed_by control (saved ∷ older))
    resume_step saved older e =
        let all : AllProbed past control.phase (saved ∷ older) = subst (AllProbed past control.phase) e old.stack in
        record { queue = old.queue; stack = all.1; now = all.0 }

    interrupt_by : (now : Option Context) → control.now ≡ now → Ever past (interrupted_by control now)
    interrupt_by None e = old
    interrupt_by (Some context) e = record { queue = old.queue; stack = (subst (NowProbed past control.phase) e old.now, old.stack); now = tt }

  move_ever : ClustersFit layout → (so_far : List ℕ) (moment : Moment) (m : Move) → ((lp : ℕ) → inside moment.past lp ≡ true → nat_lt lp layout.lps ≡ true) → IsOrderly layout so_far (someone_inside layout moment.past) moment.control → Ever moment.past moment.control → Ever moment.past (after_move layout moment m).control
  move_ever fit so_far moment m low orderly old =
      let past : History = moment.past in
      let control : Control = moment.control in
      each_move layout moment (λ e. Ever past e.next)
      (record {
        quiet = old;
        enters = λ lp v there out few. record { queue = old.queue; stack = old.stack; now = tt };
        resumes = λ lp saved rest there out free e. resume_step fit so_far past control orderly old saved rest e;
        interrupts = λ lp d. interrupt_by fit so_far past control orderly old control.now refl;
        runs = λ lp n d someone. run_ever fit past n so_far control (subst (λ b. IsOrderly layout so_far b control) someone orderly) old;
      })
      low m

  -- after each move of a trace each page of what is in was mapped at some moment
  pub trace_ever : IsValid layout → (tape : List Event) → MissesFit layout [] tape → (moves : List Move) → Ever (trace layout tape moves).past (trace layout tape moves).control
  trace_ever valid tape misses [] = record { queue = λ p low h. absurd (cc); stack = tt; now = tt }
  trace_ever valid tape misses (m ∷ moves) =
      let moment : Moment = trace layout tape moves in
      ever_later (m, answer layout moment.past moment.control m) moment.past (after_move layout moment m).control
      (move_ever (clusters_fit layout valid) (queue_by layout (program_turns layout tape moves)) moment m (λ lp. placed layout lp tape moves) (trace_is_orderly layout valid tape misses moves) (trace_ever valid tape misses moves))
