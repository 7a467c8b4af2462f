-- Under a kernel that keeps its rules, no step of the runtime stops the enclave.
use Rattle.std.proofs.Common.{◌≡◌, inl, inr, ℕ, zero, suc, ◌+◌, ◌-◌, ◌<◌, ◌≤◌, List, [], ◌∷◌, length, arith, refl, ap, ◌∙◌, subst}
use Rattle.std.specs.Prelude.{Bool, true, false, Option, Some, None, is_some, slice_index}
use Rattle.std.specs.List.{list_all, list_any}
use Rattle.std.proofs.lemmas.Bool.{and_parts}
use Rattle.std.proofs.lemmas.Bool.Decides.{nat_tests}
use Rattle.ak_core.specs.Layout.{Layout}
use Rattle.ak_core.specs.declared.page.Fault.{Fault}
use Rattle.ak_core.specs.declared.page.Kind.{Kind}
use Rattle.ak_core.specs.declared.page.Kind.TheVariants.{Write, Exec}
use Rattle.ak_model.specs.Paging.Pages.{pages, ssa_page, state_page, code_page, pages_of, strong_kind}
use Rattle.ak_model.specs.Paging.Histories.{History}
use Rattle.ak_model.specs.Paging.Inside.{someone_inside}
use Rattle.ak_model.specs.Paging.Walk.{walkable, access_walkable, tcs_walkable}
use Rattle.ak_model.specs.Control.ControlState.{Phase, New, Running, Calling, Asked, Ended, Trapped, Dead, Context, Program, Enter, Probe, Finish, Guard, Leave, Saved, Control, is_asked}
use Rattle.ak_model.specs.Control.RuntimeTurn.{accesses, asked_pages, first_fault, runtime_turn}
use Rattle.ak_model.specs.Control.Runs.{turn_of, turn}
use Rattle.ak_model.specs.Kernels.KernelRules.{is_mapped, cluster_is_mapped, runtime_pages, keeps_mapped, keeps_fetched, entered_since_ask, probes_done, fetched_by}
use Rattle.ak_model.specs.Control.ControlState.{Reason}
use Rattle.ak_model.specs.Kernels.KernelRules.{is_past_probes}
use Rattle.ak_model.specs.Laws.Orderly.{ContextFits, NowFits, StackFits, IsOrderly}
use Rattle.ak_model.specs.Control.EventTurn.{due}
use Rattle.ak_model.specs.Laws.ToldFault.{is_break}
use Rattle.ak_model.proofs.Control.OrderlyTurns.{rw_kind}
use Rattle.ak_model.proofs.Paging.Tests.{implied, or_other}
use Rattle.ak_model.proofs.Kernels.NoTurnStops.{IsCalm, TurnCalm, runtime_calm, program_calm}

module _ (layout : Layout) where
  rx_kind : (p : ℕ) → p ≡ pages layout + 5 → strong_kind layout p ≡ Exec
  rx_kind p e = grind (arith, nat_tests)

  -- the runtime's pages are walkable as its steps want them
  pub record RuntimeWalks (past : History) : Type 0 where
    pub code : walkable layout past (code_page layout) Exec ≡ true
    pub state : walkable layout past (state_page layout) Write ≡ true
    pub ssa0 : walkable layout past (ssa_page layout 0) Write ≡ true
    pub ssa1 : walkable layout past (ssa_page layout 1) Write ≡ true

  mapped_as : (past : History) (p q : ℕ) (kind : Kind) → is_mapped layout past p ≡ true → p ≡ q → strong_kind layout p ≡ kind → walkable layout past q kind ≡ true
  mapped_as past p q kind h e s = subst (λ x. walkable layout past x kind ≡ true) e (subst (λ k. walkable layout past p k ≡ true) s h)

  walks : (past : History) (control : Control) → someone_inside layout past ≡ true → keeps_mapped layout (record { past = past; control = control }) ≡ true → RuntimeWalks past
  walks past control someone h =
      let all = implied (someone_inside layout past) _ someone h in
      let a = and_parts (tcs_walkable layout past) _ all in
      let b = and_parts (list_all (is_mapped layout past) (runtime_pages layout)) _ a.1 in
      let p0 = and_parts (is_mapped layout past (pages layout + 1)) _ b.0 in
      let p1 = and_parts (is_mapped layout past (pages layout + 1 + 1)) _ p0.1 in
      let p2 = and_parts (is_mapped layout past (pages layout + 1 + 1 + 1)) _ p1.1 in
      let p3 = and_parts (is_mapped layout past (pages layout + 1 + 1 + 1 + 1)) _ p2.1 in
      let p4 = and_parts (is_mapped layout past (pages layout + 1 + 1 + 1 + 1 + 1)) _ p3.1 in
      record {
        code = mapped_as past _ (code_page layout) Exec p4.0 (omega arith) (rx_kind _ (omega arith));
        state = mapped_as past _ (state_page layout) Write p3.0 (omega arith) (rw_kind layout _ (omega arith) (omega arith));
        ssa0 = mapped_as past _ (ssa_page layout 0) Write p0.0 (omega arith) (rw_kind layout _ (omega arith) (omega arith));
        ssa1 = mapped_as past _ (ssa_page layout 1) Write p1.0 (omega arith) (rw_kind layout _ (omega arith) (omega arith));
      }

  -- ---- No step faults

  abbrev AllWalk : History → List Fault → Type 0
  AllWalk past [] = Unit {0}
  AllWalk past (t ∷ all) = (access_walkable layout past t ≡ true) × AllWalk past all

  no_fault : (past : History) (all : List Fault) → AllWalk past all → first_fault layout past all ≡ None
  no_fault past [] h = refl
  no_fault past (t ∷ all) h = let e = h.0 in rw e (no_fault past all h.1)

  pub all_at : (test : ℕ → Bool) (xs : List ℕ) (i : ℕ) → list_all test xs ≡ true → i < length xs → test (slice_index xs i) ≡ true
  all_at test [] i h l = absurd (omega arith)
  all_at test (x ∷ xs) zero h l = (and_parts (test x) (list_all test xs) h).0
  all_at test (x ∷ xs) (suc i) h l = all_at test xs i (and_parts (test x) (list_all test xs) h).1 (omega arith)

  asked_all : (past : History) (phase : Phase) (i : ℕ) → (is_asked phase ≡ true → list_all (is_mapped layout past) (asked_pages layout phase) ≡ true) → i < length (asked_pages layout phase) → is_mapped layout past (slice_index (asked_pages layout phase) i) ≡ true
  asked_all past (Asked c) i h l = all_at (is_mapped layout past) (pages_of layout c) i (h refl) l
  asked_all past New i h l = absurd (omega arith)
  asked_all past Running i h l = absurd (omega arith)
  asked_all past Calling i h l = absurd (omega arith)
  asked_all past (Ended s) i h l = absurd (omega arith)
  asked_all past (Trapped x) i h l = absurd (omega arith)
  asked_all past Dead i h l = absurd (omega arith)

  walk_entry : (past : History) (control : Control) (k v d : ℕ) → RuntimeWalks past → k ≡ d → d ≤ 2 → AllWalk past (accesses layout control (Enter k v))
  walk_entry past control zero v d w e l = (w.code, (w.state, tt))
  walk_entry past control (suc zero) v d w e l = (w.code, (w.state, (w.ssa0, tt)))
  walk_entry past control (suc (suc zero)) v d w e l = (w.code, (w.state, (w.ssa0, (w.ssa1, tt))))
  walk_entry past control (suc (suc (suc k))) v d w e l = absurd (omega arith)

  walk_all : (past : History) (control : Control) (context : Context) → RuntimeWalks past → ((i : ℕ) → context ≡ Probe i → is_asked control.phase ≡ true → list_all (is_mapped layout past) (asked_pages layout control.phase) ≡ true) → ContextFits layout control.phase (length control.stack) context → AllWalk past (accesses layout control context)
  walk_all past control Program w f h = (w.code, (w.state, tt))
  walk_all past control (Enter k v) w f h = walk_entry past control k v (length control.stack) w h.0 h.1
  walk_all past control (Probe i) w f h = (w.code, (w.state, (asked_all past control.phase i (f i refl) h.1, tt)))
  walk_all past control Finish w f h = (w.code, (w.state, (w.ssa0, tt)))
  walk_all past control Guard w f h = (w.code, (w.state, tt))
  walk_all past control (Leave b a) w f h = (w.code, (w.state, tt))

  -- ---- The asked cluster is mapped while it is probed

  not_past : (phase : Phase) (last : ℕ) (context : Context) (reason : Reason) → ContextFits layout phase 0 context → is_past_probes last context reason ≡ false
  not_past phase last Program reason h = refl
  not_past phase last (Enter k v) reason h = refl
  not_past phase last (Probe i) reason h = absurd (let e = h.0 in omega arith)
  not_past phase last Finish reason h = absurd (let e = h.0 in omega arith)
  not_past phase last Guard reason h = refl
  not_past phase last (Leave b a) reason h = refl

  pub none_past : (phase : Phase) (queue : List ℕ) (last : ℕ) (stack : List Saved) → StackFits layout phase queue stack → length stack ≡ 1 → list_any (λ saved. is_past_probes last saved.context saved.reason) stack ≡ false
  none_past phase queue last [] h l = refl
  none_past phase queue last (saved ∷ []) h l = let e = not_past phase last saved.context saved.reason h.0.context in rw e refl
  none_past phase queue last (saved ∷ next ∷ older) h l = absurd (omega arith)

  probing : (past : History) (control : Control) (i : ℕ) (phase : Phase) → control.now ≡ Some (Probe i) → StackFits layout control.phase control.queue control.stack → length control.stack ≡ 1 → entered_since_ask past ≡ true → is_asked phase ≡ true → fetched_by layout (record { past = past; control = control }) phase ≡ true → list_all (is_mapped layout past) (asked_pages layout phase) ≡ true
  probing past control i (Asked c) n s l e a h =
      let done : probes_done layout c control ≡ false = rw n (none_past control.phase control.queue (length (pages_of layout c) - 1) control.stack s l) in
      let g = implied (entered_since_ask past) _ e h in
      or_other (probes_done layout c control) (cluster_is_mapped layout past c) done g
  probing past control i New n s l e a h = absurd (cc)
  probing past control i Running n s l e a h = absurd (cc)
  probing past control i Calling n s l e a h = absurd (cc)
  probing past control i (Ended x) n s l e a h = absurd (cc)
  probing past control i (Trapped x) n s l e a h = absurd (cc)
  probing past control i Dead n s l e a h = absurd (cc)

  -- ---- One turn

  module _ (past : History) (so_far : List ℕ) (control : Control) (mapped : keeps_mapped layout (record { past = past; control = control }) ≡ true) (fetched : keeps_fetched layout (record { past = past; control = control }) ≡ true) (someone : someone_inside layout past ≡ true) (orderly : IsOrderly layout so_far true control) (old : IsCalm (entered_since_ask past) control) (unbroken : control.now ≡ Some Program → is_break (due control.count control.rest) ≡ false) where
    step_calm : (context : Context) → control.now ≡ Some context → ContextFits layout control.phase (length control.stack) context → TurnCalm (entered_since_ask past) (runtime_turn layout past control context)
    step_calm context n h =
        let w = walks past control someone mapped in
        runtime_calm layout so_far (entered_since_ask past) control orderly old context n past
        (no_fault past (accesses layout control context)
        (walk_all past control context w
        (λ i e a. probing past control i control.phase (n ∙ ap Some e) orderly.stack (one i e) (was i e a) a fetched) h))
      where
        one : (i : ℕ) → context ≡ Probe i → length control.stack ≡ 1
        one i e = (subst (ContextFits layout control.phase (length control.stack)) e h).0

        was : (i : ℕ) → context ≡ Probe i → is_asked control.phase ≡ true → entered_since_ask past ≡ true
        was i e a = elim (old.asked a) [ inl x ↦ x | inr f ↦ absurd (let m = f.0 in let y : is_some control.now ≡ true = ap is_some n in cc) ]

    turn_by : (now : Option Context) → control.now ≡ now → NowFits layout control.phase control.stack now → TurnCalm (entered_since_ask past) (turn_of layout past control now)
    turn_by None n h = old
    turn_by (Some Program) n h = program_calm layout so_far (entered_since_ask past) control orderly old Program n (unbroken n)
    turn_by (Some (Enter k v)) n h = step_calm (Enter k v) n h
    turn_by (Some (Probe i)) n h = step_calm (Probe i) n h
    turn_by (Some Finish) n h = step_calm Finish n h
    turn_by (Some Guard) n h = step_calm Guard n h
    turn_by (Some (Leave b a)) n h = step_calm (Leave b a) n h

    -- a turn under the rules
    pub turn_calm : TurnCalm (entered_since_ask past) (turn layout past control)
    turn_calm = turn_by control.now refl orderly.now
