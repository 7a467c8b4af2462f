-- What is known of the last page fault, as long as the program may go on; of contexts that came back from an ask; and of a guard
-- that was resumed.
use Rattle.std.proofs.Common.{◌≡◌, ℕ, zero, suc, ◌-◌, ◌<◌, ◌≤◌, List, [], ◌∷◌, length, arith, refl, ap, subst}
use Rattle.std.specs.Prelude.{Bool, true, false, slice_index, Option, Some, None}
use Rattle.std.proofs.lemmas.Bool.{or_from, false_from_ne_true}
use Rattle.ak_core.specs.Layout.{Layout}
use Rattle.ak_core.specs.Mem.{Access}
use Rattle.ak_model.specs.Paging.Pages.{pages, pages_of}
use Rattle.ak_model.specs.Paging.Histories.{History}
use Rattle.ak_model.specs.Paging.Inside.{someone_inside}
use Rattle.ak_model.specs.Control.ControlState.{Phase, New, Running, Calling, Asked, Ended, Trapped, Dead, Context, Program, Enter, Probe, Finish, Guard, Leave, Reason, Interrupted, Cleared, Raised, Denied, Missed, Broke, Faulted, Saved, Control, is_asked}
use Rattle.ak_model.specs.Control.RuntimeTurn.{asked_pages, probed}
use Rattle.ak_model.specs.Control.Trace.{Moment}
use Rattle.ak_model.specs.Stops.Blame.{returned_at}
use Rattle.ak_model.specs.Laws.ToldFault.{refusal_or, newest_refusal, is_guard}
use Rattle.ak_model.specs.Kernels.KernelRules.{is_mapped, cluster_is_mapped, entered_since_ask, is_finish_now, probes_done, fetched_by, keeps_fetched}
use Rattle.ak_model.specs.Laws.ViolatedRule.{IsAskedFor}
use Rattle.ak_model.specs.Laws.Orderly.{ContextFits, FaultFits, SavedFits, StackFits, is_live}
use Rattle.ak_model.proofs.Kernels.NoStepStops.{none_past, all_at}
use Rattle.ak_model.proofs.Clusters.ClusterPages.{page_cluster}
use Rattle.ak_model.proofs.Stops.LeavingTurns.{has_probing, IsMild}

-- ---- What is known

module _ (layout : Layout) where
  -- a probe faulted: its page was asked for, and is to be mapped; what goes on came back for it, at the last entering at CSSA 1
  pub record Unfetched (fault : Moment) (returned : ℕ) (t : Access) : Type 0 where
    pub asked : IsAskedFor layout fault.control.phase t
    pub broken : keeps_fetched layout fault ≡ false
    pub probing : has_probing fault.control ≡ true
    pub same : returned ≡ returned_at fault.past

  -- what is known of the moment before the last fault
  abbrev pub FaultAt : Moment → ℕ → List ℕ → Option Reason → Type 0
  FaultAt fault returned queue (Some (Faulted t)) =
      (someone_inside layout fault.past ≡ true) × (t.page.0 < pages layout → Unfetched fault returned t)
  FaultAt fault returned queue (Some Broke) = (someone_inside layout fault.past ≡ true) × (fault.control.queue ≡ queue)
  FaultAt fault returned queue _ = Unit {0}

  -- and of what came back, and of the guard
  pub record Kept (fault : Moment) (comes early came_in : Bool) (returned : ℕ) (control : Control) : Type 0 where
    pub at : is_live control.phase ≡ true → FaultAt fault returned control.queue (newest_refusal control.stack)
    pub probing : is_asked control.phase ≡ true → has_probing control ≡ true → (comes ≡ true) × (came_in ≡ true)
    pub guard : is_asked control.phase ≡ true → is_guard control.now ≡ true → early ≡ true

  pub mild_at : (fault : Moment) (returned : ℕ) (queue : List ℕ) (r : Option Reason) → IsMild r → FaultAt fault returned queue r
  mild_at fault returned queue None h = tt
  mild_at fault returned queue (Some Interrupted) h = tt
  mild_at fault returned queue (Some Cleared) h = tt
  mild_at fault returned queue (Some (Raised v)) h = tt
  mild_at fault returned queue (Some Denied) h = tt
  mild_at fault returned queue (Some (Missed c)) h = tt
  mild_at fault returned queue (Some Broke) h = absurd h
  mild_at fault returned queue (Some (Faulted t)) h = absurd h

  -- ---- A fault of a probe has a context below it

  pub deep_at : (phase : Phase) (d : ℕ) (context : Context) (t : Access) → ContextFits layout phase d context → FaultFits layout phase context t → t.page.0 < pages layout → d ≡ 1
  deep_at phase d Program t h f low = absurd f
  deep_at phase d (Probe i) t h f low = h.0
  deep_at phase d (Enter k v) t h f low = absurd (let high = f.0 in omega arith)
  deep_at phase d Finish t h f low = h.0
  deep_at phase d Guard t h f low = absurd (let high = f.0 in omega arith)
  deep_at phase d (Leave b a) t h f low = absurd (let high = f.0 in omega arith)

  deep_by : (phase : Phase) (queue : List ℕ) (context : Context) (reason : Reason) (older : List Saved) (t : Access) → SavedFits layout phase queue (length older) (record { context = context; reason = reason }) → refusal_or reason (newest_refusal older) ≡ Some (Faulted t) → t.page.0 < pages layout → (newest_refusal older ≡ Some (Faulted t) → 2 ≤ length older) → 2 ≤ suc (length older)
  deep_by phase queue context Interrupted older t h e low go = let l = go e in omega arith
  deep_by phase queue context Cleared older t h e low go = let l = go e in omega arith
  deep_by phase queue context (Raised v) older t h e low go = absurd (cc)
  deep_by phase queue context Denied older t h e low go = absurd (cc)
  deep_by phase queue context (Missed c) older t h e low go = absurd (cc)
  deep_by phase queue context Broke older t h e low go = absurd (cc)
  deep_by phase queue context (Faulted u) older t h e low go =
      let same : u ≡ t = cc in
      let one = deep_at phase (length older) context t h.context (subst (FaultFits layout phase context) same h.reason) low in omega arith

  pub deep : (phase : Phase) (queue : List ℕ) (stack : List Saved) (t : Access) → StackFits layout phase queue stack → newest_refusal stack ≡ Some (Faulted t) → t.page.0 < pages layout → 2 ≤ length stack
  deep phase queue [] t h e low = absurd (cc)
  deep phase queue (saved ∷ older) t h e low = deep_by phase queue saved.context saved.reason older t h.0 e low (λ x. deep phase queue older t h.1 x low)

  -- the guard stands alone while a cluster is asked for
  pub guard_alone : (phase : Phase) (d : ℕ) (context : Context) → ContextFits layout phase d context → is_guard (Some context) ≡ true → is_asked phase ≡ true → d ≡ 0
  guard_alone phase d Guard h g a = by_depth d refl
    where
      by_depth : (n : ℕ) → d ≡ n → d ≡ 0
      by_depth zero e = e
      by_depth (suc n) e =
          let one : d ≡ 1 = let l = h.0 in omega arith in
          absurd (let x : is_asked phase ≡ false = ap is_asked (h.2 one) in cc)
  guard_alone phase d Program h g a = absurd (cc)
  guard_alone phase d (Enter k v) h g a = absurd (cc)
  guard_alone phase d (Probe i) h g a = absurd (cc)
  guard_alone phase d Finish h g a = absurd (cc)
  guard_alone phase d (Leave b a') h g a = absurd (cc)

  -- ---- The page of a probe that faulted was asked for, and is to be mapped

  pub asked_for : (phase : Phase) (i : ℕ) → i < length (asked_pages layout phase) → IsAskedFor layout phase (probed layout phase i)
  asked_for (Asked c) i l = (page_cluster layout c i l, refl)
  asked_for New i l = absurd (omega arith)
  asked_for Running i l = absurd (omega arith)
  asked_for Calling i l = absurd (omega arith)
  asked_for (Ended s) i l = absurd (omega arith)
  asked_for (Trapped x) i l = absurd (omega arith)
  asked_for Dead i l = absurd (omega arith)

  pub unmapped : (past : History) (c i : ℕ) → i < length (pages_of layout c) → is_mapped layout past (slice_index (pages_of layout c) i) ≡ false → cluster_is_mapped layout past c ≡ false
  unmapped past c i l h =
      false_from_ne_true (cluster_is_mapped layout past c) (λ all. let there = all_at layout (is_mapped layout past) (pages_of layout c) i all l in cc)

  pub not_fetched : (moment : Moment) (queue : List ℕ) (phase : Phase) (i : ℕ) → i < length (asked_pages layout phase) → entered_since_ask moment.past ≡ true → is_finish_now moment.control.now ≡ false → length moment.control.stack ≡ 1 → StackFits layout phase queue moment.control.stack → is_mapped layout moment.past (slice_index (asked_pages layout phase) i) ≡ false → fetched_by layout moment phase ≡ false
  not_fetched moment queue (Asked c) i l e f one s m =
      let none = none_past layout (Asked c) queue (length (pages_of layout c) - 1) moment.control.stack s one in
      let done : probes_done layout c moment.control ≡ false = or_from (is_finish_now moment.control.now) _ f none in
      let lost = unmapped moment.past c i l m in
      rw (e, done, lost) refl
  not_fetched moment queue New i l e f one s m = absurd (omega arith)
  not_fetched moment queue Running i l e f one s m = absurd (omega arith)
  not_fetched moment queue Calling i l e f one s m = absurd (omega arith)
  not_fetched moment queue (Ended x) i l e f one s m = absurd (omega arith)
  not_fetched moment queue (Trapped x) i l e f one s m = absurd (omega arith)
  not_fetched moment queue Dead i l e f one s m = absurd (omega arith)
