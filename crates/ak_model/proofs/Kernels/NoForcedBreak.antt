-- Under the rules each permitted access to a cluster that is in is walkable, so that no break is forced.
use Rattle.std.proofs.Common.{◌≡◌, ℕ, zero, suc, ◌+◌, ◌<◌, ◌≤◌, List, [], ◌∷◌, arith, refl, sym, subst}
use Rattle.std.specs.Prelude.{Bool, true, false, ◌||◌, cond, filter, Some, ◌==◌, Option, None}
use Rattle.std.specs.List.{range_with_len, list_all}
use Rattle.std.proofs.lemmas.Bool.{and_parts, eqb-true, eqb-false, eq-eqb, not-false}
use Rattle.ak_core.specs.Layout.{Layout}
use Rattle.ak_core.specs.Mem.{Access}
use Rattle.ak_model.specs.Paging.Pages.{pages, cluster_at, permits}
use Rattle.ak_model.specs.Paging.Histories.{History}
use Rattle.ak_model.specs.Paging.Inside.{someone_inside}
use Rattle.ak_model.specs.Paging.Walk.{access_walkable, tcs_walkable}
use Rattle.ak_model.specs.Clusters.Queue.{is_in}
use Rattle.ak_model.specs.Control.ControlState.{Program, Control}
use Rattle.ak_model.specs.Kernels.KernelRules.{is_mapped, cluster_is_mapped, runtime_pages, keeps_mapped}
use Rattle.ak_model.specs.Laws.Orderly.{IsOrderly}
use Rattle.ak_model.specs.Flat.FlatRuns.{FlatRun}
use Rattle.ak_model.specs.Tapes.LastMoment.{FlatRuns}
use Rattle.ak_model.specs.Misses.Reached.{accesses_next}
use Rattle.ak_model.specs.Tapes.ProgramTurns.{ProgramTurn, turn_at}
use Rattle.ak_model.specs.Sound.Forced.{queue_by, BreakIsForced}
use Rattle.ak_model.proofs.Paging.Tests.{implied}
use Rattle.ak_model.proofs.Paging.MappedIsWalkable.{walkable-strong}
use Rattle.ak_model.proofs.Control.OrderlyTurns.{in_program}
use Rattle.ak_model.proofs.Flat.ProgramPages.{AllLow, line_low, low_at}

in_by : (test : ℕ → Bool) (x c : ℕ) (later : Bool) (same : Bool) → (x == c) ≡ same → (same || later) ≡ true → test x ≡ true → (later ≡ true → test c ≡ true) → test c ≡ true
in_by test x c later true e h here go = subst (λ y. test y ≡ true) (eqb-true x c e) here
in_by test x c later false e h here go = go h

-- what holds of each cluster of a queue holds of one that is in it
pub all_in : (test : ℕ → Bool) (queue : List ℕ) (c : ℕ) → list_all test queue ≡ true → is_in queue c ≡ true → test c ≡ true
all_in test [] c h e = absurd (cc)
all_in test (x ∷ queue) c h e =
    let parts = and_parts (test x) (list_all test queue) h in
    in_by test x c (is_in queue c) (x == c) refl e parts.0 (all_in test queue c parts.1)

kept_by : (test keep : ℕ → Bool) (a p : ℕ) (rest : List ℕ) (same b : Bool) → (a == p) ≡ same → keep a ≡ b → keep p ≡ true → list_all test (cond b (a ∷ rest) rest) ≡ true → ((a ≡ p → ⊥) → list_all test rest ≡ true → test p ≡ true) → test p ≡ true
kept_by test keep a p rest true true e k h all go = subst (λ y. test y ≡ true) (eqb-true a p e) (and_parts (test a) (list_all test rest) all).0
kept_by test keep a p rest true false e k h all go = absurd (let s = subst (λ y. keep y ≡ true) (sym (eqb-true a p e)) h in cc)
kept_by test keep a p rest false true e k h all go = go (eqb-false a p e) (and_parts (test a) (list_all test rest) all).1
kept_by test keep a p rest false false e k h all go = go (eqb-false a p e) all

-- what holds of each number that is kept of a range holds of one
pub all_kept : (test keep : ℕ → Bool) (n a p : ℕ) → a ≤ p → p < a + n → keep p ≡ true → list_all test (filter keep (range_with_len a n)) ≡ true → test p ≡ true
all_kept test keep zero a p low high h all = absurd (omega arith)
all_kept test keep (suc n) a p low high h all =
    kept_by test keep a p (filter keep (range_with_len (a + 1) n)) (a == p) (keep a) refl refl h all
    (λ ne rest. all_kept test keep n (a + 1) p (omega arith) (omega arith) h rest)

-- under the rules a permitted access to a page of the program whose cluster is in is walkable
pub in-walkable : (layout : Layout) (so_far : List ℕ) (past : History) (control : Control) (t : Access) → IsOrderly layout so_far true control → control.now ≡ Some Program → someone_inside layout past ≡ true → keeps_mapped layout (record { past = past; control = control }) ≡ true → t.page.0 < pages layout → permits layout t.page.0 t.kind ≡ true → is_in so_far (cluster_at layout t.page.0) ≡ true → access_walkable layout past t ≡ true
in-walkable layout so_far past control t orderly program someone mapped low allowed inside =
    let c : ℕ = cluster_at layout t.page.0 in
    let all = implied (someone_inside layout past) _ someone mapped in
    let most = and_parts (tcs_walkable layout past) _ all in
    let clusters = (and_parts (list_all (is_mapped layout past) (runtime_pages layout)) _ most.1).1 in
    let here : is_in control.queue c ≡ true = subst (λ q. is_in q c ≡ true) (sym (in_program layout so_far true control orderly program)) inside in
    let cluster : cluster_is_mapped layout past c ≡ true = all_in (cluster_is_mapped layout past) control.queue c clusters here in
    let page : is_mapped layout past t.page.0 ≡ true =
    all_kept (is_mapped layout past) (λ p. cluster_at layout p == c) (pages layout) 0 t.page.0 (omega arith) (omega arith) (eq-eqb (cluster_at layout t.page.0) c refl) cluster in
    walkable-strong layout past t.page.0 t.kind page allowed

-- ---- Breaks

pub next_low : (layout : Layout) (run : Option FlatRun) → AllLow layout (accesses_next layout run)
next_low layout None = tt
next_low layout (Some run) = line_low layout run.flat

-- under the rules no break is forced
pub not-broken : (layout : Layout) (runs : FlatRuns) (older : List ProgramTurn) (lp : ℕ) (past : History) (control : Control) → IsOrderly layout (queue_by layout older) true control → control.now ≡ Some Program → someone_inside layout past ≡ true → keeps_mapped layout (record { past = past; control = control }) ≡ true → BreakIsForced layout runs (turn_at lp past control) older → ⊥
not-broken layout runs older lp past control orderly program someone mapped forced =
    let f = forced.faults in let t = forced.access in
    let low : t.page.0 < pages layout = low_at layout (accesses_next layout (runs control.count)) f.place t (next_low layout (runs control.count)) f.stands in
    let allowed : permits layout t.page.0 t.kind ≡ true = not-false (permits layout t.page.0 t.kind) f.permitted in
    let walks = in-walkable layout (queue_by layout older) past control t orderly program someone mapped low allowed forced.inside in
    let lost = f.unmapped in cc
