-- What the invariant says of the kernel's rules: what is in is mapped, what is out is not.
use Rattle.std.proofs.Common.{◌≡◌, ℕ, zero, suc, ◌+◌, ◌<◌, ◌≤◌, arith, List, [], ◌∷◌, refl, sym, ◌∙◌, subst, ap}
use Rattle.std.specs.Prelude.{Bool, true, false, not, ◌&&◌, nat_lt, ◌==◌}
use Rattle.std.specs.List.{range_with_len, list_all}
use Rattle.std.proofs.lemmas.Bool.{and_from}
use Rattle.std.proofs.lemmas.Bool.Decides.{nat_tests}
use Rattle.ak_core.specs.Layout.{Layout}
use Rattle.ak_core.specs.declared.page.Kind.{Kind}
use Rattle.ak_core.specs.declared.page.Kind.TheVariants.{Write, Exec}
use Rattle.ak_model.specs.Paging.Pages.{pages, pages_of, cluster_at, ssa_page, state_page, code_page, strong_kind}
use Rattle.ak_model.specs.Paging.Histories.{History}
use Rattle.ak_model.specs.Paging.Inside.{someone_inside}
use Rattle.ak_model.specs.Clusters.Queue.{is_in}
use Rattle.ak_model.specs.Paging.Walk.{walkable, tcs_walkable}
use Rattle.ak_model.specs.Control.ControlState.{Control}
use Rattle.ak_model.specs.Kernels.Counted.{service}
use Rattle.ak_model.specs.Kernels.KernelRules.{is_mapped, cluster_is_mapped, runtime_pages, keeps_mapped}
use Rattle.ak_model.specs.Laws.OneLiveCopy.{OneCopy}
use Rattle.ak_driver.proofs.Invariant.PageStates.{PageState, In}
use Rattle.ak_driver.proofs.Invariant.Untouched.{Untouched}
use Rattle.ak_driver.proofs.Invariant.Spots.{Spot, Idle, Entered, InProgram, Leaving, Left, Handling, Requested, Answering, Resumable, Over, Progress, control_at}
use Rattle.ak_driver.proofs.Invariant.HonestMoments.{IsHonest, MayBe, dropped_for}
use Rattle.ak_driver.proofs.Turns.EnteringMoves.{or_true}
use Rattle.ak_driver.proofs.Serving.Finding.{Each, IsOf, each_of}
use Rattle.ak_driver.proofs.Pages.WalkedPages.{ssa_walks, state_walks, code_walks, tcs_walks, in_mapped}

-- a test that holds of each holds of all
pub all_by : (P : ℕ → Type 0) (test : ℕ → Bool) (xs : List ℕ) → Each P xs → ((x : ℕ) → P x → test x ≡ true) → list_all test xs ≡ true
all_by P test [] e h = refl
all_by P test (x ∷ xs) e h = let a = h x e.0 in let b = all_by P test xs e.1 h in rw (a, b) refl

-- each number of a range
pub in_range : (n a b : ℕ) → a + n ≤ b → Each (λ p. p < b) (range_with_len a n)
in_range zero a b h = tt
in_range (suc n) a b h = (omega arith, in_range n (a + 1) b (omega arith))

module _ (layout : Layout) (past : History) (untouched : Untouched layout past) where
  strong_area : (i : ℕ) → i < 4 → strong_kind layout (pages layout + 1 + i) ≡ Write
  strong_area i low =
      let n = pages layout in
      let a : nat_lt (n + 1 + i) n ≡ false = grind (arith, nat_tests) in
      let b : (n + 1 + i == n) ≡ false = grind (arith, nat_tests) in
      let c : nat_lt (n + 1 + i) (n + 5) ≡ true = grind (arith, nat_tests) in
      rw (a, b, c) refl

  strong_code : strong_kind layout (code_page layout) ≡ Exec
  strong_code =
      let n = pages layout in
      let a : nat_lt (n + 5) n ≡ false = grind (arith, nat_tests) in
      let b : (n + 5 == n) ≡ false = grind (arith, nat_tests) in
      let c : nat_lt (n + 5) (n + 5) ≡ false = grind (arith, nat_tests) in
      let d : (n + 5 == n + 5) ≡ true = grind (arith, nat_tests) in
      rw (a, b, c, d) refl

  mapped_as : (p q : ℕ) (kind : Kind) → q ≡ p → strong_kind layout p ≡ kind → walkable layout past p kind ≡ true → is_mapped layout past q ≡ true
  mapped_as p q kind e s w = subst (λ x. is_mapped layout past x ≡ true) (sym e) (ap (walkable layout past p) s ∙ w)

  pub runtime_mapped : list_all (is_mapped layout past) (runtime_pages layout) ≡ true
  runtime_mapped =
      let n = pages layout in
      let a = mapped_as (ssa_page layout 0) (n + 1) Write (omega arith) (strong_area 0 (omega arith)) (ssa_walks layout past untouched 0 (omega arith)) in
      let b = mapped_as (ssa_page layout 1) (n + 1 + 1) Write refl (strong_area 1 (omega arith)) (ssa_walks layout past untouched 1 (omega arith)) in
      let c = mapped_as (ssa_page layout 2) (n + 1 + 1 + 1) Write (omega arith) (strong_area 2 (omega arith)) (ssa_walks layout past untouched 2 (omega arith)) in
      let s : strong_kind layout (state_page layout) ≡ Write = let e : n + 4 ≡ n + 1 + 3 = omega arith in ap (strong_kind layout) e ∙ strong_area 3 (omega arith) in
      let d = mapped_as (state_page layout) (n + 1 + 1 + 1 + 1) Write (omega arith) s (state_walks layout past untouched) in
      let x = mapped_as (code_page layout) (n + 1 + 1 + 1 + 1 + 1) Exec (omega arith) strong_code (code_walks layout past untouched) in
      and_from _ _ a (and_from _ _ b (and_from _ _ c (and_from _ _ d (and_from _ _ x refl))))

module _ (layout : Layout) (past : History) (control : Control) (spot : Spot) (rest : Progress) (states : ℕ → PageState) (copies : OneCopy layout past) (old : IsHonest layout past control spot rest states) where
  -- a page whose cluster is in is in
  may_in : (spot : Spot) (dropped : Bool) (x : ℕ) (state : PageState) → MayBe spot true dropped x state → state ≡ In
  may_in (Requested c) dropped x state h = h
  may_in (Answering c step) dropped x state h = h
  may_in (Idle called) dropped x state h = h
  may_in (Entered called v) dropped x state h = h
  may_in InProgram dropped x state h = h
  may_in (Leaving b a) dropped x state h = h
  may_in (Left fault) dropped x state h = h
  may_in (Handling fault v) dropped x state h = h
  may_in Resumable dropped x state h = h
  may_in (Over end stack) dropped x state h = h

  pub in_by_queue : (p : ℕ) → p < pages layout → is_in rest.queue (cluster_at layout p) ≡ true → states p ≡ In
  in_by_queue p low h =
      may_in spot (is_in (dropped_for (service past).request) (cluster_at layout p)) (cluster_at layout p) (states p)
      (subst (λ b. MayBe spot b (is_in (dropped_for (service past).request) (cluster_at layout p)) (cluster_at layout p) (states p)) h (old.fits p low))

  queue_mapped : (queue : List ℕ) → ((c : ℕ) → is_in queue c ≡ true → is_in rest.queue c ≡ true) → list_all (cluster_is_mapped layout past) queue ≡ true
  queue_mapped [] h = refl
  queue_mapped (c ∷ queue) h =
      let own : is_in (c ∷ queue) c ≡ true = let e : (c == c) ≡ true = grind (arith, nat_tests) in rw e refl in
      let a : cluster_is_mapped layout past c ≡ true = all_by (IsOf layout c) (is_mapped layout past) (pages_of layout c) (each_of layout c)
      (λ p of. in_mapped layout past states copies old.stands p of.0 (in_by_queue p of.0 (subst (λ x. is_in rest.queue x ≡ true) (sym of.1) (h c own)))) in
      let b = queue_mapped queue (λ d t. h d (let e = t in rw e (or_true (c == d)))) in
      and_from _ _ a b

  -- the runtime's pages and what is in are mapped, whoever is inside
  pub keeps_in : keeps_mapped layout (record { past = past; control = control }) ≡ true
  keeps_in =
      let t = tcs_walks layout past old.stands.untouched in
      let r = runtime_mapped layout past old.stands.untouched in
      let q : list_all (cluster_is_mapped layout past) control.queue ≡ true = ap (λ c. list_all (cluster_is_mapped layout past) c.queue) old.control_is ∙ queue_at spot in
      let all : (tcs_walkable layout past && (list_all (is_mapped layout past) (runtime_pages layout) && list_all (cluster_is_mapped layout past) control.queue)) ≡ true = and_from _ _ t (and_from _ _ r q) in
      rw all (or_true (not (someone_inside layout past)))
    where
      queue_at : (spot : Spot) → list_all (cluster_is_mapped layout past) (control_at spot rest).queue ≡ true
      queue_at (Idle called) = queue_mapped rest.queue (λ c h. h)
      queue_at (Entered called v) = queue_mapped rest.queue (λ c h. h)
      queue_at InProgram = queue_mapped rest.queue (λ c h. h)
      queue_at (Leaving b a) = queue_mapped rest.queue (λ c h. h)
      queue_at (Left fault) = queue_mapped rest.queue (λ c h. h)
      queue_at (Handling fault v) = queue_mapped rest.queue (λ c h. h)
      queue_at (Requested c) = queue_mapped rest.queue (λ c h. h)
      queue_at (Answering c step) = queue_mapped rest.queue (λ c h. h)
      queue_at Resumable = queue_mapped rest.queue (λ c h. h)
      queue_at (Over end stack) = queue_mapped rest.queue (λ c h. h)
