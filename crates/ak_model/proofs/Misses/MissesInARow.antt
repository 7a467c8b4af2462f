-- Misses of one instruction in a row: each stays in, so they are different clusters, and no more than its accesses.
use Rattle.std.proofs.Common.{◌≡◌, ◌⊎◌, ℕ, zero, suc, ◌+◌, ◌<◌, ◌≤◌, List, [], ◌∷◌, ◌++◌, length, map, drop, arith, inl, inr, refl, sym, ap, ◌∙◌, subst, append_assoc}
use Rattle.std.specs.Prelude.{Bool, true, false, not, cond, fold, Option, Some, None, option_map, ◌-◌, ◌==◌}
use Rattle.std.proofs.lemmas.Bool.{eqb-true, or_parts, or_right, or_cases}
use Rattle.std.proofs.lemmas.List.{append-nil, length-append, length-map, drop-append-le, drop_at}
use Rattle.std.proofs.lemmas.List.Folds.{list_any-append}
use Rattle.std.proofs.lemmas.List.Sums.{sum_by-append, sum_by-cons}
use Rattle.ak_core.specs.Layout.{Layout, IsValid, size_of}
use Rattle.ak_core.specs.Mem.{Access}
use Rattle.ak_model.specs.Paging.Pages.{cluster_at}
use Rattle.ak_model.specs.Clusters.Queue.{drops, after_miss, is_in}
use Rattle.ak_model.specs.Laws.Orderly.{IsDistinct}
use Rattle.ak_model.specs.Misses.Ideal.{first_out, missed, misses_of, misses_from}
use Rattle.ak_model.proofs.Clusters.FewestLeave.{FitsWith, drops_least}
use Rattle.ak_model.proofs.Clusters.DistinctQueues.{distinct-append}
use Rattle.ak_model.proofs.Tapes.EventsTaken.{cluster_below}
use Rattle.ak_model.proofs.Clusters.FourLargest.{without, present, apart, four_fit}

-- ---- Lists of numbers

-- each of these numbers is one of those
abbrev pub AreAmong : List ℕ → List ℕ → Type 0
AreAmong known numbers = (c : ℕ) → is_in numbers c ≡ true → is_in known c ≡ true

-- different numbers are no more than a list that has them all
pub few_distinct : (numbers known : List ℕ) → IsDistinct numbers → AreAmong known numbers → length numbers ≤ length known
few_distinct [] known d h = omega arith
few_distinct (x ∷ numbers) known d h =
    let w = without known x (h x (present x numbers)) in
    let others : AreAmong w.rest numbers = λ y k. w.others y (λ e. apart numbers y x k d.0 (sym e)) (h y (or_right (x == y) (is_in numbers y) k)) in
    let few = few_distinct numbers w.rest d.1 others in
    let s = w.shorter in omega arith

same_among : (known : List ℕ) (c y : ℕ) → is_in known c ≡ true → is_in (c ∷ []) y ≡ true → is_in known y ≡ true
same_among known c y k h =
    elim (or_cases (c == y) false h) [ inl e ↦ subst (λ x. is_in known x ≡ true) (eqb-true c y e) k | inr e ↦ absurd (cc) ]

-- one more at the back
among_append : (known numbers : List ℕ) (c : ℕ) → AreAmong known numbers → is_in known c ≡ true → AreAmong known (numbers ++ c ∷ [])
among_append known numbers c h k y i =
    elim (or_cases (is_in numbers y) (is_in (c ∷ []) y) (sym (list_any-append (λ x. x == y) numbers (c ∷ [])) ∙ i)) [
      | inl l ↦ h y l
      | inr r ↦ same_among known c y k r
    ]

-- the back of a queue is in
pub in_back : (front back : List ℕ) (c : ℕ) → is_in back c ≡ true → is_in (front ++ back) c ≡ true
in_back front back c h = list_any-append (λ x. x == c) front back ∙ or_right (is_in front c) (is_in back c) h

-- what is out is not at the back
out_back : (front back : List ℕ) (c : ℕ) → is_in (front ++ back) c ≡ false → is_in back c ≡ false
out_back front back c h = (or_parts (is_in front c) (is_in back c) (sym (list_any-append (λ x. x == c) front back) ∙ h)).1

-- ---- One miss

module _ (layout : Layout) where
  -- the back of the queue stays, where it fits the budget with the cluster that is missed
  pub back_stays : (front back : List ℕ) (c : ℕ) → FitsWith layout back c → after_miss layout (front ++ back) c ≡ drop (drops layout (front ++ back) c) front ++ (back ++ c ∷ [])
  back_stays front back c fits =
      let d = drops layout (front ++ back) c in
      let least : d ≤ length front = drops_least layout c (front ++ back) (length front) (subst (λ rest. FitsWith layout rest c) (sym (drop_at front back (length front) refl)) fits) in
      ap (λ rest. rest ++ c ∷ []) (drop-append-le d front back least) ∙ append_assoc (drop d front) back (c ∷ [])

  -- ---- Misses in a row

  -- misses of clusters among these, oldest first: each is out by those before it
  abbrev pub MissRun : List ℕ → List ℕ → List ℕ → Type 0
  MissRun known queue [] = Unit {0}
  MissRun known queue (c ∷ misses) =
      (is_in known c ≡ true) × (is_in queue c ≡ false) × MissRun known (after_miss layout queue c) misses

  -- one more
  pub run-more : (known queue misses : List ℕ) (c : ℕ) → MissRun known queue misses → is_in known c ≡ true → is_in (fold (after_miss layout) queue misses) c ≡ false → MissRun known queue (misses ++ c ∷ [])
  run-more known queue [] c h k out = (k, out, tt)
  run-more known queue (x ∷ misses) c h k out = (h.0, h.1, run-more known (after_miss layout queue x) misses c h.2 k out)

  -- what comes of it: the clusters are different, among the known ones, and stand at the back of the queue
  pub record RunFits (known queue misses : List ℕ) : Type 0 where
    pub distinct : IsDistinct misses
    pub among : AreAmong known misses
    pub few : length misses ≤ length known
    pub front : List ℕ
    pub stay : fold (after_miss layout) queue misses ≡ front ++ misses

module _ (layout : Layout) (valid : IsValid layout) (known : List ℕ) (clusters : (c : ℕ) → is_in known c ≡ true → c < layout.clusters) (four : length known ≤ 4) where
  -- clusters among the known ones that were missed in a row, and one more, fit the budget
  next_fits : (done : List ℕ) (c : ℕ) → IsDistinct (done ++ c ∷ []) → AreAmong known (done ++ c ∷ []) → FitsWith layout done c
  next_fits done c d h =
      let few = few_distinct (done ++ c ∷ []) known d h in
      let fit = four_fit layout valid (done ++ c ∷ []) d (λ x k. clusters x (h x k)) (omega arith) in
      let total = sum_by-append (size_of layout.cluster_of) done (c ∷ []) in
      let one = sum_by-cons (size_of layout.cluster_of) c [] in
      omega arith

  run_from : (front done misses : List ℕ) → IsDistinct done → AreAmong known done → MissRun layout known (front ++ done) misses → IsDistinct (done ++ misses) × AreAmong known (done ++ misses) × (rest : List ℕ) × (fold (after_miss layout) (front ++ done) misses ≡ rest ++ (done ++ misses))
  run_from front done [] d h run =
      let e = append-nil done in
      (subst IsDistinct (sym e) d, subst (AreAmong known) (sym e) h, front, ap (λ back. front ++ back) (sym e))
  run_from front done (c ∷ misses) d h run =
      let d' = distinct-append done c d (out_back front done c run.1) in
      let h' = among_append known done c h run.0 in
      let step = back_stays layout front done c (next_fits done c d' h') in
      let rest = drop (drops layout (front ++ done) c) front in
      let go = run_from rest (done ++ c ∷ []) misses d' h' (subst (λ queue. MissRun layout known queue misses) step run.2) in
      let e = append_assoc done (c ∷ []) misses in (
        subst IsDistinct e go.0,
        subst (AreAmong known) e go.1,
        go.2,
        ap (λ queue. fold (after_miss layout) queue misses) step ∙ go.3 ∙ ap (λ back. go.2 ++ back) e,
      )

  -- clusters among four at most that are missed in a row are different, and each stays in
  pub run_fits : (queue misses : List ℕ) → MissRun layout known queue misses → RunFits layout known queue misses
  run_fits queue misses run =
      let none : AreAmong known [] = λ c h. absurd (cc) in
      let go = run_from queue [] misses tt none (subst (λ queue. MissRun layout known queue misses) (sym (append-nil queue)) run) in
      record {
        distinct = go.0;
        among = go.1;
        few = few_distinct misses known go.0 go.1;
        front = go.2;
        stay = ap (λ queue. fold (after_miss layout) queue misses) (sym (append-nil queue)) ∙ go.3;
      }

  -- each is in after all of them
  pub run_stays : (queue misses : List ℕ) → MissRun layout known queue misses → AreAmong (fold (after_miss layout) queue misses) misses
  run_stays queue misses run c h =
      let fits = run_fits queue misses run in
      subst (λ queue. is_in queue c ≡ true) (sym fits.stay) (in_back fits.front misses c h)

-- ---- The accesses of an instruction

-- the clusters of these accesses
abbrev pub clusters_of : Layout → List Access → List ℕ
clusters_of layout accesses = map (λ t. cluster_at layout t.page.0) accesses

pub clusters_known : (layout : Layout) → IsValid layout → (accesses : List Access) (c : ℕ) → is_in (clusters_of layout accesses) c ≡ true → c < layout.clusters
clusters_known layout valid [] c h = absurd (cc)
clusters_known layout valid (t ∷ accesses) c h =
    elim (or_cases (cluster_at layout t.page.0 == c) (is_in (clusters_of layout accesses) c) h) [
      | inl e ↦ subst (λ x. x < layout.clusters) (eqb-true (cluster_at layout t.page.0) c e) (cluster_below layout valid t.page.0)
      | inr k ↦ clusters_known layout valid accesses c k
    ]

-- misses in a row of clusters of four accesses at most
pub accesses_fit : (layout : Layout) → IsValid layout → (accesses : List Access) → length accesses ≤ 4 → (queue misses : List ℕ) → MissRun layout (clusters_of layout accesses) queue misses → RunFits layout (clusters_of layout accesses) queue misses
accesses_fit layout valid accesses four queue misses run =
    run_fits layout valid (clusters_of layout accesses) (clusters_known layout valid accesses) (omega (arith, length-map accesses (λ t. cluster_at layout t.page.0))) queue misses run

-- they are no more than the accesses
pub accesses_few : (layout : Layout) → IsValid layout → (accesses : List Access) → length accesses ≤ 4 → (queue misses : List ℕ) → MissRun layout (clusters_of layout accesses) queue misses → length misses ≤ length accesses
accesses_few layout valid accesses four queue misses run =
    let few = (accesses_fit layout valid accesses four queue misses run).few in
    omega (arith, length-map accesses (λ t. cluster_at layout t.page.0))

-- ---- The misses of the first access that is out

module _ (layout : Layout) (accesses : List Access) where
  -- the cluster of an access
  abbrev cluster_of : Access → ℕ
  cluster_of t = cluster_at layout t.page.0

  out_by : (queue : List ℕ) (t u : Access) (rest : List Access) (b : Bool) → is_in queue (cluster_of t) ≡ b → (first_out layout queue rest ≡ Some u → (is_in (clusters_of layout rest) (cluster_of u) ≡ true) × (is_in queue (cluster_of u) ≡ false)) → cond (not b) (Some t) (first_out layout queue rest) ≡ Some u → (is_in (clusters_of layout (t ∷ rest)) (cluster_of u) ≡ true) × (is_in queue (cluster_of u) ≡ false)
  out_by queue t u rest true e go h =
      let k = go h in
      (or_right (cluster_of t == cluster_of u) (is_in (clusters_of layout rest) (cluster_of u)) k.0, k.1)
  out_by queue t u rest false e go h =
      let same : t ≡ u = cc in
      subst (λ u. (is_in (clusters_of layout (t ∷ rest)) (cluster_of u) ≡ true) × (is_in queue (cluster_of u) ≡ false)) same (present (cluster_of t) (clusters_of layout rest), e)

  -- the first access that is out is one of them, and out
  pub out_is_among : (queue : List ℕ) (u : Access) (all : List Access) → first_out layout queue all ≡ Some u → (is_in (clusters_of layout all) (cluster_of u) ≡ true) × (is_in queue (cluster_of u) ≡ false)
  out_is_among queue u [] h = absurd (cc)
  out_is_among queue u (t ∷ rest) h = out_by queue t u rest (is_in queue (cluster_of t)) refl (out_is_among queue u rest) h

  run_by : (queue : List ℕ) (o : Option Access) (next : List ℕ → List ℕ) → first_out layout queue accesses ≡ o → ((later : List ℕ) → MissRun layout (clusters_of layout accesses) later (next later)) → MissRun layout (clusters_of layout accesses) queue (missed layout queue o next)
  run_by queue None next e go = tt
  run_by queue (Some t) next e go =
      let out = out_is_among queue t accesses e in (out.0, out.1, go (after_miss layout queue (cluster_of t)))

  -- the misses of these accesses are such a row
  pub misses-run : (n : ℕ) (queue : List ℕ) → MissRun layout (clusters_of layout accesses) queue (misses_of layout accesses n queue)
  misses-run zero queue = tt
  misses-run (suc n) queue =
      run_by queue (first_out layout queue accesses) (misses_of layout accesses n) refl (misses-run n)

  -- a miss of the first access that is out, each time
  abbrev pub FirstRun : List ℕ → List ℕ → Type 0
  FirstRun queue [] = Unit {0}
  FirstRun queue (c ∷ misses) =
      (option_map cluster_of (first_out layout queue accesses) ≡ Some c) × FirstRun (after_miss layout queue c) misses

  missed_first : (queue : List ℕ) (c : ℕ) (o : Option Access) (next : List ℕ → List ℕ) → option_map cluster_of o ≡ Some c → missed layout queue o next ≡ c ∷ next (after_miss layout queue c)
  missed_first queue c None next h = absurd (cc)
  missed_first queue c (Some t) next h = let same : cluster_of t ≡ c = cc in ap (λ c. c ∷ next (after_miss layout queue c)) same

  -- those misses are the first ones, and the others follow
  pub first-misses : (queue misses : List ℕ) (n : ℕ) → FirstRun queue misses → misses_of layout accesses (length misses + n) queue ≡ misses ++ misses_of layout accesses n (fold (after_miss layout) queue misses)
  first-misses queue [] n h = let e : 0 + n ≡ n = omega arith in ap (λ m. misses_of layout accesses m queue) e
  first-misses queue (c ∷ misses) n h =
      let e : length (c ∷ misses) + n ≡ suc (length misses + n) = omega arith in
      ap (λ m. misses_of layout accesses m queue) e
      ∙ missed_first queue c (first_out layout queue accesses) (misses_of layout accesses (length misses + n)) h.0
      ∙ ap (λ rest. c ∷ rest) (first-misses (after_miss layout queue c) misses n h.1)

  first_by : (queue : List ℕ) (c : ℕ) (o : Option Access) → first_out layout queue accesses ≡ o → option_map cluster_of o ≡ Some c → (is_in (clusters_of layout accesses) c ≡ true) × (is_in queue c ≡ false)
  first_by queue c None e h = absurd (cc)
  first_by queue c (Some t) e h =
      let same : cluster_of t ≡ c = cc in
      subst (λ c. (is_in (clusters_of layout accesses) c ≡ true) × (is_in queue c ≡ false)) same (out_is_among queue t accesses e)

  pub first-run : (queue misses : List ℕ) → FirstRun queue misses → MissRun layout (clusters_of layout accesses) queue misses
  first-run queue [] h = tt
  first-run queue (c ∷ misses) h =
      let out = first_by queue c (first_out layout queue accesses) refl h.0 in
      (out.0, out.1, first-run (after_miss layout queue c) misses h.1)

  none_left : (n : ℕ) (queue : List ℕ) → first_out layout queue accesses ≡ None → misses_of layout accesses n queue ≡ []
  none_left zero queue h = refl
  none_left (suc n) queue h = ap (λ o. missed layout queue o (misses_of layout accesses n)) h

  end_by : (queue : List ℕ) (n : ℕ) (o : Option Access) (next : List ℕ → List ℕ) → first_out layout queue accesses ≡ o → ((later : List ℕ) → (first_out layout (fold (after_miss layout) later (next later)) accesses ≡ None) ⊎ (length (next later) ≡ n)) → (first_out layout (fold (after_miss layout) queue (missed layout queue o next)) accesses ≡ None) ⊎ (length (missed layout queue o next) ≡ suc n)
  end_by queue n None next e go = inl e
  end_by queue n (Some t) next e go =
      elim (go (after_miss layout queue (cluster_of t))) [ inl k ↦ inl k | inr l ↦ inr (omega arith) ]

  -- none is out any more, or as many were missed as were allowed
  end_or_all : (n : ℕ) (queue : List ℕ) → (first_out layout (fold (after_miss layout) queue (misses_of layout accesses n queue)) accesses ≡ None) ⊎ (length (misses_of layout accesses n queue) ≡ n)
  end_or_all zero queue = inr refl
  end_or_all (suc n) queue =
      end_by queue n (first_out layout queue accesses) (misses_of layout accesses n) refl (end_or_all n)

module _ (layout : Layout) (valid : IsValid layout) (accesses : List Access) (four : length accesses ≤ 4) where
  -- misses of the first access that is out, each time, are the first ones of all
  pub first-begin : (queue misses : List ℕ) → FirstRun layout accesses queue misses → misses_from layout accesses queue ≡ misses ++ misses_of layout accesses (length accesses - length misses) (fold (after_miss layout) queue misses)
  first-begin queue misses h =
      let few = accesses_few layout valid accesses four queue misses (first-run layout accesses queue misses h) in
      let e : length accesses ≡ length misses + (length accesses - length misses) = omega arith in
      ap (λ n. misses_of layout accesses n queue) e ∙ first-misses layout accesses queue misses (length accesses - length misses) h

  -- and all of them, where none is out any more
  pub first-all : (queue misses : List ℕ) → FirstRun layout accesses queue misses → first_out layout (fold (after_miss layout) queue misses) accesses ≡ None → misses_from layout accesses queue ≡ misses
  first-all queue misses h none =
      first-begin queue misses h
      ∙ ap (λ rest. misses ++ rest) (none_left layout accesses (length accesses - length misses) (fold (after_miss layout) queue misses) none)
      ∙ append-nil misses

  still_out : (queue : List ℕ) (o : Option Access) → first_out layout (fold (after_miss layout) queue (misses_from layout accesses queue)) accesses ≡ o → length (misses_from layout accesses queue) ≡ length accesses → o ≡ None
  still_out queue None e l = refl
  still_out queue (Some t) e l =
      let misses = misses_from layout accesses queue in
      let out = out_is_among layout accesses (fold (after_miss layout) queue misses) t accesses e in
      let run = run-more layout (clusters_of layout accesses) queue misses (cluster_at layout t.page.0) (misses-run layout accesses (length accesses) queue) out.0 out.1 in
      let few = accesses_few layout valid accesses four queue (misses ++ cluster_at layout t.page.0 ∷ []) run in
      absurd (omega (arith, length-append misses (cluster_at layout t.page.0 ∷ [])))

  -- after all of them none of the accesses is out
  pub none_out : (queue : List ℕ) → first_out layout (fold (after_miss layout) queue (misses_from layout accesses queue)) accesses ≡ None
  none_out queue =
      elim (end_or_all layout accesses (length accesses) queue) [ inl e ↦ e | inr l ↦ still_out queue (first_out layout (fold (after_miss layout) queue (misses_from layout accesses queue)) accesses) refl l ]
