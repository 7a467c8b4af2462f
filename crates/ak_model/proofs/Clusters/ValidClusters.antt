-- In a valid layout each cluster has a page and fits the budget; and no clusters fit it too.
use Rattle.std.proofs.Common.{◌≡◌, ℕ, zero, suc, ◌+◌, ◌<◌, ◌≤◌, List, [], ◌∷◌, length, map, take, arith, refl, sym, ◌∙◌, subst}
use Rattle.std.specs.Prelude.{Bool, true, false, cond, Some, None, sum, filter, slice_index, nat_lt, nat_le, if◌then◌else◌, ◌==◌}
use Rattle.std.specs.List.{range_with_len}
use Rattle.std.proofs.lemmas.Bool.{eqb-true, eqb-false, eq-eqb, leb-true, leb-false}
use Rattle.std.proofs.lemmas.List.Elements.{All-nil}
use Rattle.std.proofs.lemmas.List.Sums.{sum_by-cons}
use Rattle.ak_core.specs.Layout.{Layout, IsValid, number_on, numbers_from, inserted, largest_first, sizes, size_of}
use Rattle.ak_model.specs.Paging.Pages.{pages, cluster_at}
use Rattle.ak_model.specs.Laws.Orderly.{QueueFits}
use Rattle.ak_model.proofs.Control.OrderlySteps.{ClustersFit}

-- ---- Each cluster has a page

abbrev Appears : List ℕ → ℕ → Type 0
Appears xs c = (i : ℕ) × (i < length xs) × (slice_index xs i ≡ c)

later : (x : ℕ) (xs : List ℕ) (c : ℕ) → Appears xs c → Appears (x ∷ xs) c
later x xs c h = (suc h.0, (let l = h.1 in omega arith), h.2)

here_or : (x : ℕ) (xs : List ℕ) (c next : ℕ) (b : Bool) → (c == next) ≡ b → x ≡ next → (next ≤ c) → ((next + 1 ≤ c) → Appears xs c) → Appears (x ∷ xs) c
here_or x xs c next true e same le go = (0, omega arith, same ∙ sym (eqb-true c next e))
here_or x xs c next false e same le go = let differ = eqb-false c next e in later x xs c (go (omega arith))

appears_by : (x : ℕ) (xs : List ℕ) (next n c : ℕ) (below same : Bool) → nat_lt x next ≡ below → (x == next) ≡ same → number_on (if below then Some next else (if same then Some (next + 1) else None)) (numbers_from xs) ≡ Some n → next ≤ c → ((m : ℕ) → numbers_from xs m ≡ Some n → m ≤ c → Appears xs c) → Appears (x ∷ xs) c
appears_by x xs next n c true same l e h le go = later x xs c (go next h le)
appears_by x xs next n c false true l e h le go = here_or x xs c next (c == next) refl (eqb-true x next e) le (go (next + 1) h)
appears_by x xs next n c false false l e h le go = absurd (cc)

-- each number below the count appears
appears : (xs : List ℕ) (next n c : ℕ) → numbers_from xs next ≡ Some n → next ≤ c → c < n → Appears xs c
appears [] next n c h le l = absurd (let e : next ≡ n = cc in omega arith)
appears (x ∷ xs) next n c h le l = appears_by x xs next n c (nat_lt x next) (x == next) refl refl h le (λ m k g. appears xs m n c k g l)

filtered_by : (test : ℕ → Bool) (a x : ℕ) (rest : List ℕ) (same b : Bool) → (a == x) ≡ same → test a ≡ b → test x ≡ true → ((a ≡ x → ⊥) → 1 ≤ length rest) → 1 ≤ length (cond b (a ∷ rest) rest)
filtered_by test a x rest same true e t h go = omega arith
filtered_by test a x rest true false e t h go = absurd (let s = subst (λ y. test y ≡ true) (sym (eqb-true a x e)) h in cc)
filtered_by test a x rest false false e t h go = go (eqb-false a x e)

-- a number of the range that passes the test is one of those filtered
filtered : (test : ℕ → Bool) (n a x : ℕ) → a ≤ x → x < a + n → test x ≡ true → 1 ≤ length (filter test (range_with_len a n))
filtered test zero a x low high h = absurd (omega arith)
filtered test (suc n) a x low high h =
    filtered_by test a x (filter test (range_with_len (a + 1) n)) (a == x) (test a) refl refl h (λ ne. filtered test n (a + 1) x (omega arith) (omega arith) h)

-- ---- Each cluster fits the budget

-- the first, or 0
abbrev head : List ℕ → ℕ
head [] = 0
head (x ∷ xs) = x

inserted_by : (x y : ℕ) (ys : List ℕ) (b : Bool) → nat_le y x ≡ b → (x ≤ head (if b then x ∷ y ∷ ys else y ∷ inserted x ys)) × (y ≤ head (if b then x ∷ y ∷ ys else y ∷ inserted x ys))
inserted_by x y ys true e = (omega arith, leb-true y x e)
inserted_by x y ys false e = let l = leb-false y x e in (omega arith, omega arith)

inserted_head : (x : ℕ) (ys : List ℕ) → (x ≤ head (inserted x ys)) × (head ys ≤ head (inserted x ys))
inserted_head x [] = (omega arith, omega arith)
inserted_head x (y ∷ ys) = inserted_by x y ys (nat_le y x) refl

head_sum : (ys : List ℕ) → head ys ≤ sum (take 4 ys)
head_sum [] = omega arith
head_sum (y ∷ ys) = let e : sum (take 4 (y ∷ ys)) ≡ y + sum (take 3 ys) = sum_by-cons (λ x. x) y (take 3 ys) in let h : head (y ∷ ys) ≡ y = refl in omega arith

below_by : (f : ℕ → ℕ) (a c : ℕ) (rest : List ℕ) (b : Bool) → (a == c) ≡ b → ((a ≡ c → ⊥) → f c ≤ head rest) → f c ≤ head (inserted (f a) rest)
below_by f a c rest true e later = subst (λ x. f x ≤ head (inserted (f a) rest)) (eqb-true a c e) (inserted_head (f a) rest).0
below_by f a c rest false e later =
    let up = (inserted_head (f a) rest).1 in let below = later (eqb-false a c e) in omega arith

-- no size is above the largest
size_below : (f : ℕ → ℕ) (n a c : ℕ) → a ≤ c → c < a + n → f c ≤ head (largest_first (map f (range_with_len a n)))
size_below f zero a c low high = absurd (omega arith)
size_below f (suc n) a c low high =
    below_by f a c (largest_first (map f (range_with_len (a + 1) n))) (a == c) refl (λ ne. size_below f n (a + 1) c (omega arith) (omega arith))

pub clusters_fit : (layout : Layout) → IsValid layout → ClustersFit layout
clusters_fit layout valid = record {
  some_page = λ c l.
      let at = appears layout.cluster_of 0 layout.clusters c valid.numbered (omega arith) l in
      let low : at.0 < pages layout = let a = at.1 in let b = valid.clustered in omega arith in
      filtered (λ p. cluster_at layout p == c) (pages layout) 0 at.0 (omega arith) (omega arith) (eq-eqb (cluster_at layout at.0) c at.2);
  small = λ c l.
      let below = size_below (size_of layout.cluster_of) layout.clusters 0 c (omega arith) (omega arith) in
      let first = head_sum (largest_first (sizes layout.clusters layout.cluster_of)) in
      let budget = valid.large_budget in omega arith;
}

-- no clusters fit any layout
pub none_fit : (layout : Layout) → QueueFits layout []
none_fit layout = record { distinct = tt; known = All-nil (λ c. c < layout.clusters); small = omega arith }
