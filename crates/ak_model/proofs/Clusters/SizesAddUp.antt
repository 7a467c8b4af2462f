-- A cluster's size is the number of its pages, and all sizes add up to the number of pages.
use Rattle.std.proofs.Common.{◌≡◌, ℕ, zero, suc, ◌+◌, ◌<◌, ◌≤◌, List, [], ◌∷◌, length, arith, refl, sym, ap, ◌∙◌}
use Rattle.std.specs.Prelude.{Bool, true, false, cond, sum, sum_by, count_by, slice_index, ◌==◌}
use Rattle.std.specs.List.{range_with_len}
use Rattle.std.proofs.lemmas.Bool.{eqb-true, eqb-false, ne_eqb}
use Rattle.std.proofs.lemmas.List.Sums.{sum_by-cons, sum-map, length-filter}
use Rattle.ak_core.specs.Layout.{Layout, IsValid, sizes, size_of}
use Rattle.ak_model.specs.Paging.Pages.{pages, cluster_at, pages_of}
use Rattle.ak_model.proofs.Tapes.EventsTaken.{cluster_below}

-- ---- One cluster

module _ (c : ℕ) where
  -- how many of these numbers are c
  abbrev times : List ℕ → ℕ
  times xs = count_by (λ x. x == c) xs

  -- how many places from a on have c
  abbrev places : (ℕ → ℕ) → ℕ → ℕ → ℕ
  places g a n = count_by (λ p. g p == c) (range_with_len a n)

  one_more : (x y m n : ℕ) → x ≡ y → m ≡ n → cond (x == c) 1 0 + m ≡ cond (y == c) 1 0 + n
  one_more x y m n e h = cc

  times_by_place : (xs : List ℕ) (g : ℕ → ℕ) (a : ℕ) → ((i : ℕ) → i < length xs → g (a + i) ≡ slice_index xs i) → places g a (length xs) ≡ times xs
  times_by_place [] g a h = refl
  times_by_place (x ∷ xs) g a h =
      let none : a ≡ a + 0 = omega arith in
      let first = ap g none ∙ h 0 (omega arith) in
      let rest = times_by_place xs g (a + 1) (λ i l. let e : a + 1 + i ≡ a + suc i = omega arith in ap g e ∙ h (suc i) (omega arith)) in
      sum_by-cons (λ p. cond (g p == c) 1 0) a (range_with_len (a + 1) (length xs))
      ∙ one_more (g a) x (places g (a + 1) (length xs)) (times xs) first rest
      ∙ sym (sum_by-cons (λ y. cond (y == c) 1 0) x xs)

pub size_is : (layout : Layout) (c : ℕ) → IsValid layout → size_of layout.cluster_of c ≡ length (pages_of layout c)
size_is layout c valid =
    let places_are = times_by_place c layout.cluster_of (cluster_at layout) 0 (λ i l. let e : 0 + i ≡ i = omega arith in ap (cluster_at layout) e) in
    sym (length-filter (λ p. cluster_at layout p == c) (range_with_len 0 (pages layout))
    ∙ ap (λ n. places c (cluster_at layout) 0 n) (sym valid.clustered)
    ∙ places_are)

-- ---- All clusters

module _ (x : ℕ) where
  abbrev one_if : ℕ → ℕ
  one_if c = cond (x == c) 1 0

  none_of : (n a : ℕ) → x < a → sum_by one_if (range_with_len a n) ≡ 0
  none_of zero a l = refl
  none_of (suc n) a l =
      let e = sum_by-cons one_if a (range_with_len (a + 1) n) in
      let here : one_if a ≡ 0 = ap (λ b. cond b 1 0) (ne_eqb x a (λ same. omega arith)) in
      let rest = none_of n (a + 1) (omega arith) in omega arith

  one_by : (n a : ℕ) (b : Bool) → (x == a) ≡ b → a ≤ x → x < a + suc n → (a + 1 ≤ x → sum_by one_if (range_with_len (a + 1) n) ≡ 1) → cond b 1 0 + sum_by one_if (range_with_len (a + 1) n) ≡ 1
  one_by n a true e low high go = let same = eqb-true x a e in let rest = none_of n (a + 1) (omega arith) in omega arith
  one_by n a false e low high go = let ne = eqb-false x a e in let rest = go (omega arith) in omega arith

  -- a number is one of a range once
  one_of : (n a : ℕ) → a ≤ x → x < a + n → sum_by one_if (range_with_len a n) ≡ 1
  one_of zero a low high = absurd (omega arith)
  one_of (suc n) a low high =
      sum_by-cons one_if a (range_with_len (a + 1) n) ∙ one_by n a (x == a) refl low high (λ l. one_of n (a + 1) l (omega arith))

sum_both : (f g h : ℕ → ℕ) (cs : List ℕ) → ((c : ℕ) → f c ≡ g c + h c) → sum_by f cs ≡ sum_by g cs + sum_by h cs
sum_both f g h [] e = refl
sum_both f g h (c ∷ cs) e =
    let a = sum_by-cons f c cs in let b = sum_by-cons g c cs in let d = sum_by-cons h c cs in
    let here = e c in let rest = sum_both f g h cs e in omega arith

sum_none : (cs : List ℕ) → sum_by (λ c. 0) cs ≡ 0
sum_none [] = refl
sum_none (c ∷ cs) = let e = sum_by-cons (λ c. 0) c cs in let rest = sum_none cs in omega arith

all_times : (xs : List ℕ) (n : ℕ) → ((i : ℕ) → i < length xs → slice_index xs i < n) → sum_by (λ c. times c xs) (range_with_len 0 n) ≡ length xs
all_times [] n h = sum_none (range_with_len 0 n)
all_times (x ∷ xs) n h =
    let split = sum_both (λ c. times c (x ∷ xs)) (one_if x) (λ c. times c xs) (range_with_len 0 n) (λ c. sum_by-cons (λ y. cond (y == c) 1 0) x xs) in
    let below : x < n = h 0 (omega arith) in
    let one = one_of x n 0 (omega arith) (omega arith) in
    let rest = all_times xs n (λ i l. h (suc i) (omega arith)) in
    omega arith

pub sizes_sum : (layout : Layout) → IsValid layout → sum (sizes layout.clusters layout.cluster_of) ≡ pages layout
sizes_sum layout valid =
    sum-map (size_of layout.cluster_of) (range_with_len 0 layout.clusters)
    ∙ all_times layout.cluster_of layout.clusters (λ i l. cluster_below layout valid i)
    ∙ valid.clustered
