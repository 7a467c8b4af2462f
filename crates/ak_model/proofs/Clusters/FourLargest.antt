-- Four different clusters of a valid layout fit the budget together.
use Rattle.std.proofs.Common.{◌≡◌, ℕ, zero, suc, ◌+◌, ◌<◌, ◌≤◌, List, [], ◌∷◌, length, map, take, arith, inl, inr, refl, sym, ap, ◌∙◌, subst}
use Rattle.std.specs.Prelude.{Bool, true, false, sum, sum_by, nat_le, if◌then◌else◌, ◌==◌}
use Rattle.std.specs.List.{range_with_len}
use Rattle.std.proofs.lemmas.Bool.{eqb-true, eq-eqb, leb-true, leb-false, or_parts, or_from, or_left, or_right, or_cases, true_from_ne_false}
use Rattle.std.proofs.lemmas.List.Sums.{sum_by-cons}
use Rattle.ak_core.specs.Layout.{Layout, IsValid, inserted, largest_first, size_of}
use Rattle.ak_model.specs.Clusters.Queue.{total_size, is_in}
use Rattle.ak_model.specs.Laws.Orderly.{IsDistinct}

-- ---- A list without one of its numbers

-- what is left of a list, where one number is taken out once
pub record Without (queue : List ℕ) (c : ℕ) : Type 0 where
  pub rest : List ℕ
  pub shorter : length queue ≡ suc (length rest)
  pub lighter : (f : ℕ → ℕ) → sum_by f queue ≡ f c + sum_by f rest
  pub out : (x : ℕ) → is_in queue x ≡ false → is_in rest x ≡ false
  pub others : (x : ℕ) → (c ≡ x → ⊥) → is_in queue x ≡ true → is_in rest x ≡ true
  pub distinct : IsDistinct queue → IsDistinct rest × (is_in rest c ≡ false)

others_by : (x y : ℕ) (queue rest : List ℕ) (b : Bool) → (x == y) ≡ b → (is_in queue y ≡ true → is_in rest y ≡ true) → is_in (x ∷ queue) y ≡ true → is_in (x ∷ rest) y ≡ true
others_by x y queue rest true e go h = or_left (x == y) (is_in rest y) e
others_by x y queue rest false e go h =
    elim (or_cases (x == y) (is_in queue y) h) [ inl k ↦ absurd (cc) | inr k ↦ or_right (x == y) (is_in rest y) (go k) ]

without_by : (x : ℕ) (queue : List ℕ) (c : ℕ) (b : Bool) → (x == c) ≡ b → is_in (x ∷ queue) c ≡ true → (is_in queue c ≡ true → Without queue c) → Without (x ∷ queue) c
without_by x queue c true e h go =
    let same = eqb-true x c e in
    record {
      rest = queue;
      shorter = omega arith;
      lighter = λ f. sum_by-cons f x queue ∙ ap (λ y. f y + sum_by f queue) same;
      out = λ y k. (or_parts (x == y) (is_in queue y) k).1;
      others = λ y ne k. elim (or_cases (x == y) (is_in queue y) k) [ inl l ↦ absurd (ne (sym same ∙ eqb-true x y l)) | inr l ↦ l ];
      distinct = λ k. (k.1, subst (λ y. is_in queue y ≡ false) same k.0);
    }
without_by x queue c false e h go =
    let there : is_in queue c ≡ true = elim (or_cases (x == c) (is_in queue c) h) [ inl k ↦ absurd (cc) | inr k ↦ k ] in
    let w = go there in
    record {
      rest = x ∷ w.rest;
      shorter = let s = w.shorter in omega arith;
      lighter = λ f. let a = sum_by-cons f x queue in let b = sum_by-cons f x w.rest in let l = w.lighter f in omega arith;
      out = λ y k. let parts = or_parts (x == y) (is_in queue y) k in or_from (x == y) (is_in w.rest y) parts.0 (w.out y parts.1);
      others = λ y ne k. others_by x y queue w.rest (x == y) refl (w.others y ne) k;
      distinct = λ k. let d = w.distinct k.1 in ((w.out x k.0, d.0), or_from (x == c) (is_in w.rest c) e d.1);
    }

pub without : (queue : List ℕ) (c : ℕ) → is_in queue c ≡ true → Without queue c
without [] c h = absurd (cc)
without (x ∷ queue) c h = without_by x queue c (x == c) refl h (without queue c)

-- ---- The largest first

abbrev head : List ℕ → ℕ
head [] = 0
head (x ∷ xs) = x

abbrev IsFalling : List ℕ → Type 0
IsFalling [] = Unit {0}
IsFalling (x ∷ xs) = (head xs ≤ x) × IsFalling xs

abbrev first_sum : ℕ → List ℕ → ℕ
first_sum k xs = sum (take k xs)

first_sum-cons : (k x : ℕ) (xs : List ℕ) → first_sum (suc k) (x ∷ xs) ≡ x + first_sum k xs
first_sum-cons k x xs = sum_by-cons (λ y. y) x (take k xs)

head_by : (x y m : ℕ) (ys : List ℕ) (b : Bool) → x ≤ m → y ≤ m → head (if b then x ∷ y ∷ ys else y ∷ inserted x ys) ≤ m
head_by x y m ys true a b = a
head_by x y m ys false a b = b

head_small : (x m : ℕ) (ys : List ℕ) → x ≤ m → head ys ≤ m → head (inserted x ys) ≤ m
head_small x m [] a b = a
head_small x m (y ∷ ys) a b = head_by x y m ys (nat_le y x) a b

falling_by : (x y : ℕ) (ys : List ℕ) (b : Bool) → nat_le y x ≡ b → IsFalling (y ∷ ys) → IsFalling (inserted x ys) → IsFalling (if b then x ∷ y ∷ ys else y ∷ inserted x ys)
falling_by x y ys true e h k = (leb-true y x e, h)
falling_by x y ys false e h k = (let l = leb-false y x e in head_small x y ys (omega arith) h.0, k)

falling_inserted : (x : ℕ) (ys : List ℕ) → IsFalling ys → IsFalling (inserted x ys)
falling_inserted x [] h = (omega arith, tt)
falling_inserted x (y ∷ ys) h = falling_by x y ys (nat_le y x) refl h (falling_inserted x ys h.1)

falling : (xs : List ℕ) → IsFalling (largest_first xs)
falling [] = tt
falling (x ∷ xs) = falling_inserted x (largest_first xs) (falling xs)

-- the first of a list in place of those after the first
earlier_more : (k y : ℕ) (ys : List ℕ) → IsFalling (y ∷ ys) → first_sum k ys ≤ first_sum k (y ∷ ys)
earlier_more zero y ys h = omega arith
earlier_more (suc k) y [] h = let e = first_sum-cons k y [] in omega arith
earlier_more (suc k) y (z ∷ zs) h =
    let le : z ≤ y = h.0 in
    let a = first_sum-cons k y (z ∷ zs) in let b = first_sum-cons k z zs in let go = earlier_more k z zs h.1 in omega arith

-- one more number: the largest k have no smaller sum
more_by : (k x y : ℕ) (ys : List ℕ) (b : Bool) → nat_le y x ≡ b → IsFalling (y ∷ ys) → first_sum k ys ≤ first_sum k (inserted x ys) → first_sum (suc k) (y ∷ ys) ≤ first_sum (suc k) (if b then x ∷ y ∷ ys else y ∷ inserted x ys)
more_by k x y ys true e h go =
    let le = leb-true y x e in let a = first_sum-cons k y ys in let b = first_sum-cons k x (y ∷ ys) in let m = earlier_more k y ys h in omega arith
more_by k x y ys false e h go = let a = first_sum-cons k y ys in let b = first_sum-cons k y (inserted x ys) in omega arith

more : (k x : ℕ) (ys : List ℕ) → IsFalling ys → first_sum k ys ≤ first_sum k (inserted x ys)
more zero x ys h = omega arith
more (suc k) x [] h = omega arith
more (suc k) x (y ∷ ys) h = more_by k x y ys (nat_le y x) refl h (more k x ys h.1)

-- and the largest k + 1 have room for it beside the largest k
room_after : (k x y : ℕ) (ys : List ℕ) → x < y → ((j : ℕ) → x + first_sum j ys ≤ first_sum (suc j) (inserted x ys)) → x + first_sum k (y ∷ ys) ≤ y + first_sum k (inserted x ys)
room_after zero x y ys l go = omega arith
room_after (suc k) x y ys l go = let a = first_sum-cons k y ys in let g = go k in omega arith

room_by : (k x y : ℕ) (ys : List ℕ) (b : Bool) → nat_le y x ≡ b → ((j : ℕ) → x + first_sum j ys ≤ first_sum (suc j) (inserted x ys)) → x + first_sum k (y ∷ ys) ≤ first_sum (suc k) (if b then x ∷ y ∷ ys else y ∷ inserted x ys)
room_by k x y ys true e go = let a = first_sum-cons k x (y ∷ ys) in omega arith
room_by k x y ys false e go =
    let l = leb-false y x e in
    let a = first_sum-cons k y (inserted x ys) in let b = room_after k x y ys l go in omega arith

room : (k x : ℕ) (ys : List ℕ) → x + first_sum k ys ≤ first_sum (suc k) (inserted x ys)
room k x [] = let a = first_sum-cons k x [] in omega arith
room k x (y ∷ ys) = room_by k x y ys (nat_le y x) refl (λ j. room j x ys)

-- ---- Different numbers of a range

abbrev AllWithin : ℕ → ℕ → List ℕ → Type 0
AllWithin a n queue = (x : ℕ) → is_in queue x ≡ true → (a ≤ x) × (x < a + n)

pub present : (x : ℕ) (queue : List ℕ) → is_in (x ∷ queue) x ≡ true
present x queue = or_left (x == x) (is_in queue x) (eq-eqb x x refl)

-- a number that is in is none that is out
pub apart : (queue : List ℕ) (x y : ℕ) → is_in queue x ≡ true → is_in queue y ≡ false → x ≡ y → ⊥
apart queue x y h k e = let s = subst (λ z. is_in queue z ≡ true) e h in cc

within_next : (a n : ℕ) (queue : List ℕ) → is_in queue a ≡ false → AllWithin a (suc n) queue → AllWithin (a + 1) n queue
within_next a n queue out h x k = let r = h x k in let ne = apart queue x a k out in (omega arith, omega arith)

still_in : (queue : List ℕ) (c : ℕ) (w : Without queue c) (x : ℕ) → is_in w.rest x ≡ true → is_in queue x ≡ true
still_in queue c w x h = true_from_ne_false (is_in queue x) (λ e. let o = w.out x e in cc)

module _ (f : ℕ → ℕ) where
  abbrev largest : ℕ → ℕ → ℕ → ℕ
  largest k a n = first_sum k (largest_first (map f (range_with_len a n)))

  with_first : (a n k : ℕ) (queue : List ℕ) → IsDistinct queue → AllWithin a (suc n) queue → length queue ≤ k → Without queue a → ((j : ℕ) (rest : List ℕ) → IsDistinct rest → AllWithin (a + 1) n rest → length rest ≤ j → sum_by f rest ≤ largest j (a + 1) n) → sum_by f queue ≤ largest k a (suc n)
  with_first a n zero queue d h l w go = let s = w.shorter in absurd (omega arith)
  with_first a n (suc k) queue d h l w go =
      let parts = w.distinct d in
      let s = w.shorter in
      let within : AllWithin (a + 1) n w.rest = within_next a n w.rest parts.1 (λ x k. h x (still_in queue a w x k)) in
      let below = go k w.rest parts.0 within (omega arith) in
      let sum = w.lighter f in
      let fits = room k (f a) (largest_first (map f (range_with_len (a + 1) n))) in
      omega arith

  step_by : (a n k : ℕ) (queue : List ℕ) → IsDistinct queue → AllWithin a (suc n) queue → length queue ≤ k → ((j : ℕ) (rest : List ℕ) → IsDistinct rest → AllWithin (a + 1) n rest → length rest ≤ j → sum_by f rest ≤ largest j (a + 1) n) → (b : Bool) → is_in queue a ≡ b → sum_by f queue ≤ largest k a (suc n)
  step_by a n k queue d h l go true e = with_first a n k queue d h l (without queue a e) go
  step_by a n k queue d h l go false e =
      let below = go k queue d (within_next a n queue e h) l in
      let rest = largest_first (map f (range_with_len (a + 1) n)) in
      let grows = more k (f a) rest (falling (map f (range_with_len (a + 1) n))) in
      omega arith

  -- at most k different numbers of a range have no larger sum than the k largest
  few_fit : (n a k : ℕ) (queue : List ℕ) → IsDistinct queue → AllWithin a n queue → length queue ≤ k → sum_by f queue ≤ largest k a n
  few_fit zero a k [] d h l = omega arith
  few_fit zero a k (x ∷ queue) d h l = let r = h x (present x queue) in absurd (omega arith)
  few_fit (suc n) a k queue d h l =
      step_by a n k queue d h l (λ j. λ rest. λ d. λ h. λ l. few_fit n (a + 1) j rest d h l) (is_in queue a) refl

-- at most four different clusters of a valid layout fit its budget together
pub four_fit : (layout : Layout) → IsValid layout → (queue : List ℕ) → IsDistinct queue → ((c : ℕ) → is_in queue c ≡ true → c < layout.clusters) → length queue ≤ 4 → total_size layout queue ≤ layout.budget
four_fit layout valid queue d below few =
    let fit = few_fit (size_of layout.cluster_of) layout.clusters 0 4 queue d (λ x h. let l = below x h in (omega arith, omega arith)) few in
    let budget = valid.large_budget in omega arith
