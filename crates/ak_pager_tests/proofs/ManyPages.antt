-- Layouts of one cluster of many pages, and of many clusters of one page each.
use Rattle.std.proofs.Common.{◌≡◌, ℕ, zero, suc, ◌+◌, ◌%◌, ◌^◌, ◌<◌, ◌≤◌, ◌++◌, List, [], ◌∷◌, length, map, take, arith, refl, sym, ◌∙◌, subst, ap}
use Rattle.std.specs.Prelude.{Bool, true, false, cond, All, Option, Some, None, sum, slice_index, nat_lt, nat_le, if◌then◌else◌, ◌==◌}
use Rattle.std.specs.List.{range_with_len}
use Rattle.std.proofs.lemmas.Bool.{eqb-true, eq-eqb}
use Rattle.std.proofs.lemmas.Bool.Decides.{nat_tests}
use Rattle.std.proofs.lemmas.List.Elements.{All-head, All-tail}
use Rattle.std.proofs.lemmas.List.Sums.{sum_by-cons, count_by-le-length}
use Rattle.ak_core.specs.Layout.{enclave_size, four_largest, inserted, largest_first, next_number, number_on, numbers_from, sizes, size_of}

-- ---- One cluster

numbered_on : (xs : List ℕ) → All (λ c. c ≡ 0) xs → numbers_from xs 1 ≡ Some 1
numbered_on [] h = refl
numbered_on (x ∷ xs) h =
    subst (λ (c : ℕ). numbers_from (c ∷ xs) 1 ≡ Some 1) (sym (All-head (λ c. c ≡ 0) x xs h)) (numbered_on xs (All-tail (λ c. c ≡ 0) x xs h))

-- it has the number 0
pub numbered_once : (xs : List ℕ) → 1 ≤ length xs → All (λ c. c ≡ 0) xs → numbers_from xs 0 ≡ Some 1
numbered_once [] some h = absurd (omega arith)
numbered_once (x ∷ xs) some h =
    subst (λ (c : ℕ). numbers_from (c ∷ xs) 0 ≡ Some 1) (sym (All-head (λ c. c ≡ 0) x xs h)) (numbered_on xs (All-tail (λ c. c ≡ 0) x xs h))

-- its size is at most the number of the pages
pub large_once : (xs : List ℕ) → four_largest 1 xs ≤ length xs
large_once xs = omega (arith, count_by-le-length (λ x. x == 0) xs)

-- ---- A cluster for each page

-- the clusters go up by one, from a number on
abbrev pub Ascends : List ℕ → ℕ → Type 0
Ascends xs a = (k : ℕ) → k < length xs → slice_index xs k ≡ a + k

first_is : (x : ℕ) (xs : List ℕ) (a : ℕ) → Ascends (x ∷ xs) a → x ≡ a
first_is x xs a h = let e = h 0 (omega arith) in omega arith

rest_ascends : (x : ℕ) (xs : List ℕ) (a : ℕ) → Ascends (x ∷ xs) a → Ascends xs (a + 1)
rest_ascends x xs a h k low = let e : slice_index xs k ≡ a + suc k = h (suc k) (omega arith) in omega arith

next_by : (a : ℕ) (below same : Bool) → nat_lt a a ≡ below → (a == a) ≡ same → (if below then Some a else (if same then Some (a + 1) else None)) ≡ Some (a + 1)
next_by a true same e f = absurd (let l : a < a = grind (arith, nat_tests) in omega arith)
next_by a false true e f = refl
next_by a false false e f = absurd (let t = eq-eqb a a refl in cc)

next_is : (a : ℕ) → next_number a a ≡ Some (a + 1)
next_is a = next_by a (nat_lt a a) (a == a) refl refl

numbered_from : (xs : List ℕ) (a : ℕ) → Ascends xs a → numbers_from xs a ≡ Some (a + length xs)
numbered_from [] a h = ap Some (omega arith)
numbered_from (x ∷ xs) a h =
    let first : x ≡ a = first_is x xs a h in
    let here : next_number a x ≡ Some (a + 1) = ap (next_number a) first ∙ next_is a in
    let rest : numbers_from xs (a + 1) ≡ Some (a + 1 + length xs) = numbered_from xs (a + 1) (rest_ascends x xs a h) in
    let all : a + 1 + length xs ≡ a + suc (length xs) = omega arith in
    ap (λ (o : Option ℕ). number_on o (numbers_from xs)) here ∙ (rest ∙ ap Some all)

-- they are numbered by their pages
pub numbered_each : (xs : List ℕ) (n : ℕ) → length xs ≡ n → Ascends xs 0 → numbers_from xs 0 ≡ Some n
numbered_each xs n count h = let all : 0 + length xs ≡ n = omega arith in numbered_from xs 0 h ∙ ap Some all

size_on : (x : ℕ) (xs : List ℕ) (c : ℕ) (same : Bool) → (x == c) ≡ same → size_of (x ∷ xs) c ≡ cond same 1 0 + size_of xs c
size_on x xs c same e = sum_by-cons (λ x. cond (x == c) 1 0) x xs ∙ ap (λ (b : Bool). cond b 1 0 + size_of xs c) e

none_by : (x : ℕ) (xs : List ℕ) (a c : ℕ) (same : Bool) → (x == c) ≡ same → x ≡ a → c < a → size_of xs c ≡ 0 → size_of (x ∷ xs) c ≡ 0
none_by x xs a c true e first low none = absurd (let s = eqb-true x c e in omega arith)
none_by x xs a c false e first low none = omega (arith, size_on x xs c false e)

none_below : (xs : List ℕ) (a c : ℕ) → Ascends xs a → c < a → size_of xs c ≡ 0
none_below [] a c h low = refl
none_below (x ∷ xs) a c h low = none_by x xs a c (x == c) refl (first_is x xs a h) low (none_below xs (a + 1) c (rest_ascends x xs a h) (omega arith))

one_by : (x : ℕ) (xs : List ℕ) (c : ℕ) (same : Bool) → (x == c) ≡ same → (x ≡ c → size_of xs c ≡ 0) → size_of xs c ≤ 1 → size_of (x ∷ xs) c ≤ 1
one_by x xs c true e none one = let z = none (eqb-true x c e) in omega (arith, size_on x xs c true e)
one_by x xs c false e none one = omega (arith, size_on x xs c false e)

-- each has one page at most
pub size_once : (xs : List ℕ) (a c : ℕ) → Ascends xs a → size_of xs c ≤ 1
size_once [] a c h = omega arith
size_once (x ∷ xs) a c h =
    let first = first_is x xs a h in
    one_by x xs c (x == c) refl (λ same. none_below xs (a + 1) c (rest_ascends x xs a h) (omega arith)) (size_once xs (a + 1) c (rest_ascends x xs a h))

-- each is at most 1
abbrev AreOnes : List ℕ → Type 0
AreOnes [] = Unit {0}
AreOnes (x ∷ xs) = (x ≤ 1) × AreOnes xs

ones_inserted : (x y : ℕ) (ys : List ℕ) (b : Bool) → x ≤ 1 → y ≤ 1 → AreOnes ys → AreOnes (inserted x ys) → AreOnes (if b then x ∷ y ∷ ys else y ∷ inserted x ys)
ones_inserted x y ys true hx hy hs more = (hx, (hy, hs))
ones_inserted x y ys false hx hy hs more = (hy, more)

inserted_ones : (x : ℕ) (ys : List ℕ) → x ≤ 1 → AreOnes ys → AreOnes (inserted x ys)
inserted_ones x [] hx hs = (hx, tt)
inserted_ones x (y ∷ ys) hx hs = ones_inserted x y ys (nat_le y x) hx hs.0 hs.1 (inserted_ones x ys hx hs.1)

ordered_ones : (xs : List ℕ) → AreOnes xs → AreOnes (largest_first xs)
ordered_ones [] h = tt
ordered_ones (x ∷ xs) h = inserted_ones x (largest_first xs) h.0 (ordered_ones xs h.1)

few_ones : (n : ℕ) (xs : List ℕ) → AreOnes xs → sum (take n xs) ≤ n
few_ones zero xs h = omega arith
few_ones (suc n) [] h = omega arith
few_ones (suc n) (x ∷ xs) h = let l = h.0 in let more = few_ones n xs h.1 in omega (arith, sum_by-cons (λ x. x) x (take n xs))

sizes_ones : (xs : List ℕ) (a n : ℕ) → Ascends xs 0 → AreOnes (map (size_of xs) (range_with_len a n))
sizes_ones xs a zero h = tt
sizes_ones xs a (suc n) h = (size_once xs 0 a h, sizes_ones xs (a + 1) n h)

-- so the four largest have four pages at most
pub large_each : (xs : List ℕ) (n : ℕ) → Ascends xs 0 → four_largest n xs ≤ 4
large_each xs n h = few_ones 4 (largest_first (sizes n xs)) (ordered_ones (sizes n xs) (sizes_ones xs 0 n h))

-- one more goes on
single : (x a k : ℕ) → x ≡ a → k < 1 → slice_index (x ∷ []) k ≡ a + k
single x a zero e low = omega arith
single x a (suc k) e low = absurd (omega arith)

pushed : (y : ℕ) (ys : List ℕ) (a k : ℕ) → y ≡ a → ((j : ℕ) → j < length ys → slice_index ys j ≡ a + 1 + j) → k < suc (length ys) → slice_index (y ∷ ys) k ≡ a + k
pushed y ys a zero first rest low = omega arith
pushed y ys a (suc k) first rest low = let e : slice_index ys k ≡ a + 1 + k = rest k (omega arith) in omega arith

ascends-on : (xs : List ℕ) (a x : ℕ) → Ascends xs a → x ≡ a + length xs → Ascends (xs ++ x ∷ []) a
ascends-on [] a x h e k low = single x a k (omega arith) low
ascends-on (y ∷ ys) a x h e k low =
    pushed y (ys ++ x ∷ []) a k (first_is y ys a h) (ascends-on ys (a + 1) x (rest_ascends y ys a h) (omega arith)) low

pub ascends-push : (xs : List ℕ) (x : ℕ) → Ascends xs 0 → x ≡ length xs → Ascends (xs ++ x ∷ []) 0
ascends-push xs x h e = ascends-on xs 0 x h (omega arith)

-- ---- Addresses of 512 pages

pub aligned : (n : ℕ) → n ≡ 512 → 268435456 % enclave_size n ≡ 0
unfolding enclave_size
aligned n e = subst (λ (m : ℕ). 268435456 % enclave_size m ≡ 0) (sym e) refl

pub low : (n : ℕ) → n ≡ 512 → 268435456 + enclave_size n ≤ 2 ^ 47
unfolding enclave_size
low n e = subst (λ (m : ℕ). 268435456 + enclave_size m ≤ 2 ^ 47) (sym e) (omega arith)
