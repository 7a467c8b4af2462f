-- The first that passes, of what is left of a range or of a list.
use Rattle.std.proofs.Common.{◌≡◌, ℕ, zero, suc, ◌+◌, ◌-◌, ◌<◌, Bool, true, false, List, [], ◌∷◌, ◌++◌, refl, ap, sym, ◌∙◌, arith}
use Rattle.std.specs.Prelude.{Some, None, cond, find, filter}
use Rattle.std.specs.List.{range_with_len}

-- the first of what is left of a range
pub range_left : (a n : ℕ) → a < n → range_with_len a (n - a) ≡ a ∷ range_with_len (a + 1) (n - (a + 1))
range_left a n low = let e : n - a ≡ suc (n - (a + 1)) = omega arith in ap (λ (k : ℕ). range_with_len a k) e

pub none_left : (a n : ℕ) → a ≡ n → range_with_len a (n - a) ≡ []
none_left a n e = let z : n - a ≡ 0 = omega arith in ap (λ (k : ℕ). range_with_len a k) z

-- the first that passes in one list and then another
pub find-append : (test : ℕ → Bool) (xs ys : List ℕ) → find test xs ≡ None → find test (xs ++ ys) ≡ find test ys
find-append test [] ys e = refl
find-append test (x ∷ xs) ys e = by (find-append test xs ys) (test x) e
  where
    by : (find test xs ≡ None → find test (xs ++ ys) ≡ find test ys) → (b : Bool) → cond b (Some x) (find test xs) ≡ None → cond b (Some x) (find test (xs ++ ys)) ≡ find test ys
    by rest true e = absurd (cc)
    by rest false e = rest e

pub found-append : (test : ℕ → Bool) (xs ys : List ℕ) (p : ℕ) → find test xs ≡ Some p → find test (xs ++ ys) ≡ Some p
found-append test [] ys p e = absurd (cc)
found-append test (x ∷ xs) ys p e = by (found-append test xs ys p) (test x) e
  where
    by : (find test xs ≡ Some p → find test (xs ++ ys) ≡ Some p) → (b : Bool) → cond b (Some x) (find test xs) ≡ Some p → cond b (Some x) (find test (xs ++ ys)) ≡ Some p
    by rest true e = e
    by rest false e = rest e

-- the first of what is left of a range passes
pub next_found : (test : ℕ → Bool) (a n : ℕ) → a < n → test a ≡ true → find test (range_with_len a (n - a)) ≡ Some a
next_found test a n low e =
    ap (find test) (range_left a n low) ∙ ap (λ b. cond b (Some a) (find test (range_with_len (a + 1) (n - (a + 1))))) e

-- or it does not
pub next_passed : (test : ℕ → Bool) (a n : ℕ) → a < n → test a ≡ false
    → find test (range_with_len (a + 1) (n - (a + 1))) ≡ find test (range_with_len a (n - a))
next_passed test a n low e =
    sym (ap (find test) (range_left a n low) ∙ ap (λ b. cond b (Some a) (find test (range_with_len (a + 1) (n - (a + 1))))) e)

-- the same of the part of a range that another test keeps
pub kept_found : (test keeps : ℕ → Bool) (a n : ℕ) → a < n → keeps a ≡ true → test a ≡ true
    → find test (filter keeps (range_with_len a (n - a))) ≡ Some a
kept_found test keeps a n low k e =
    let rest = filter keeps (range_with_len (a + 1) (n - (a + 1))) in
    ap (λ xs. find test (filter keeps xs)) (range_left a n low) ∙ ap (λ b. find test (cond b (a ∷ rest) rest)) k
    ∙ ap (λ b. cond b (Some a) (find test rest)) e

pub kept_passed : (test keeps : ℕ → Bool) (a n : ℕ) → a < n → keeps a ≡ true → test a ≡ false
    → find test (filter keeps (range_with_len (a + 1) (n - (a + 1)))) ≡ find test (filter keeps (range_with_len a (n - a)))
kept_passed test keeps a n low k e =
    let rest = filter keeps (range_with_len (a + 1) (n - (a + 1))) in
    sym (ap (λ xs. find test (filter keeps xs)) (range_left a n low) ∙ ap (λ b. find test (cond b (a ∷ rest) rest)) k
    ∙ ap (λ b. cond b (Some a) (find test rest)) e)

pub left_out : (test keeps : ℕ → Bool) (a n : ℕ) → a < n → keeps a ≡ false
    → find test (filter keeps (range_with_len (a + 1) (n - (a + 1)))) ≡ find test (filter keeps (range_with_len a (n - a)))
left_out test keeps a n low k =
    let rest = filter keeps (range_with_len (a + 1) (n - (a + 1))) in
    sym (ap (λ xs. find test (filter keeps xs)) (range_left a n low) ∙ ap (λ b. find test (cond b (a ∷ rest) rest)) k)

-- where nothing is left, nothing is found
pub none_kept : (test keeps : ℕ → Bool) (a n : ℕ) → a ≡ n → find test (filter keeps (range_with_len a (n - a))) ≡ None
none_kept test keeps a n e = ap (λ xs. find test (filter keeps xs)) (none_left a n e)

-- a range with one more
range_more : (a n : ℕ) → range_with_len a (n + 1) ≡ range_with_len a n ++ (a + n) ∷ []
range_more a zero = let e : 0 + 1 ≡ 1 = omega arith in let z : a ≡ a + 0 = omega arith in ap (λ (n : ℕ). range_with_len a n) e ∙ ap (λ (n : ℕ). n ∷ []) z
range_more a (suc n) =
    let e : suc n + 1 ≡ suc (n + 1) = omega arith in
    let s : a + 1 + n ≡ a + suc n = omega arith in
    ap (λ (k : ℕ). range_with_len a k) e ∙ ap (λ xs. a ∷ xs) (range_more (a + 1) n) ∙ ap (λ (k : ℕ). a ∷ (range_with_len (a + 1) n ++ k ∷ [])) s

pub range_from_zero : (n : ℕ) → range_with_len 0 (n + 1) ≡ range_with_len 0 n ++ n ∷ []
range_from_zero n = let e : 0 + n ≡ n = omega arith in range_more 0 n ∙ ap (λ (k : ℕ). range_with_len 0 n ++ k ∷ []) e
