-- Marks of processors, and the processors of a range that are marked.
use Rattle.std.proofs.Common.{◌≡◌, ℕ, zero, suc, ◌+◌, ◌<◌, ◌≤◌, Bool, true, false, ◌==◌, List, [], ◌∷◌, length, get_or, set, refl, ap, sym, ◌∙◌, arith, inl, inr, get_or-set_other}
use Rattle.std.specs.Prelude.{not, ◌&&◌, ◌||◌, cond, filter}
use Rattle.std.specs.List.{range_with_len, list_any}
use Rattle.std.proofs.lemmas.Bool.{cases_lt, both_ways, false_from_ne_true}
use Rattle.std.proofs.lemmas.Bool.Decides.{eqb_tells}
use Rattle.std.proofs.lemmas.List.Folds.{list_any_none}
use Rattle.std.proofs.Math.Bool.{and-true, and-false}
use Rattle.std.proofs.Math.Dec.{eqb-suc-zero}
use Rattle.ak_model.proofs.Paging.Tests.{any_in_range}
use Rattle.ak_track.specs.Tracking.{is_marked}

-- ---- Elements that pass a test

-- tests that agree on a range let the same of it through
pub filter_same : (p q : ℕ → Bool) (a n : ℕ) → ((x : ℕ) → a ≤ x → x < a + n → p x ≡ q x)
    → filter p (range_with_len a n) ≡ filter q (range_with_len a n)
filter_same p q a zero h = refl
filter_same p q a (suc n) h =
    ap (λ b. cond b (a ∷ filter p (range_with_len (a + 1) n)) (filter p (range_with_len (a + 1) n))) (h a (omega arith) (omega arith))
    ∙ ap (λ xs. cond (q a) (a ∷ xs) xs) (filter_same p q (a + 1) n (λ x low high. h x (omega arith) (omega arith)))

filter_step : (p q r : ℕ → Bool) (x : ℕ) (xs : List ℕ) (b : Bool) → filter p (filter q xs) ≡ filter r xs
    → filter p (cond b (x ∷ filter q xs) (filter q xs)) ≡ cond (b && p x) (x ∷ filter r xs) (filter r xs)
filter_step p q r x xs true e = ap (λ ys. cond (p x) (x ∷ ys) ys) e
filter_step p q r x xs false e = e

-- what passes one test and then another passes both
pub filter_both : (p q : ℕ → Bool) (xs : List ℕ) → filter p (filter q xs) ≡ filter (λ x. q x && p x) xs
filter_both p q [] = refl
filter_both p q (x ∷ xs) = filter_step p q (λ y. q y && p y) x xs (q x) (filter_both p q xs)

none_step : (x : ℕ) (ys : List ℕ) (b any : Bool) → (length ys == 0) ≡ not any → (length (cond b (x ∷ ys) ys) == 0) ≡ not (b || any)
none_step x ys true any e = eqb-suc-zero (length ys)
none_step x ys false any e = e

-- none passes just where not one does
pub none_passes : (p : ℕ → Bool) (xs : List ℕ) → (length (filter p xs) == 0) ≡ not (list_any p xs)
none_passes p [] = refl
none_passes p (x ∷ xs) = none_step x (filter p xs) (p x) (list_any p xs) (none_passes p xs)

-- ---- Marks

-- any mark
abbrev pub any_mark : List Bool → Bool
any_mark marks = list_any (λ waits. waits) marks

-- where there is no mark, nobody is marked
pub unmarked : (marks : List Bool) → any_mark marks ≡ false → (k : ℕ) → is_marked marks k ≡ false
unmarked [] none k = refl
unmarked (true ∷ marks) none k = absurd (cc)
unmarked (false ∷ marks) none zero = refl
unmarked (false ∷ marks) none (suc k) = unmarked marks none k

-- where there is a mark, someone is marked
marked_one : (marks : List Bool) → any_mark marks ≡ true → (k : ℕ) × (is_marked marks k ≡ true)
marked_one [] some = absurd (cc)
marked_one (true ∷ marks) some = (0, refl)
marked_one (false ∷ marks) some = let one = marked_one marks some in (suc one.0, one.1)

-- where nobody is marked, there is no mark
pub no_mark : (marks : List Bool) → ((k : ℕ) → is_marked marks k ≡ false) → any_mark marks ≡ false
no_mark marks none =
    false_from_ne_true (any_mark marks) (λ some. let one = marked_one marks some in both_ways _ (none one.0) one.1)

any_by : (marks : List Bool) (lps : ℕ) (any : Bool) → any_mark marks ≡ any → ((lp : ℕ) → lps ≤ lp → is_marked marks lp ≡ false)
    → list_any (is_marked marks) (range_with_len 0 lps) ≡ any
any_by marks lps false none beyond =
    list_any_none (is_marked marks) (range_with_len 0 lps) (λ k d lt. unmarked marks none (get_or (range_with_len 0 lps) k d))
any_by marks lps true some beyond =
    let one = marked_one marks some in
    elim (cases_lt one.0 lps) [
      | inl below ↦ any_in_range (is_marked marks) lps 0 one.0 (omega arith) (omega arith) one.1
      | inr above ↦ absurd (both_ways _ (beyond one.0 above) one.1)
    ]

-- some processor of a range is marked, where there is a mark and none beyond the range
pub any_marked : (marks : List Bool) (lps : ℕ) → ((lp : ℕ) → lps ≤ lp → is_marked marks lp ≡ false)
    → list_any (is_marked marks) (range_with_len 0 lps) ≡ any_mark marks
any_marked marks lps beyond = any_by marks lps (any_mark marks) refl beyond

-- ---- A mark that is taken away

unset : (marks : List Bool) (q : ℕ) → get_or (set marks q false) q false ≡ false
unset [] q = refl
unset (b ∷ marks) zero = refl
unset (b ∷ marks) (suc q) = unset marks q

-- one processor is marked no more
pub marked_set : (marks : List Bool) (q r : ℕ) → is_marked (set marks q false) r ≡ (is_marked marks r && not (r == q))
marked_set marks q r =
    elim (eqb_tells r q) [
      | inl same ↦ ap (λ i. get_or (set marks q false) i false) same.1 ∙ unset marks q
          ∙ sym (ap (λ b. is_marked marks r && not b) same.0 ∙ and-false (is_marked marks r))
      | inr other ↦ get_or-set_other marks q r false false other.1
          ∙ sym (ap (λ b. is_marked marks r && not b) other.0 ∙ and-true (is_marked marks r))
    ]

-- one that was not marked is not marked either way
pub marked_without : (marks : List Bool) (q r : ℕ) → is_marked marks q ≡ false → is_marked marks r ≡ (is_marked marks r && not (r == q))
marked_without marks q r none =
    elim (eqb_tells r q) [
      | inl same ↦ ap (is_marked marks) same.1 ∙ none ∙ sym (ap (λ b. is_marked marks r && not b) same.0 ∙ and-false (is_marked marks r))
      | inr other ↦ sym (ap (λ b. is_marked marks r && not b) other.0 ∙ and-true (is_marked marks r))
    ]
