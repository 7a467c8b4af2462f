-- Pages that are found one after another in a range.
use Rattle.std.proofs.Common.{◌≡◌, ℕ, zero, suc, ◌+◌, ◌-◌, ◌<◌, ◌≤◌, List, ◌∷◌, length, refl, ap, sym, ◌∙◌, subst, arith}
use Rattle.std.specs.Prelude.{Bool, true, false, cond, filter, Option, Some, None, option_map, slice_get, slice_index}
use Rattle.std.specs.List.{range_with_len}
use Rattle.std.proofs.lemmas.Option.{slice_get_within, slice_get-get_or, get_or_from_slice_get}
use Rattle.ak_core.specs.declared.page.Page.{Page}

step_true : (i : ℕ) (rest : List ℕ) (j : ℕ) (b : Bool) → b ≡ true → slice_get (cond b (i ∷ rest) rest) (suc j) ≡ slice_get rest j
step_true i rest j true e = refl
step_true i rest j false e = absurd (cc)

step_false : (i : ℕ) (rest : List ℕ) (j : ℕ) (b : Bool) → b ≡ false → slice_get (cond b (i ∷ rest) rest) j ≡ slice_get rest j
step_false i rest j true e = absurd (cc)
step_false i rest j false e = refl

-- after one that passes the test
pub kept_on : (test : ℕ → Bool) (i n e k : ℕ) (x : Option ℕ) → i < n → test i ≡ true → e < k → slice_get (filter test (range_with_len i (n - i))) (k - e) ≡ x →
    slice_get (filter test (range_with_len (i + 1) (n - (i + 1)))) (k - (e + 1)) ≡ x
kept_on test i n e k x low t less h =
    let a : n - i ≡ suc (n - (i + 1)) = omega arith in
    let b : k - e ≡ suc (k - (e + 1)) = omega arith in
    let h1 = subst (λ (m : ℕ). slice_get (filter test (range_with_len i m)) (k - e) ≡ x) a h in
    let h2 = subst (λ (j : ℕ). slice_get (filter test (range_with_len i (suc (n - (i + 1))))) j ≡ x) b h1 in
    sym (step_true i (filter test (range_with_len (i + 1) (n - (i + 1)))) (k - (e + 1)) (test i) t) ∙ h2

-- after one that does not
pub skipped_on : (test : ℕ → Bool) (i n k : ℕ) (x : Option ℕ) → i < n → test i ≡ false → slice_get (filter test (range_with_len i (n - i))) k ≡ x →
    slice_get (filter test (range_with_len (i + 1) (n - (i + 1)))) k ≡ x
skipped_on test i n k x low t h =
    let a : n - i ≡ suc (n - (i + 1)) = omega arith in
    let h1 = subst (λ (m : ℕ). slice_get (filter test (range_with_len i m)) k ≡ x) a h in
    sym (step_false i (filter test (range_with_len (i + 1) (n - (i + 1)))) k (test i) t) ∙ h1

few_by : (i : ℕ) (rest : List ℕ) (n : ℕ) (b : Bool) → length rest ≤ n → length (cond b (i ∷ rest) rest) ≤ suc n
few_by i rest n true l = omega arith
few_by i rest n false l = omega arith

-- no more pass the test than there are
pub few_filtered : (test : ℕ → Bool) (a n : ℕ) → length (filter test (range_with_len a n)) ≤ n
few_filtered test a zero = omega arith
few_filtered test a (suc n) = few_by a (filter test (range_with_len (a + 1) n)) n (test a) (few_filtered test (a + 1) n)

abbrev pub page_at : ℕ → Page
page_at p = record { 0 = p }

some_by : (found : Option ℕ) (page : Page) → option_map page_at found ≡ Some page → found ≡ Some page.0
some_by None page e = absurd (cc)
some_by (Some p) page e = let same : page_at p ≡ page = cc in ap (λ (x : Page). Some x.0) same

none_by : (found : Option ℕ) → option_map page_at found ≡ None → found ≡ None
none_by None e = refl
none_by (Some p) e = absurd (cc)

-- the page that was found
pub found_some : (xs : List ℕ) (k : ℕ) (page : Page) → option_map page_at (slice_get xs k) ≡ Some page → slice_get xs k ≡ Some page.0
found_some xs k page e = some_by (slice_get xs k) page e

-- or none
pub found_none : (xs : List ℕ) (k : ℕ) → option_map page_at (slice_get xs k) ≡ None → slice_get xs k ≡ None
found_none xs k e = none_by (slice_get xs k) e

-- then there are no more
pub none_past : (xs : List ℕ) (k : ℕ) → slice_get xs k ≡ None → k < length xs → ⊥
none_past xs k e l = let clash : None ≡ Some (slice_index xs k) = sym e ∙ slice_get-get_or xs k 0 l in cc

-- one that was found is within, and stands there
pub some_within : (xs : List ℕ) (k p : ℕ) → slice_get xs k ≡ Some p → k < length xs
some_within xs k p e = slice_get_within xs k p e

pub some_is : (xs : List ℕ) (k p : ℕ) → slice_get xs k ≡ Some p → slice_index xs k ≡ p
some_is xs k p e = get_or_from_slice_get xs k p 0 e
