-- Where the first line of a text ends, and where its first word does.
use Rattle.std.proofs.Common.{◌≡◌, ℕ, ◌+◌, ◌-◌, ◌<◌, ◌≤◌, ◌==◌, List, [], ◌∷◌, refl, ap, ◌∙◌, sym, arith, inl, inr, Bool, true, false, not, cond, Some, None, unwrap_or, drop, take, length, get_or, suc, add-one, subst, drop-cons, length-drop}
use Rattle.std.specs.List.{filter, slice_split, onto_first, position_or_len, position, before_first, after_first, All}
use Rattle.std.specs.Str.Lines.{lines, lines_of_parts, strip_carriage_return}
use Rattle.std.proofs.lemmas.Bool.Decides.{nat_tests}
use Rattle.std.proofs.lemmas.Bool.{false≢true, cases_lt}
use Rattle.std.proofs.lemmas.List.{take_all, drop_all}
use Rattle.std.proofs.lemmas.List.Sums.{prefix_len-le-length, prefix_len_stops, prefix_len_passes}
use Rattle.std.proofs.lemmas.List.Splits.{slice_split-cons_yes, slice_split_first, slice_split_none}
use Rattle.ak_script.specs.Words.{is_blank, words_of}
use Rattle.ak_script.specs.Splitting.{word_before}

-- the first place that passes, or the end
pub unwrap_or-position : (p : ℕ → Bool) (xs : List ℕ) → unwrap_or (position p xs) (length xs) ≡ position_or_len p xs
unwrap_or-position p xs = grind (arith, nat_tests, prefix_len-le-length (λ x. not (p x)) xs)

-- the parts that are not empty
abbrev pub filled : List (List ℕ) → List (List ℕ)
filled parts = filter (λ part. not (length part == 0)) parts

-- what stands between elements that pass
abbrev parted : (ℕ → Bool) → List ℕ → List (List ℕ)
parted p xs = filled (slice_split p xs)

-- an element that passes, before all others
parted-passes : (p : ℕ → Bool) (b : ℕ) (bs : List ℕ) → p b ≡ true → parted p (b ∷ bs) ≡ parted p bs
parted-passes p b bs is = rw (slice_split-cons_yes p b bs is) refl

skipped_cons : (p : ℕ → Bool) (b : ℕ) (bs : List ℕ) (v : Bool) (n : ℕ) → p b ≡ v → parted p (drop n bs) ≡ parted p bs → parted p (drop (cond (not (not v)) (1 + n) 0) (b ∷ bs)) ≡ parted p (b ∷ bs)
skipped_cons p b bs true n is h = let e : 1 + n ≡ suc n = omega arith in ap (λ k. parted p (drop k (b ∷ bs))) e ∙ h ∙ sym (parted-passes p b bs is)
skipped_cons p b bs false n is h = refl

-- those that pass at the front
parted-skipped : (p : ℕ → Bool) (xs : List ℕ) → parted p (drop (position_or_len (λ b. not (p b)) xs) xs) ≡ parted p xs
parted-skipped p [] = refl
parted-skipped p (b ∷ bs) = skipped_cons p b bs (p b) (position_or_len (λ b. not (p b)) bs) refl (parted-skipped p bs)

is_true : (b : Bool) → not b ≡ false → b ≡ true
is_true true e = refl
is_true false e = absurd (false≢true (sym e))

is_false : (b : Bool) → not b ≡ true → b ≡ false
is_false true e = absurd (false≢true e)
is_false false e = refl

-- a part, if it is not empty, before others
abbrev pub with_front : List ℕ → List (List ℕ) → List (List ℕ)
with_front [] parts = parts
with_front (b ∷ bs) parts = (b ∷ bs) ∷ parts

is_some : (n : ℕ) → not (suc n == 0) ≡ true
is_some n = grind (arith, nat_tests)

pub filled-cons : (part : List ℕ) (parts : List (List ℕ)) → filled (part ∷ parts) ≡ with_front part (filled parts)
filled-cons [] parts = refl
filled-cons (b ∷ bs) parts = rw (is_some (length bs)) refl

-- what stands before the first element that passes is the first part, if it is not empty
parted-first_at : (p : ℕ → Bool) (xs : List ℕ) → position_or_len p xs < length xs → parted p xs ≡ with_front (before_first p xs) (parted p (drop (position_or_len p xs) xs))
parted-first_at p xs lt =
    let at : p (get_or xs (position_or_len p xs) 0) ≡ true = is_true _ (prefix_len_stops (λ x. not (p x)) xs 0 lt) in
    let rest : drop (position_or_len p xs) xs ≡ get_or xs (position_or_len p xs) 0 ∷ after_first p xs = drop-cons xs (position_or_len p xs) 0 lt ∙ ap (λ k. get_or xs (position_or_len p xs) 0 ∷ drop k xs) (sym (add-one (position_or_len p xs))) in
    ap filled (slice_split_first p xs 0 lt)
    ∙ filled-cons (before_first p xs) (slice_split p (after_first p xs))
    ∙ ap (with_front (before_first p xs)) (sym (ap (parted p) rest ∙ parted-passes p _ (after_first p xs) at))

parted-first_of : (p : ℕ → Bool) (xs : List ℕ) → length xs ≤ position_or_len p xs → parted p xs ≡ with_front (before_first p xs) (parted p (drop (position_or_len p xs) xs))
parted-first_of p xs le =
    let none : All (λ x. p x ≡ false) xs = λ k d lt. is_false _ (prefix_len_passes (λ x. not (p x)) xs k d (omega arith)) in
    let all : before_first p xs ≡ xs = take_all (position_or_len p xs) xs le in
    ap filled (slice_split_none p xs none) ∙ filled-cons xs [] ∙ sym (ap (λ part. with_front part []) all)
    ∙ sym (ap (λ rest. with_front (before_first p xs) (parted p rest)) (drop_all (position_or_len p xs) xs le))

parted-first : (p : ℕ → Bool) (xs : List ℕ) → parted p xs ≡ with_front (before_first p xs) (parted p (drop (position_or_len p xs) xs))
parted-first p xs = elim (cases_lt (position_or_len p xs) (length xs)) [ inl lt ↦ parted-first_at p xs lt | inr le ↦ parted-first_of p xs le ]

-- where the first element does not pass, the first part is not empty
first-begins : (p : ℕ → Bool) (b : ℕ) (bs : List ℕ) → p b ≡ false → before_first p (b ∷ bs) ≡ b ∷ before_first p bs
first-begins p b bs is =
    let more : position_or_len p (b ∷ bs) ≡ suc (position_or_len p bs) = rw is (omega arith) in
    ap (λ n. take n (b ∷ bs)) more

parted-word : (p : ℕ → Bool) (xs : List ℕ) → (0 < length xs → p (get_or xs 0 0) ≡ false) → parted p xs ≡ word_before (before_first p xs) (parted p (drop (position_or_len p xs) xs))
parted-word p [] head = refl
parted-word p (b ∷ bs) head =
    let rest : List (List ℕ) = parted p (drop (position_or_len p (b ∷ bs)) (b ∷ bs)) in
    let Same : List ℕ → Type 0 = λ part. with_front part rest ≡ word_before part rest in
    parted-first p (b ∷ bs) ∙ subst Same (sym (first-begins p b bs (head (omega arith)))) refl

-- an empty first part is followed by none
parted-none : (p : ℕ → Bool) (xs : List ℕ) → (0 < length xs → p (get_or xs 0 0) ≡ false) → length (before_first p xs) ≡ 0 → parted p (drop (position_or_len p xs) xs) ≡ []
parted-none p [] head none = refl
parted-none p (b ∷ bs) head none =
    let some : suc (length (before_first p bs)) ≡ 0 = sym (ap length (first-begins p b bs (head (omega arith)))) ∙ none in
    absurd (omega arith)

-- what is left after those that pass at the front begins with one that does not
skipped-head : (p : ℕ → Bool) (xs : List ℕ) → 0 < length (drop (position_or_len (λ b. not (p b)) xs) xs) → p (get_or (drop (position_or_len (λ b. not (p b)) xs) xs) 0 0) ≡ false
skipped-head p xs lt =
    let n : ℕ = position_or_len (λ b. not (p b)) xs in
    let inside : n < length xs = omega (arith, length-drop n xs) in
    let rest : drop n xs ≡ get_or xs n 0 ∷ drop (suc n) xs = drop-cons xs n 0 inside in
    ap (λ ys. p (get_or ys 0 0)) rest ∙ is_false _ (is_true _ (prefix_len_stops (λ x. not (not (p x))) xs 0 inside))

-- `&xs[start..]` is what is left after the first elements
pub rest_from : (xs : List ℕ) (start : ℕ) → take (length xs - start) (drop start xs) ≡ drop start xs
rest_from xs start = take_all (length xs - start) (drop start xs) (omega (arith, length-drop start xs))

-- the places that two searches give: where the first word begins, and in what is left where it ends
pub record IsFirstWord (xs ys : List ℕ) (start stop : ℕ) : Type 0 where
  pub start_is : start ≡ position_or_len (λ b. not (is_blank b)) xs
  pub left : ys ≡ drop start xs
  pub stop_is : stop ≡ position_or_len is_blank ys

module _ {xs ys : List ℕ} {start stop : ℕ} (w : IsFirstWord xs ys start stop) where
  left_is : ys ≡ drop (position_or_len (λ b. not (is_blank b)) xs) xs
  left_is = w.left ∙ ap (λ k. drop k xs) w.start_is

  head_is : 0 < length ys → is_blank (get_or ys 0 0) ≡ false
  head_is = let P : List ℕ → Type 0 = λ zs. 0 < length zs → is_blank (get_or zs 0 0) ≡ false in subst P (sym left_is) (skipped-head is_blank xs)

  -- that word and those after it are the words
  pub words_of-first : words_of xs ≡ word_before (take stop ys) (words_of (drop stop ys))
  words_of-first =
      sym (parted-skipped is_blank xs) ∙ ap words_of (sym left_is) ∙ parted-word is_blank ys head_is
      ∙ ap (λ k. word_before (take k ys) (words_of (drop k ys))) (sym w.stop_is)

  -- where it is empty, no word comes after it
  pub words_of-none : length (take stop ys) ≡ 0 → words_of (drop stop ys) ≡ []
  words_of-none none = ap (λ k. words_of (drop k ys)) w.stop_is ∙ parted-none is_blank ys head_is (sym (ap (λ k. length (take k ys)) w.stop_is) ∙ none)

-- the parts of a list are at least one
lines_of_parts-cond : (first : List ℕ) (v : Bool) (x : ℕ) (others parts : List (List ℕ)) → lines_of_parts (first ∷ cond v ([] ∷ others) (onto_first x parts)) ≡ strip_carriage_return first ∷ lines_of_parts (cond v ([] ∷ others) (onto_first x parts))
lines_of_parts-cond first true x others parts = refl
lines_of_parts-cond first false x others [] = refl
lines_of_parts-cond first false x others (part ∷ parts) = refl

pub lines_of_parts-more : (first : List ℕ) (p : ℕ → Bool) (xs : List ℕ) → lines_of_parts (first ∷ slice_split p xs) ≡ strip_carriage_return first ∷ lines_of_parts (slice_split p xs)
lines_of_parts-more first p [] = refl
lines_of_parts-more first p (x ∷ xs) = lines_of_parts-cond first (p x) x (slice_split p xs) (slice_split p xs)

-- what a search for a place says
position-found : (p : ℕ → Bool) (xs : List ℕ) (n : ℕ) → position p xs ≡ Some n → (position_or_len p xs ≡ n) × (n < length xs)
position-found p xs n is = elim (cases_lt (position_or_len p xs) (length xs)) [
  | inl lt ↦ (let same : position_or_len p xs ≡ n = grind (arith, nat_tests) in (same, omega arith))
  | inr le ↦ absurd (grind (arith, nat_tests))
]

position-none : (p : ℕ → Bool) (xs : List ℕ) → position p xs ≡ None → length xs ≤ position_or_len p xs
position-none p xs none = elim (cases_lt (position_or_len p xs) (length xs)) [
  | inl lt ↦ absurd (grind (arith, nat_tests))
  | inr le ↦ le
]

-- a newline ends the first line
pub lines-first : (xs : List ℕ) (stop : ℕ) → position (λ b. b == 10) xs ≡ Some stop → lines xs ≡ strip_carriage_return (take stop xs) ∷ lines (drop (stop + 1) xs)
lines-first xs stop is =
    let found = position-found (λ b. b == 10) xs stop is in
    ap lines_of_parts (slice_split_first (λ b. b == 10) xs 0 (omega arith))
    ∙ lines_of_parts-more (before_first (λ b. b == 10) xs) (λ b. b == 10) (after_first (λ b. b == 10) xs)
    ∙ ap (λ n. strip_carriage_return (take n xs) ∷ lines (drop (n + 1) xs)) found.0

-- without a newline there is one line
pub lines-last : (xs : List ℕ) → 0 < length xs → position (λ b. b == 10) xs ≡ None → lines xs ≡ xs ∷ []
lines-last xs lt none =
    let le = position-none (λ b. b == 10) xs none in
    let others : All (λ b. (b == 10) ≡ false) xs = λ k d lt. is_false _ (prefix_len_passes (λ b. not (b == 10)) xs k d (omega arith)) in
    ap lines_of_parts (slice_split_none (λ b. b == 10) xs others) ∙ grind (arith, nat_tests)

-- no bytes are no line
pub lines_none : (xs : List ℕ) → length xs ≡ 0 → lines xs ≡ []
lines_none [] none = refl
lines_none (b ∷ bs) none = absurd (omega arith)
