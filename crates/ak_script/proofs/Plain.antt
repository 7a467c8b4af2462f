-- Texts that are made of words and single spaces.
use Rattle.std.proofs.Common.{◌≡◌, ℕ, ◌+◌, ◌-◌, ◌*◌, ◌^◌, ◌<◌, ◌==◌, List, [], ◌∷◌, ◌++◌, length, get_or, refl, zero, suc, ◌||◌, ap, ◌∙◌, sym, arith, Bool, true, false, not, ◌&&◌, Some, append-nil, append_assoc}
use Rattle.std.specs.Prelude.{decimal, nat_lt}
use Rattle.std.specs.Char.{is_ascii_digit}
use Rattle.std.specs.Cmp.Derive.{both_true}
use Rattle.std.specs.List.{All, fold, list_all, slice_split}
use Rattle.std.proofs.lemmas.Bool.{and_parts}
use Rattle.std.proofs.lemmas.Bool.Decides.{nat_tests}
use Rattle.std.proofs.lemmas.Fmt.{decimal_digit, decimal_nonempty, digits_decimal, digits_value-decimal, first_decimal}
use Rattle.std.proofs.lemmas.List.Folds.{list_all-append}
use Rattle.std.proofs.lemmas.List.Splits.{slice_split_at, slice_split_none}
use Rattle.std.proofs.lemmas.List.Sums.{AllPass-from_list_all}
use Rattle.std.proofs.lemmas.Str.Parse.{FoldsDigits, IsDigitsTest, IsNumeralModel, numerals_by_fold}
use Rattle.ak_script.specs.Words.{decimal as the_decimal, is_blank, is_number, number_of, words_of}
use Rattle.ak_script.proofs.Splits.{filled, filled-cons}

-- a byte of a word: above `#`, and below 128
abbrev pub is_plain : ℕ → Bool
is_plain b = nat_lt 35 b && nat_lt b 128

-- a byte of a line: a space too
abbrev pub is_inner : ℕ → Bool
is_inner b = nat_lt 31 b && nat_lt b 128

-- a word that can be no comment
pub record IsPlain (word : List ℕ) : Type 0 where
  pub some : 0 < length word
  pub all : list_all is_plain word ≡ true

pub plain_by : (word : List ℕ) → nat_lt 0 (length word) ≡ true → list_all is_plain word ≡ true → IsPlain word
plain_by word some all = record { some = grind (arith, nat_tests); all = all }

-- each word is plain
abbrev pub ArePlain : List (List ℕ) → Type 0
ArePlain [] = Unit {0}
ArePlain (word ∷ words) = IsPlain word × ArePlain words

-- each word, after a space
abbrev pub spaced : List (List ℕ) → List ℕ
spaced [] = []
spaced (word ∷ words) = 32 ∷ word ++ spaced words

pub spaced_push : (words : List (List ℕ)) (word : List ℕ) → spaced (words ++ word ∷ []) ≡ spaced words ++ 32 ∷ word
spaced_push [] word = ap (λ l. 32 ∷ l) (append-nil word)
spaced_push (w ∷ words) word = ap (λ l. 32 ∷ w ++ l) (spaced_push words word) ∙ ap (λ l. 32 ∷ l) (sym (append_assoc w (spaced words) (32 ∷ word)))

-- where one test passes, another does
pub all_more : {A : Type 0} (p q : A → Bool) → ((x : A) → p x ≡ true → q x ≡ true) → (xs : List A) → list_all p xs ≡ true → list_all q xs ≡ true
all_more p q more [] all = refl
all_more p q more (x ∷ xs) all =
    let parts = and_parts (p x) (list_all p xs) all in
    both_true (more x parts.0) (all_more p q more xs parts.1)

not_blank : (b : ℕ) → is_plain b ≡ true → is_blank b ≡ false
not_blank b plain = grind (arith, nat_tests)

unblank : (word : List ℕ) → list_all is_plain word ≡ true → All (λ b. is_blank b ≡ false) word
unblank word all k d lt = not_blank (get_or word k d) (AllPass-from_list_all is_plain word all k d lt)

-- the words of a text of words
words_of-cons : (word rest : List ℕ) → IsPlain word → words_of (word ++ 32 ∷ rest) ≡ word ∷ words_of rest
words_of-cons [] rest plain = absurd (omega (arith, plain.some))
words_of-cons (b ∷ bs) rest plain = ap filled (slice_split_at is_blank (b ∷ bs) 32 rest (unblank (b ∷ bs) plain.all) refl) ∙ filled-cons (b ∷ bs) (slice_split is_blank rest)

words_of-one : (word : List ℕ) → IsPlain word → words_of word ≡ word ∷ []
words_of-one [] plain = absurd (omega (arith, plain.some))
words_of-one (b ∷ bs) plain = ap filled (slice_split_none is_blank (b ∷ bs) (unblank (b ∷ bs) plain.all)) ∙ filled-cons (b ∷ bs) []

pub words_of-spaced : (word : List ℕ) (words : List (List ℕ)) → IsPlain word → ArePlain words → words_of (word ++ spaced words) ≡ word ∷ words
words_of-spaced word [] plain others = ap words_of (append-nil word) ∙ words_of-one word plain
words_of-spaced word (next ∷ words) plain others = words_of-cons word (next ++ spaced words) plain ∙ ap (λ l. word ∷ l) (words_of-spaced next words others.0 others.1)

-- such a text has no byte but those of words and spaces
inner : (b : ℕ) → is_plain b ≡ true → is_inner b ≡ true
inner b plain = grind (arith, nat_tests)

inner_word : (word : List ℕ) → list_all is_plain word ≡ true → list_all is_inner word ≡ true
inner_word word all = all_more is_plain is_inner inner word all

pub inner_spaced : (word : List ℕ) (words : List (List ℕ)) → IsPlain word → ArePlain words → list_all is_inner (word ++ spaced words) ≡ true
inner_spaced word [] plain others = ap (list_all is_inner) (append-nil word) ∙ inner_word word plain.all
inner_spaced word (next ∷ words) plain others = list_all-append is_inner word (spaced (next ∷ words)) ∙ rw (inner_word word plain.all, inner_spaced next words others.0 others.1) refl

-- decimal digits are a plain word, and spell their number
digit_test : IsDigitsTest (λ digits. list_all is_ascii_digit digits ≡ true)
digit_test = record {
  empty = refl;
  parts = λ c cs all. ((grind (arith, nat_tests, all), grind (arith, nat_tests, all)), grind (arith, nat_tests, all));
  more = λ c cs within all. grind (arith, nat_tests, within, all);
}

digit_folds : FoldsDigits (λ n digits. fold (λ m digit. 10 * m + (digit - 48)) n digits)
digit_folds = record { empty = λ n. refl; more = λ n c cs within. ap (λ m. fold (λ m digit. 10 * m + (digit - 48)) m cs) (omega arith) }

digits : IsNumeralModel (λ digits. list_all is_ascii_digit digits ≡ true) the_decimal
digits = numerals_by_fold _ digit_test _ digit_folds

digit_is_plain : (b : ℕ) → is_ascii_digit b ≡ true → is_plain b ≡ true
digit_is_plain b digit = grind (arith, nat_tests)

pub plain_decimal : (n : ℕ) → n < 2 ^ 64 → IsPlain (decimal n)
plain_decimal n small = record { some = decimal_nonempty n small; all = all_more is_ascii_digit is_plain digit_is_plain (decimal n) (digits_decimal digits n small) }

-- no zero stands before others
begins_well : (n : ℕ) → n < 2 ^ 64 → (length (decimal n) == 1 || not (get_or (decimal n) 0 0 == 48)) ≡ true
begins_well zero small = rw (decimal_digit 0 (omega arith)) refl
begins_well (suc n) small = let first = first_decimal (suc n) (omega arith) small in grind (arith, nat_tests, first)

number_is : (n : ℕ) → n < 2 ^ 64 → is_number (decimal n) ≡ true
number_is n small =
    let some : not (length (decimal n) == 0) ≡ true = grind (arith, nat_tests, decimal_nonempty n small) in
    rw (some, digits_decimal digits n small, begins_well n small) refl

pub number_of-decimal : (n : ℕ) → n < 2 ^ 64 → number_of (decimal n) ≡ Some n
number_of-decimal n small = rw (number_is n small) (ap Some (digits_value-decimal digits n small))
