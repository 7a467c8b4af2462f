-- Texts of words, and readers of words.
use Rattle.std.proofs.Common.{◌≡◌, ℕ, ◌^◌, ◌<◌, List, [], ◌∷◌, ◌++◌, map, refl, ap, ◌∙◌, sym, arith, true, false, Option, Some, None, append_assoc, codes}
use Rattle.std.specs.Prelude.{decimal, nat_lt}
use Rattle.std.specs.List.{list_all}
use Rattle.std.specs.Option.{option_map}
use Rattle.std.specs.Str.{bytes_eq}
use Rattle.std.proofs.lemmas.Bool.{and_parts}
use Rattle.std.proofs.lemmas.Bool.Decides.{nat_tests}
use Rattle.ak_core.specs.declared.page.Flags.{Flags}
use Rattle.ak_script.specs.Text.{numbers_text}
use Rattle.ak_script.specs.Words.{flags_of, number_of}
use Rattle.ak_script.proofs.Plain.{ArePlain, IsPlain, plain_decimal, spaced, spaced_push}
use Rattle.ak_report.specs.Types.{AreWords}

-- each number has at most 64 bits, one by one
abbrev pub AreSmall : List ℕ → Type 0
AreSmall [] = Unit {0}
AreSmall (n ∷ ns) = (n < 2 ^ 64) × AreSmall ns

is_small : (n : ℕ) → nat_lt n (2 ^ 64) ≡ true → n < 2 ^ 64
is_small n h = grind (arith, nat_tests)

pub are_small : (ns : List ℕ) → AreWords ns → AreSmall ns
are_small [] h = tt
are_small (n ∷ ns) h = let parts = and_parts (nat_lt n (2 ^ 64)) (list_all (λ m. nat_lt m (2 ^ 64)) ns) h in (is_small n parts.0, are_small ns parts.1)

pub small_parts : (ms ns : List ℕ) → AreSmall (ms ++ ns) → AreSmall ms × AreSmall ns
small_parts [] ns small = (tt, small)
small_parts (m ∷ ms) ns small = let parts = small_parts ms ns small.1 in ((small.0, parts.0), parts.1)

-- what is read of the first words, with the words that are left
abbrev pub Read : Type 0 → Type 0
Read T = Option (T × List (List ℕ))

abbrev pub Reader : Type 0 → Type 0
Reader T = List (List ℕ) → Read T

abbrev pub give : {T : Type 0} → T → Reader T
give x words = Some (x, words)

abbrev pub then : {A B : Type 0} → (A → Reader B) → Read A → Read B
then f None = None
then f (Some front) = f front.0 front.1

abbrev pub number : {T : Type 0} → (ℕ → Reader T) → Reader T
number f [] = None
number f (w ∷ rest) = then f (option_map (λ n. (n, rest)) (number_of w))

abbrev pub flags : {T : Type 0} → (Flags → Reader T) → Reader T
flags f [] = None
flags f (w ∷ rest) = then f (option_map (λ v. (v, rest)) (flags_of w))

abbrev pub one : {T : Type 0} → (ℕ → T) → Reader T
one make = number (λ n. give (make n))

abbrev pub two : {T : Type 0} → (ℕ → ℕ → T) → Reader T
two make = number (λ n. one (make n))

abbrev pub three : {T : Type 0} → (ℕ → ℕ → ℕ → T) → Reader T
three make = number (λ n. two (make n))

abbrev pub five : {T : Type 0} → (ℕ → ℕ → ℕ → ℕ → ℕ → T) → Reader T
five make = number (λ m. number (λ n. three (make m n)))

-- the reader that goes with the first word
abbrev pub choose : {T : Type 0} → List (List ℕ × Reader T) → List ℕ → Reader T
choose [] w rest = None
choose (entry ∷ entries) w rest = elim (bytes_eq w entry.0) [ true ↦ entry.1 rest | false ↦ choose entries w rest ]

abbrev pub by_word : {T : Type 0} → List (List ℕ × Reader T) → Reader T
by_word entries [] = None
by_word entries (w ∷ rest) = choose entries w rest

-- a text is made of plain words, which are read as this
pub record IsRead {T : Type 0} (read : Reader T) (text : List ℕ) (x : T) : Type 0 where
  pub words : List (List ℕ)
  pub plain : ArePlain words
  pub spelled : 32 ∷ text ≡ spaced words
  pub reads : (rest : List (List ℕ)) → read (words ++ rest) ≡ Some (x, rest)

plain_numbers : (ns : List ℕ) → AreSmall ns → ArePlain (map decimal ns)
plain_numbers [] small = tt
plain_numbers (n ∷ ns) small = (plain_decimal n small.0, plain_numbers ns small.1)

pub plain_append : (xs ys : List (List ℕ)) → ArePlain xs → ArePlain ys → ArePlain (xs ++ ys)
plain_append [] ys plain others = others
plain_append (x ∷ xs) ys plain others = (plain.0, plain_append xs ys plain.1 others)

pub spaced-append : (xs ys : List (List ℕ)) → spaced (xs ++ ys) ≡ spaced xs ++ spaced ys
spaced-append [] ys = refl
spaced-append (x ∷ xs) ys = ap (λ l. 32 ∷ x ++ l) (spaced-append xs ys) ∙ ap (λ l. 32 ∷ l) (sym (append_assoc x (spaced xs) (spaced ys)))

numbers-spaced : (ns : List ℕ) → numbers_text ns ≡ spaced (map decimal ns)
numbers-spaced [] = refl
numbers-spaced (n ∷ ns) = ap (λ l. 32 ∷ decimal n ++ l) (numbers-spaced ns)

module _ {T : Type 0} (read : Reader T) (word : List ℕ) (ns : List ℕ) (x : T) (plain : IsPlain word) (small : AreSmall ns) where
  -- a word and numbers
  pub by_numbers : ((rest : List (List ℕ)) → read (word ∷ map decimal ns ++ rest) ≡ Some (x, rest)) → IsRead read (word ++ numbers_text ns) x
  by_numbers reads = record {
    words = word ∷ map decimal ns;
    plain = (plain, plain_numbers ns small);
    spelled = ap (λ l. 32 ∷ word ++ l) (numbers-spaced ns);
    reads = reads;
  }

  -- and one more word
  pub by_tail : (tail : List ℕ) → IsPlain tail → ((rest : List (List ℕ)) → read ((word ∷ map decimal ns ++ tail ∷ []) ++ rest) ≡ Some (x, rest)) → IsRead read (word ++ numbers_text ns ++ codes " " ++ tail) x
  by_tail tail plain_tail reads = record {
    words = word ∷ map decimal ns ++ tail ∷ [];
    plain = (plain, plain_append (map decimal ns) (tail ∷ []) (plain_numbers ns small) (plain_tail, tt));
    spelled = ap (λ l. 32 ∷ l) (append_assoc (word ++ numbers_text ns) (codes " ") tail ∙ append_assoc word (numbers_text ns) (32 ∷ tail))
        ∙ ap (λ l. 32 ∷ word ++ (l ++ 32 ∷ tail)) (numbers-spaced ns)
        ∙ ap (λ l. 32 ∷ word ++ l) (sym (spaced_push (map decimal ns) tail));
    reads = reads;
  }
