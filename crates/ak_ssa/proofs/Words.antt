-- Numbers as the instructions spell them in bytes, and as `byteorder` reads and writes them.
use Rattle.std.proofs.Common.{◌≡◌, ℕ, zero, suc, ◌+◌, ◌-◌, ◌*◌, List, [], ◌∷◌, ◌++◌, length, take, drop, refl, ap, sym, ◌∙◌, arith}
use Rattle.std.proofs.lemmas.List.{drop-drop, take-take, drop-take, take_rest}
use Rattle.std.proofs.Math.Nat.{div-div-eq-div-mul}
use Rattle.std.specs.Prelude.{flat_map, slice_index}
use Rattle.byteorder.specs.Endian.{IsRead, little_from, little_number, little_bytes}
use Rattle.byteorder.specs.Numbers.{little_from-cons}
use Rattle.ak_model.specs.Flat.Instructions.{le_bytes, le_value, number_at}
use Rattle.ak_ssa.specs.SavedRegisters.{words_in, after_words}

-- ---- Written

pub bytes-8 : (v : ℕ) → little_bytes 8 v ≡ le_bytes 8 v
bytes-8 v = simp div-div-eq-div-mul refl

pub bytes-4 : (v : ℕ) → little_bytes 4 v ≡ le_bytes 4 v
bytes-4 v = simp div-div-eq-div-mul refl

pub words-8 : (xs : List ℕ) → flat_map (little_bytes 8) xs ≡ flat_map (le_bytes 8) xs
words-8 [] = refl
words-8 (x ∷ xs) = ap (λ bytes. bytes ++ flat_map (little_bytes 8) xs) (bytes-8 x) ∙ ap (λ bytes. le_bytes 8 x ++ bytes) (words-8 xs)

-- ---- Read

none : (i n : ℕ) → little_from i n [] ≡ 0
none i zero = refl
none i (suc n) = let rest = none (suc i) n in omega (arith, rest)

pub number : (n : ℕ) (xs : List ℕ) → little_number n xs ≡ le_value (take n xs)
number zero xs = refl
number (suc n) [] = none 0 (suc n)
number (suc n) (x ∷ xs) = ap (λ y. x + 256 * y) (little_from-cons 0 n x xs ∙ number n xs)

-- a number from a place on
pub number_from : (place n : ℕ) (xs : List ℕ) → little_number n (take (length xs - place) (drop place xs)) ≡ number_at xs place n
number_from place n xs = ap (little_number n) (take_rest xs place) ∙ number n (drop place xs)

-- the words that were read
pub words_read : (n : ℕ) (bytes words : List ℕ) → length words ≡ n → IsRead little_number 8 bytes words → words ≡ words_in n bytes
words_read zero bytes [] size read = refl
words_read zero bytes (w ∷ words) size read = absurd (omega arith)
words_read (suc n) bytes [] size read = absurd (omega arith)
words_read (suc n) bytes (w ∷ words) size read =
    ap (λ x. x ∷ words) (read 0 (omega arith) ∙ number 8 bytes)
    ∙ ap (λ xs. le_value (take 8 bytes) ∷ xs) (words_read n (drop 8 bytes) words (omega arith) (λ k lt. read (suc k) (omega arith) ∙ ap (little_number 8) (later k)))
  where
    later : (k : ℕ) → drop (8 * suc k) bytes ≡ drop (8 * k) (drop 8 bytes)
    later k = let e : 8 * suc k ≡ 8 + 8 * k = omega arith in ap (λ m. drop m bytes) e ∙ sym (drop-drop (8 * k) 8 bytes)

-- so many words need no more bytes than theirs
pub words_in-take : (n : ℕ) (bytes : List ℕ) → words_in n (take (8 * n) bytes) ≡ words_in n bytes
words_in-take zero bytes = refl
words_in-take (suc n) bytes =
    let e : 8 * suc n ≡ 8 + 8 * n = omega arith in
    ap (λ m. words_in (suc n) (take m bytes)) e
    ∙ ap (λ xs. le_value xs ∷ words_in n (drop 8 (take (8 + 8 * n) bytes))) (take-take 8 (8 + 8 * n) bytes (omega arith))
    ∙ ap (λ xs. le_value (take 8 bytes) ∷ words_in n xs) (drop-take 8 (8 * n) bytes)
    ∙ ap (λ xs. le_value (take 8 bytes) ∷ xs) (words_in-take n (drop 8 bytes))

-- what follows them
pub after_words-drop : (n : ℕ) (bytes : List ℕ) → after_words n bytes ≡ drop (8 * n) bytes
after_words-drop zero bytes = refl
after_words-drop (suc n) bytes =
    let e : 8 + 8 * n ≡ 8 * suc n = omega arith in after_words-drop n (drop 8 bytes) ∙ drop-drop (8 * n) 8 bytes ∙ ap (λ m. drop m bytes) e

-- one byte
pub byte : (bytes : List ℕ) → le_value (take 1 bytes) ≡ slice_index bytes 0
byte [] = refl
byte (x ∷ xs) = omega arith
