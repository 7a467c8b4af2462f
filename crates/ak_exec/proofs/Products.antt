-- A signed product fits 64 bits just where the definition says so, by the signs and how far the numbers are from 0.
use Rattle.std.proofs.Common.{◌≡◌, ℕ, zero, suc, ◌-◌, ◌*◌, ◌%◌, ◌^◌, ◌<◌, ◌≤◌, Bool, true, false, not, ℤ, pos, w64, SFits, refl, ap, ap₂, sym, ◌∙◌, subst, mod-lt, arith}
use Rattle.std.specs.Prelude.{nat_lt, nat_le, ◌*ℤ◌, neg_ℤ, if◌then◌else◌}
use Rattle.std.specs.Bool.{beq, FalseIff}
use Rattle.std.specs.Int.{cast_signed, cast_unsigned, int_wrapping_mul}
use Rattle.std.proofs.lemmas.Int.{to_z_pos, of_z-to_z}
use Rattle.std.proofs.lemmas.Bool.Decides.{nat_tests}
use Rattle.ak_model.specs.Flat.Instructions.{top_bit, magnitude, product_fits}

-- a number by its sign, and how far it is from 0
signed : Bool → ℕ → ℤ
signed false n = pos n
signed true n = neg_ℤ (pos n)

reads_by : (b : Bool) (x : ℕ) → x < 2 ^ 64 → top_bit x ≡ b → cast_signed w64 x ≡ signed b (if b then 2 ^ 64 - x else x)
unfolding signed
reads_by false x h e = let low : x < 2 ^ 63 = grind (arith, nat_tests) in to_z_pos w64 x low
reads_by true x h e =
    let high : 2 ^ 63 ≤ x = grind (arith, nat_tests) in
    let k = 2 ^ 64 - suc x in
    let more : 2 ^ 64 - x ≡ suc k = omega arith in
    let no : nat_lt x (2 ^ 63) ≡ false = grind (arith, nat_tests) in
    rw (no, more) refl

-- the bits of a number, read as signed
reads : (x : ℕ) → x < 2 ^ 64 → cast_signed w64 x ≡ signed (top_bit x) (magnitude x)
reads x h = reads_by (top_bit x) x h refl

negative_zero : (n : ℕ) → n ≡ 0 → pos n ≡ neg_ℤ (pos n)
negative_zero n e = rw e refl

signs : (s t : Bool) (m n : ℕ) → signed s m *ℤ signed t n ≡ signed (not (beq s t)) (m * n)
unfolding signed
signs false false m n = refl
signs false true m zero = negative_zero (m * 0) (omega arith)
signs false true m (suc n) = refl
signs true false zero n = negative_zero (0 * n) (omega arith)
signs true false (suc m) n = refl
signs true true zero zero = refl
signs true true zero (suc n) = sym (negative_zero (0 * suc n) (omega arith))
signs true true (suc m) zero = sym (negative_zero (suc m * 0) (omega arith))
signs true true (suc m) (suc n) = refl

fits_by : Bool → ℕ → Bool
fits_by false n = nat_lt n (2 ^ 63)
fits_by true n = nat_le n (2 ^ 63)

fits : (s : Bool) (n : ℕ) → fits_by s n ≡ true → SFits w64 (signed s n)
unfolding signed fits_by
fits false n e = record { sfits = grind (arith, nat_tests) }
fits true zero e = record { sfits = omega arith }
fits true (suc n) e = record { sfits = grind (arith, nat_tests) }

too_large : (s : Bool) (n : ℕ) → fits_by s n ≡ false → SFits w64 (signed s n) → ⊥
unfolding signed fits_by
too_large false n e h = let small = h.sfits in grind (arith, nat_tests)
too_large true zero e h = cc
too_large true (suc n) e h = let small = h.sfits in grind (arith, nat_tests)

decides : (s o b : Bool) (n : ℕ) → fits_by s n ≡ b → FalseIff o (SFits w64 (signed s n)) → o ≡ not b
decides s true true n e h = absurd (h (fits s n e))
decides s true false n e h = refl
decides s false true n e h = refl
decides s false false n e h = absurd (too_large s n e h)

fits_is : (s t : Bool) (n : ℕ) → (if beq s t then nat_lt n (2 ^ 63) else nat_le n (2 ^ 63)) ≡ fits_by (not (beq s t)) n
unfolding fits_by
fits_is false false n = refl
fits_is false true n = refl
fits_is true false n = refl
fits_is true true n = refl

overflows : (x y : ℕ) (o : Bool) → x < 2 ^ 64 → y < 2 ^ 64 → FalseIff o (SFits w64 (cast_signed w64 x *ℤ cast_signed w64 y)) → o ≡ not (product_fits x y)
overflows x y o h k f =
    let s = top_bit x in let t = top_bit y in let n = magnitude x * magnitude y in
    let product : cast_signed w64 x *ℤ cast_signed w64 y ≡ signed (not (beq s t)) n = ap₂ (λ a b. a *ℤ b) (reads x h) (reads y k) ∙ signs s t (magnitude x) (magnitude y) in
    decides (not (beq s t)) o (product_fits x y) n (sym (fits_is s t n)) (subst (λ z. FalseIff o (SFits w64 z)) product f)

-- ---- As the code's clauses have it

again : (x : ℕ) (a : ℤ) → x < 2 ^ 64 → a ≡ cast_signed w64 x → cast_signed w64 (cast_unsigned w64 a) ≡ cast_signed w64 x
again x a h e = ap (λ z. cast_signed w64 (cast_unsigned w64 z)) e ∙ ap (cast_signed w64) (of_z-to_z w64 x h)

-- whether the product overflows
pub overflow_is : (x y : ℕ) (a b : ℤ) (o : Bool) → x < 2 ^ 64 → y < 2 ^ 64 → a ≡ cast_signed w64 x → b ≡ cast_signed w64 y → FalseIff o (SFits w64 (cast_signed w64 (cast_unsigned w64 a) *ℤ cast_signed w64 (cast_unsigned w64 b))) → o ≡ not (product_fits x y)
overflow_is x y a b o h k e f o_is = overflows x y o h k (subst (λ z. FalseIff o (SFits w64 z)) (ap₂ (λ c d. c *ℤ d) (again x a h e) (again y b k f)) o_is)

-- the product's bits
pub bits_are : (x y p : ℕ) (a b z : ℤ) → x < 2 ^ 64 → y < 2 ^ 64 → a ≡ cast_signed w64 x → b ≡ cast_signed w64 y → z ≡ int_wrapping_mul w64 (cast_signed w64 (cast_unsigned w64 a)) (cast_signed w64 (cast_unsigned w64 b)) → p ≡ cast_unsigned w64 (cast_signed w64 (cast_unsigned w64 z)) → p ≡ x * y % 2 ^ 64
bits_are x y p a b z h k e f z_is p_is =
    let m = x * y % 2 ^ 64 in
    let small : m < 2 ^ 64 = mod-lt (x * y) (omega arith) in
    let factor : (u : ℕ) (c : ℤ) → u < 2 ^ 64 → c ≡ cast_signed w64 u → cast_unsigned w64 (cast_signed w64 (cast_unsigned w64 c)) ≡ u = λ u c low is. ap (cast_unsigned w64) (again u c low is) ∙ of_z-to_z w64 u low in
    let product : z ≡ cast_signed w64 m = z_is ∙ ap₂ (λ c d. cast_signed w64 (c * d % 2 ^ 64)) (factor x a h e) (factor y b k f) in
    p_is ∙ ap (cast_unsigned w64) (again m z small product) ∙ of_z-to_z w64 m small
