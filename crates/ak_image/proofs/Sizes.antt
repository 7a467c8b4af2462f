-- The smallest power of two that is large enough.
use Rattle.std.proofs.Common.{◌≡◌, ℕ, zero, suc, ◌+◌, ◌*◌, ◌/◌, ◌^◌, ◌<◌, ◌≤◌, min, max, nat_le, ◌%◌, ◌==◌, ◌&&◌, ℤ, pos, negsuc, None, Bool, true, false, refl, sym, ap, ◌∙◌, inl, inr, arith}
use Rattle.std.proofs.lemmas.Bool.{cases_Bool, cases_lt}
use Rattle.std.proofs.lemmas.Bool.Decides.{nat_tests}
use Rattle.std.proofs.lemmas.Nat.{pow_pos}
use Rattle.std.proofs.Math.Nat.{pow-suc, mul_assoc}
use Rattle.std.proofs.Math.Pow.{pow_mono}
use Rattle.std.specs.Int.{IsPowerOfTwo}
use Rattle.ak_core.specs.Layout.{doubled_to, enclave_size}
use Rattle.ak_image.specs.Numbers.{number_where, is_base}

-- of two powers that are large enough, the half of the larger one is so too
same_exponent : (j k least : ℕ) → least ≤ 2 ^ j → 2 ^ k / 2 < max 1 least → j ≤ k → j ≡ k
same_exponent j zero least enough half below = omega arith
same_exponent j (suc i) least enough half below =
    elim (cases_lt j (suc i)) [
      | inl less ↦ (let up : 2 ^ j ≤ 2 ^ i = pow_mono (omega arith) in absurd (omega (arith, pow-suc 2 i, up, pow_pos j)))
      | inr more ↦ omega arith
    ]

small : (least size : ℕ) → nat_le least size ≡ true → least ≤ size
small least size t = grind (arith, nat_tests)

large : (least size : ℕ) → nat_le least size ≡ false → size < least
large least size f = grind (arith, nat_tests)

next_exponent : (j k least : ℕ) → 2 ^ j < least → least ≤ 2 ^ k → j ≤ k → suc j ≤ k
next_exponent j k least below enough up =
    elim (cases_lt j k) [
      | inl less ↦ omega arith
      | inr more ↦ (let same : k ≡ j = omega arith in absurd (omega (arith, ap (λ (i : ℕ). 2 ^ i) same)))
    ]

pub doubled_to-power : (n j k least : ℕ) → least ≤ 2 ^ k → 2 ^ k / 2 < max 1 least → j ≤ k → k ≤ j + n → doubled_to n (2 ^ j) least ≡ 2 ^ k
doubled_to-power zero j k least enough half below above = ap (λ (i : ℕ). 2 ^ i) (let e : j ≡ k = omega arith in e)
doubled_to-power (suc n) j k least enough half below above =
    elim (cases_Bool (nat_le least (2 ^ j))) [
      | inl t ↦ rw t (ap (λ (i : ℕ). 2 ^ i) (same_exponent j k least (small least (2 ^ j) t) half below))
      | inr f ↦ (
          let next : suc j ≤ k = next_exponent j k least (large least (2 ^ j) f) enough below in
          let twice : 2 * 2 ^ j ≡ 2 ^ suc j = omega (arith, pow-suc 2 j) in
          rw (f, twice) (doubled_to-power n (suc j) k least enough half next (omega arith)))
    ]

pub doubled_to-large : (n size least : ℕ) → min least (2 ^ n * size) ≤ doubled_to n size least
doubled_to-large zero size least = omega arith
doubled_to-large (suc n) size least =
    elim (cases_Bool (nat_le least size)) [
      | inl t ↦ rw t (omega (arith, small least size t))
      | inr f ↦ (
          let more : 2 ^ suc n * size ≡ 2 ^ n * (2 * size) = rw pow-suc (mul_assoc (2 ^ n) 2 size) in
          rw f (omega (arith, more, doubled_to-large n (2 * size) least)))
    ]

pub enclave_size-power : (n size : ℕ) → IsPowerOfTwo size → 4096 * (n + 6) ≤ size → size / 2 < max 1 (4096 * (n + 6)) → n < 2 ^ 35 → size ≡ enclave_size n
unfolding enclave_size
enclave_size-power n size power enough half few =
    let k = power.0 in
    let least = 4096 * (n + 6) in
    let same : size ≡ 2 ^ k = power.1 in
    let enough' : least ≤ 2 ^ k = omega arith in
    let half' : 2 ^ k / 2 < max 1 least = omega arith in
    let short : k ≤ 64 =
    elim (cases_lt 64 k) [
      | inl far ↦ (let high : 2 ^ 64 ≤ 2 ^ k = pow_mono {i = 64} {j = k} (omega arith) in absurd (omega arith))
      | inr near ↦ near
    ] in
    same ∙ sym (doubled_to-power 64 0 k least enough' half' (omega arith) (omega arith))

pub enclave_size-positive : (n : ℕ) → 0 < enclave_size n
unfolding enclave_size
enclave_size-positive n = omega (arith, doubled_to-large 64 1 (4096 * (n + 6)))

-- an enclave of very many pages has no base
pub enclave_size-large : (n : ℕ) → 2 ^ 35 ≤ n → 2 ^ 47 < enclave_size n
unfolding enclave_size
enclave_size-large n many = omega (arith, doubled_to-large 64 1 (4096 * (n + 6)))

above : (size b : ℕ) → 2 ^ 47 < size → is_base size b ≡ false
above size b high = ap (λ (t : Bool). (b % size == 0) && t) (let f : nat_le (b + size) (2 ^ 47) ≡ false = grind (arith, nat_tests) in f) ∙ never (b % size == 0)
  where
    never : (t : Bool) → t && false ≡ false
    never true = refl
    never false = refl

pub no_base-large : (n : ℕ) (base : ℤ) → 2 ^ 35 ≤ n → None ≡ number_where (is_base (enclave_size n)) base
no_base-large n (pos b) many = rw (above (enclave_size n) b (enclave_size-large n many)) refl
no_base-large n (negsuc b) many = refl
