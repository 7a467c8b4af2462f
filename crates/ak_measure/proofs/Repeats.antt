-- A digest that stands twice.
use Rattle.std.proofs.Common.{◌≡◌, ℕ, Bool, true, false, ◌||◌, ◌⊎◌, inl, inr, List, [], ◌∷◌, ◌++◌, refl}
use Rattle.std.specs.List.{list_any}
use Rattle.std.specs.Str.{bytes_eq}
use Rattle.std.proofs.lemmas.List.Folds.{list_any-append}
use Rattle.ak_measure.specs.Signers.{repeats}

either : (a b : Bool) → (a || b) ≡ true → (a ≡ true) ⊎ (b ≡ true)
either true b h = inl refl
either false b h = inr h

neither : (a b : Bool) → (a || b) ≡ false → (a ≡ false) × (b ≡ false)
neither true b h = cc
neither false b h = (refl, h)

or-true : (a b : Bool) → b ≡ true → (a || b) ≡ true
or-true true b h = refl
or-true false b h = h

-- one more digest that is not among them
pub repeats-more : (digests : List (List ℕ)) (digest : List ℕ) → repeats digests ≡ false → list_any (bytes_eq digest) digests ≡ false
    → repeats (digests ++ digest ∷ []) ≡ false
repeats-more [] digest once new = refl
repeats-more (d ∷ digests) digest once new =
    let (here, later) = neither (list_any (λ e. bytes_eq e d) digests) (repeats digests) once in
    let (other, others) = neither (bytes_eq digest d) (list_any (bytes_eq digest) digests) new in
    rw (list_any-append (λ e. bytes_eq e d) digests (digest ∷ []), here, other, repeats-more digests digest later others) refl

-- a digest that is among those before it
pub repeats-again : (digests : List (List ℕ)) (digest : List ℕ) (rest : List (List ℕ)) → list_any (bytes_eq digest) digests ≡ true
    → repeats (digests ++ digest ∷ rest) ≡ true
repeats-again [] digest rest old = cc
repeats-again (d ∷ digests) digest rest old =
    elim (either (bytes_eq digest d) (list_any (bytes_eq digest) digests) old) [
      | inl same ↦ rw (list_any-append (λ e. bytes_eq e d) digests (digest ∷ rest), same, or-true (list_any (λ e. bytes_eq e d) digests) true refl) refl
      | inr among ↦ or-true (list_any (λ e. bytes_eq e d) (digests ++ digest ∷ rest)) (repeats (digests ++ digest ∷ rest)) (repeats-again digests digest rest among)
    ]
