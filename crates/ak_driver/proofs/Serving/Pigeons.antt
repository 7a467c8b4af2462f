-- The pigeonhole: where distinct numbers stand in a list, they are no more than its length.
use Rattle.std.proofs.Common.{◌≡◌, ℕ, zero, suc, ◌+◌, ◌<◌, ◌≤◌, List, [], ◌∷◌, length, arith, refl, sym, ◌∙◌}
use Rattle.std.specs.Prelude.{Bool, true, false, ◌||◌, if◌then◌else◌, ◌==◌}
use Rattle.std.proofs.lemmas.Bool.{eqb-true, eqb-false}
use Rattle.ak_model.specs.Clusters.Queue.{is_in}
use Rattle.ak_driver.proofs.Serving.Finding.{Each}

-- the list without the first x
without : ℕ → List ℕ → List ℕ
without x [] = []
without x (y ∷ ys) = if y == x then ys else y ∷ without x ys

shorter : (x : ℕ) (xs : List ℕ) → is_in xs x ≡ true → suc (length (without x xs)) ≡ length xs
unfolding without
shorter x [] h = absurd (cc)
shorter x (y ∷ ys) h = by (y == x) h (shorter x ys)
  where
    by : (b : Bool) → (b || is_in ys x) ≡ true → (is_in ys x ≡ true → suc (length (without x ys)) ≡ length ys) → suc (length (if b then ys else y ∷ without x ys)) ≡ length (y ∷ ys)
    by true h next = refl
    by false h next = let n = next h in omega arith

still_in : (x z : ℕ) (xs : List ℕ) → (z ≡ x → ⊥) → is_in xs z ≡ true → is_in (without x xs) z ≡ true
unfolding without
still_in x z [] ne h = absurd (cc)
still_in x z (y ∷ ys) ne h = by (y == x) refl (y == z) refl h (still_in x z ys ne)
  where
    by : (b : Bool) → (y == x) ≡ b → (d : Bool) → (y == z) ≡ d → (d || is_in ys z) ≡ true → (is_in ys z ≡ true → is_in (without x ys) z ≡ true) → is_in (if b then ys else y ∷ without x ys) z ≡ true
    by true e true d h next = absurd (ne (sym (eqb-true y z d) ∙ eqb-true y x e))
    by true e false d h next = h
    by false e true d h next = rw d refl
    by false e false d h next = let n = next h in rw (d, n) refl

-- the numbers that f gives from a on stand in the list, no two the same
pub pigeons : (f : ℕ → ℕ) (n a : ℕ) (xs : List ℕ) → ((i : ℕ) → a ≤ i → i < a + n → is_in xs (f i) ≡ true) → ((i j : ℕ) → a ≤ i → i < j → j < a + n → f j ≡ f i → ⊥) → n ≤ length xs
pigeons f zero a xs there apart = omega arith
pigeons f (suc n) a xs there apart =
    let s = shorter (f a) xs (there a (omega arith) (omega arith)) in
    let r = pigeons f n (a + 1) (without (f a) xs)
    (λ i l h. still_in (f a) (f i) xs (apart a i (omega arith) (omega arith) (omega arith)) (there i (omega arith) (omega arith)))
    (λ i j l m h. apart i j (omega arith) m (omega arith)) in
    omega arith

-- and one more number of the list is not among them
pub pigeons_less : (f : ℕ → ℕ) (n a x : ℕ) (xs : List ℕ) → is_in xs x ≡ true → ((i : ℕ) → a ≤ i → i < a + n → is_in xs (f i) ≡ true) → ((i : ℕ) → a ≤ i → i < a + n → f i ≡ x → ⊥)
    → ((i j : ℕ) → a ≤ i → i < j → j < a + n → f j ≡ f i → ⊥) → n < length xs
pigeons_less f n a x xs h there other apart =
    let s = shorter x xs h in
    let r = pigeons f n a (without x xs) (λ i l m. still_in x (f i) xs (other i l m) (there i l m)) apart in
    omega arith

-- what holds of each number that stands in a list holds of each of its elements
pub each_in : (Q : ℕ → Type 0) (xs : List ℕ) → ((x : ℕ) → is_in xs x ≡ true → Q x) → Each Q xs
each_in Q [] h = tt
each_in Q (x ∷ xs) h = (h x (self x refl), each_in Q xs (λ y i. h y (more y i)))
  where
    self : (y : ℕ) → x ≡ y → ((x == y) || is_in xs y) ≡ true
    self y e = by (x == y) refl
      where
        by : (b : Bool) → (x == y) ≡ b → (b || is_in xs y) ≡ true
        by true d = refl
        by false d = absurd (eqb-false x y d e)

    more : (y : ℕ) → is_in xs y ≡ true → ((x == y) || is_in xs y) ≡ true
    more y i = rw i (or_true (x == y))
      where
        or_true : (b : Bool) → (b || true) ≡ true
        or_true true = refl
        or_true false = refl
