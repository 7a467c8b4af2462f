-- Pages that were touched for writing, and pages that were written.
use Rattle.std.proofs.Common.{◌≡◌, ◌≢◌, ℕ, Bool, true, false, List, [], ◌∷◌, ◌++◌, refl, ap, ◌∙◌}
use Rattle.std.specs.Prelude.{◌==◌, ◌&&◌, ◌||◌, if◌then◌else◌}
use Rattle.std.proofs.lemmas.Bool.{eqb-true, eq-eqb}
use Rattle.ak_core.specs.Mem.{Access, access_to, is_touched, is_writable, is_write, with_page}
use Rattle.ak_core.specs.declared.page.Kind.TheVariants.{Write}

-- ---- Touches

writable-by : (b w any other : Bool) → (b && w) || any ≡ true → (any ≡ true → other ≡ true) → b || other ≡ true
writable-by true w any other some more = refl
writable-by false w any other some more = more some

-- a page that was touched for writing was touched
pub writable_touched : (granted : List Access) (p : ℕ) → is_writable granted p ≡ true → is_touched granted p ≡ true
writable_touched [] p some = some
writable_touched (t ∷ granted) p some =
    writable-by (t.page.0 == p) (is_write t.kind) (is_writable granted p) (is_touched granted p) some (writable_touched granted p)

or-true : (a b : Bool) → b ≡ true → a || b ≡ true
or-true true b h = refl
or-true false b h = h

here-true : (b any : Bool) → b ≡ true → (b && true) || any ≡ true
here-true true any h = refl
here-true false any h = absurd (cc)

-- one that stands among the accesses
pub writable_among : (before after : List Access) (p : ℕ) → is_writable (before ++ access_to p Write ∷ after) p ≡ true
writable_among [] after p = here-true (p == p) (is_writable after p) (eq-eqb p p refl)
writable_among (t ∷ before) after p = or-true ((t.page.0 == p) && is_write t.kind) (is_writable (before ++ access_to p Write ∷ after) p) (writable_among before after p)

-- ---- Writes

same-by : (b : Bool) (x y : List ℕ) → b ≡ true → (if b then x else y) ≡ x
same-by true x y h = refl
same-by false x y h = absurd (cc)

-- the page that was written
pub written_page : (bytes new : ℕ → List ℕ) (p : ℕ) (content : List ℕ) → new ≡ with_page bytes p content → new p ≡ content
written_page bytes new p content is = ap (λ f. f p) is ∙ same-by (p == p) content (bytes p) (eq-eqb p p refl)

other-by : (b : Bool) (q p : ℕ) (x y : List ℕ) → (q == p) ≡ b → q ≢ p → (if b then x else y) ≡ y
other-by true q p x y e differs = absurd (differs (eqb-true q p e))
other-by false q p x y e differs = refl

-- and the others
pub written_others : (bytes new : ℕ → List ℕ) (p : ℕ) (content : List ℕ) → new ≡ with_page bytes p content → (q : ℕ) → q ≢ p → new q ≡ bytes q
written_others bytes new p content is q differs = ap (λ f. f q) is ∙ other-by (q == p) q p content (bytes q) refl differs
