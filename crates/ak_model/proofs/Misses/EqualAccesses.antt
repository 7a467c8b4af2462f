-- Equal accesses, by the test.
use Rattle.std.proofs.Common.{◌≡◌, ℕ, refl, ap, ◌∙◌, arith}
use Rattle.std.proofs.lemmas.Bool.{eqb-true, and_parts}
use Rattle.std.proofs.lemmas.Bool.Decides.{nat_tests}
use Rattle.std.specs.Prelude.{true, ◌==◌}
use Rattle.ak_core.specs.Mem.{Access, access_to}
use Rattle.ak_core.specs.declared.page.Kind.{Kind}
use Rattle.ak_core.specs.declared.page.Kind.TheVariants.{Read, Write, Exec}
use Rattle.ak_model.specs.Misses.KeptTranslations.{same_kind, same_access}

kind_is : (a b : Kind) → same_kind a b ≡ true → a ≡ b
kind_is Read Read h = refl
kind_is Write Write h = refl
kind_is Exec Exec h = refl
kind_is Read Write h = absurd (cc)
kind_is Read Exec h = absurd (cc)
kind_is Write Read h = absurd (cc)
kind_is Write Exec h = absurd (cc)
kind_is Exec Read h = absurd (cc)
kind_is Exec Write h = absurd (cc)

-- equal accesses are equal
pub access_is : (t u : Access) → same_access t u ≡ true → t ≡ u
access_is t u h =
    let parts = and_parts (t.page.0 == u.page.0) (same_kind t.kind u.kind) h in
    ap (λ (n : ℕ). access_to n t.kind) (eqb-true t.page.0 u.page.0 parts.0) ∙ ap (access_to u.page.0) (kind_is t.kind u.kind parts.1)

-- a access equals itself
pub access_self : (t : Access) → same_access t t ≡ true
access_self t = let n = t.page.0 in let e : (n == n) ≡ true = grind (arith, nat_tests) in rw e (kind_self t.kind)
  where
    kind_self : (k : Kind) → same_kind k k ≡ true
    kind_self Read = refl
    kind_self Write = refl
    kind_self Exec = refl
