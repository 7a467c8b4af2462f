-- What is known and allowed, as membership.
use Rattle.std.proofs.Common.{◌≡◌, ℕ, zero, suc, ◌<◌, Bool, true, false, cond, ◌||◌, List, [], ◌∷◌, length, Option, Some, None, is_some, Contains, Less, nat_cmp, is_eq, refl, ap, ap₂, sym, ◌∙◌, arith, inl, inr}
use Rattle.std.proofs.lemmas.Bool.{cases_Bool}
use Rattle.std.proofs.lemmas.Bool.Decides.{Decides-like, Decides-by_or, Decides-at}
use Rattle.std.proofs.lemmas.List.Elements.{Contains-append_right, Decides-contains}
use Rattle.std.proofs.lemmas.Map.Text.{is_eq-slice_cmp}
use Rattle.std.proofs.lemmas.Slice.Eq.{bytes_eq-Decides}
use Rattle.std.specs.Bool.{Decides}
use Rattle.std.specs.Cmp.Lexicographic.{slice_cmp}
use Rattle.std.specs.List.{list_any, AllByRecursion}
use Rattle.std.specs.List.Sorted.{IsStrictlySortedBy}
use Rattle.std.specs.Map.{lookup}
use Rattle.std.specs.Option.{option_map_or}
use Rattle.std.specs.Str.{bytes_eq}
use Rattle.std.specs.Ordering.{ordering_reverse}
use Rattle.std.proofs.lemmas.Cmp.{nat_list_cmp_total}
use Rattle.ak_measure.specs.Signers.{Named, Signed, names_of, knows, allows, HasSigned}

-- bytes are among others
Decides-among : (x : List ℕ) (xs : List (List ℕ)) → Decides (list_any (bytes_eq x) xs) (Contains xs x)
Decides-among x xs =
    Decides-contains xs x (list_any (bytes_eq x) xs)
    (Decides-by_or (bytes_eq x) (λ y. y ≡ x) (list_any (bytes_eq x)) (λ y. Decides-like (bytes_eq x y) sym sym (bytes_eq-Decides x y)) refl (λ _ _. refl) xs)

known_or : {A : Type 0} (b : Bool) (x : A) (rest : Option A) (r : Bool) → is_some rest ≡ r → is_some (cond b (Some x) rest) ≡ cond b true r
known_or true x rest r is = refl
known_or false x rest r is = is

or_cond : (b r : Bool) → cond b true r ≡ (b || r)
or_cond true r = refl
or_cond false r = refl

is_some-lookup : {A : Type 0} (name : List ℕ) (named : Named A) → is_some (lookup (bytes_eq name) named) ≡ list_any (bytes_eq name) (names_of named)
is_some-lookup name [] = refl
is_some-lookup name (e ∷ named) = known_or (bytes_eq name e.0) e.1 (lookup (bytes_eq name) named) _ (is_some-lookup name named) ∙ or_cond (bytes_eq name e.0) _

pub Decides-knows : (signers : Signed) (name : List ℕ) → Decides (knows signers name) (Contains (names_of signers) name)
Decides-knows signers name = Decides-at _ _ (is_some-lookup name signers) (Decides-among name (names_of signers))

-- what is found is there
found : {A : Type 0} (name : List ℕ) (named : Named A) (x : A) → lookup (bytes_eq name) named ≡ Some x → Contains named (name, x)
found name [] x is = cc
found {A} name (e ∷ named) x is =
    elim (cases_Bool (bytes_eq name e.0)) [
      | inl same ↦
          let pair : List ℕ → A → List ℕ × A = λ n y. (n, y) in
          let value : e.1 ≡ x = cc (ap (λ b. cond b (Some e.1) (lookup (bytes_eq name) named)) (sym same) ∙ is) in
          let first : e ≡ (name, x) = ap₂ pair (sym ((bytes_eq-Decides name e.0).0 same)) value in
          let within : 0 < suc (length named) = omega arith in
          (0, within, first)
      | inr other ↦ Contains-append_right (e ∷ []) named (name, x) (found name named x (ap (λ b. cond b (Some e.1) (lookup (bytes_eq name) named)) (sym other) ∙ is))
    ]

-- a name is not one that comes before it
other_name : (first name : List ℕ) → slice_cmp nat_cmp first name ≡ Less → bytes_eq name first ≡ false
other_name first name before = sym (is_eq-slice_cmp name first) ∙ ap is_eq (nat_list_cmp_total.antisymm name first ∙ ap ordering_reverse before)

before_all : {A : Type 0} (first : List ℕ) (named : Named A) (name : List ℕ) (x : A) → AllByRecursion (λ y. slice_cmp nat_cmp first y ≡ Less) (names_of named) → Contains named (name, x)
    → slice_cmp nat_cmp first name ≡ Less
before_all first [] name x all (k, within, is) = absurd (omega arith)
before_all first (e ∷ named) name x all (zero, within, is) = ap (slice_cmp nat_cmp first) (sym (ap (λ y. y.0) is)) ∙ all.0
before_all first (e ∷ named) name x all (suc k, within, is) = before_all first named name x all.1 (k, omega arith, is)

-- what is there is found, where the names ascend
found_at : {A : Type 0} (name : List ℕ) (named : Named A) (x : A) → IsStrictlySortedBy (slice_cmp nat_cmp) (names_of named) → Contains named (name, x)
    → lookup (bytes_eq name) named ≡ Some x
unfolding IsStrictlySortedBy
found_at name [] x ascend (k, within, is) = absurd (omega arith)
found_at name (e ∷ named) x ascend (zero, within, is) =
    let same : bytes_eq name e.0 ≡ true = (bytes_eq-Decides name e.0).1 (sym (ap (λ y. y.0) is)) in
    ap (λ b. cond b (Some e.1) (lookup (bytes_eq name) named)) same ∙ ap (λ y. Some y.1) is
found_at name (e ∷ named) x ascend (suc k, within, is) =
    let there : Contains named (name, x) = (k, omega arith, is) in
    let other : bytes_eq name e.0 ≡ false = other_name e.0 name (before_all e.0 named name x ascend.0 there) in
    ap (λ b. cond b (Some e.1) (lookup (bytes_eq name) named)) other ∙ found_at name named x ascend.1 there

allowed : (signers : Signed) (name digest : List ℕ) (digests : Option (List (List ℕ))) → lookup (bytes_eq name) signers ≡ digests
    → option_map_or (list_any (bytes_eq digest)) digests false ≡ true → HasSigned signers name digest
allowed signers name digest None is holds = cc
allowed signers name digest (Some digests) is holds = (digests, found name signers digests is, (Decides-among digest digests).0 holds)

pub Decides-allows : (signers : Signed) (name digest : List ℕ) → IsStrictlySortedBy (slice_cmp nat_cmp) (names_of signers)
    → Decides (allows signers name digest) (HasSigned signers name digest)
Decides-allows signers name digest ascend = (
  λ holds. allowed signers name digest (lookup (bytes_eq name) signers) refl holds,
  λ (digests, there, signed). ap (λ ds. option_map_or (list_any (bytes_eq digest)) ds false) (found_at name signers digests ascend there) ∙ (Decides-among digest digests).1 signed,
)
