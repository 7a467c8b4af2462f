-- The map of the code beside the list of signers.
use Rattle.std.proofs.Common.{◌≡◌, ℕ, Bool, true, false, cond, List, [], ◌∷◌, Option, Some, None, option_map, is_some, String, Global, string_bytes, nat_cmp, is_eq, refl, ap, ap₂, sym, ◌∙◌}
use Rattle.std.specs.Str.{bytes_eq}
use Rattle.std.specs.List.{list_any}
use Rattle.std.specs.Option.{option_map_or}
use Rattle.ak_measure.specs.Collected.{named}
use Rattle.ak_measure.specs.Signers.{Signed, knows, allows}
use Rattle.std.specs.Cmp.Lexicographic.{slice_cmp}
use Rattle.std.specs.Map.{lookup}
use Rattle.std.specs.BTreeMap.{is_at}
use Rattle.std.proofs.lemmas.Map.Text.{is_eq-slice_cmp}

module _ {X : Type 0} (digests : X → List (List ℕ)) where
  found_or : (b : Bool) (x : X) (rest : Option X) → cond b (Some (digests x)) (option_map digests rest) ≡ option_map digests (cond b (Some x) rest)
  found_or true x rest = refl
  found_or false x rest = refl

  is_some-option_map : (found : Option X) → is_some (option_map digests found) ≡ is_some found
  is_some-option_map None = refl
  is_some-option_map (Some x) = refl

  map_or-option_map : (test : List (List ℕ) → Bool) (found : Option X) → option_map_or (λ x. test (digests x)) found false ≡ option_map_or test (option_map digests found) false
  map_or-option_map test None = refl
  map_or-option_map test (Some x) = refl

  -- what the map finds at a name
  pub lookup-named : (name : List ℕ) (es : List (String Global × X)) → lookup (bytes_eq name) (named digests es) ≡ option_map digests (lookup (is_at (λ k. slice_cmp nat_cmp name (string_bytes k))) es)
  lookup-named name [] = refl
  lookup-named name (e ∷ es) =
      ap₂ (λ b r. cond b (Some (digests e.1)) r) (sym (is_eq-slice_cmp name (string_bytes e.0))) (lookup-named name es)
      ∙ found_or (is_eq (slice_cmp nat_cmp name (string_bytes e.0))) e.1 (lookup (is_at (λ k. slice_cmp nat_cmp name (string_bytes k))) es)

  -- whether the map knows a name
  pub knows-named : (name : List ℕ) (es : List (String Global × X)) (signers : Signed) → named digests es ≡ signers
      → is_some (lookup (is_at (λ k. slice_cmp nat_cmp name (string_bytes k))) es) ≡ knows signers name
  knows-named name es signers same =
      sym (is_some-option_map (lookup (is_at (λ k. slice_cmp nat_cmp name (string_bytes k))) es))
      ∙ (ap is_some (sym (lookup-named name es)) ∙ ap (λ s. knows s name) same)

  -- whether the map allows a digest for a name that it has
  pub allows-named : (name : List ℕ) (digest : List ℕ) (es : List (String Global × X)) (signers : Signed) (found : Option X) → named digests es ≡ signers
      → found ≡ lookup (is_at (λ k. slice_cmp nat_cmp name (string_bytes k))) es
      → option_map_or (λ x. list_any (bytes_eq digest) (digests x)) found false ≡ allows signers name digest
  allows-named name digest es signers found same is =
      map_or-option_map (list_any (bytes_eq digest)) found
      ∙ (ap (λ o. option_map_or (list_any (bytes_eq digest)) (option_map digests o) false) is
      ∙ (ap (λ o. option_map_or (list_any (bytes_eq digest)) o false) (sym (lookup-named name es)) ∙ ap (λ s. allows s name digest) same))
