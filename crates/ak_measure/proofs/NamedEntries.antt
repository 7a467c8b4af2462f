-- A turn of the loop over the entries of a document.
use Rattle.std.proofs.Common.{◌≡◌, ℕ, Bool, true, false, ◌||◌, List, [], ◌∷◌, ◌++◌, map, Option, Some, None, option_map, String, Global, refl, ap, sym, subst, ◌∙◌}
use Rattle.std.proofs.lemmas.List.{map-append, map-id}
use Rattle.std.proofs.lemmas.List.Folds.{list_any-append}
use Rattle.std.proofs.lemmas.Map.Iter.{rest_so_far, rest_more}
use Rattle.std.specs.Iterator.{Yields}
use Rattle.std.specs.List.Sorted.{IsStrictlySortedBy}
use Rattle.std.specs.Map.{keys_of}
use Rattle.std.specs.Map.Iter.{TakesFirst}
use Rattle.std.specs.Option.{IfSome}
use Rattle.std.specs.String.{string_cmp}
use Rattle.ak_measure.specs.Signers.{repeats, any_repeats}

-- what was yielded, the item, and the rest are all
pub turn : {A : Type 0} (yielded start left later all : List A) (next : Option A) (x : A) → start ≡ all → Yields (TakesFirst (λ p. p)) start yielded left
    → next ≡ Some x → TakesFirst (λ p. p) left next later → yielded ++ (x ∷ later) ≡ all
turn yielded start left later all next x at_start so_far is step =
    let rest : left ≡ x ∷ later = rest_more (λ p. p) left later next x is step in
    let begun : start ≡ map (λ p. p) yielded ++ left = rest_so_far (λ p. p) yielded start left so_far in
    ap (λ l. yielded ++ l) (sym rest) ∙ (ap (λ l. l ++ left) (sym (map-id yielded)) ∙ (sym begun ∙ at_start))

-- the names in order, with the name of the item among them
pub in_order : {X : Type 0} (before : List (String Global × X)) (x : String Global × X) (after all : List (String Global × X)) → before ++ (x ∷ after) ≡ all
    → IsStrictlySortedBy string_cmp (keys_of all) → IsStrictlySortedBy string_cmp (keys_of before ++ (x.0 ∷ keys_of after))
in_order before x after all whole ordered =
    subst (IsStrictlySortedBy string_cmp) (ap keys_of (sym whole) ∙ map-append (λ e. e.0) before (x ∷ after)) ordered

-- one more signer
pub any_repeats-more : (signers : List (List ℕ × List (List ℕ))) (signer : List ℕ × List (List ℕ)) → any_repeats signers ≡ false → repeats signer.1 ≡ false
    → any_repeats (signers ++ signer ∷ []) ≡ false
any_repeats-more signers signer once new = rw (list_any-append (λ s. repeats s.1) signers (signer ∷ []), once, new) refl

or-true : (a b c : Bool) → b ≡ true → (a || (b || c)) ≡ true
or-true true b c h = refl
or-true false b c h = rw h refl

-- a signer that has a digest twice, among others
pub any_repeats-at : (before after : List (List ℕ × List (List ℕ))) (signer : List ℕ × List (List ℕ)) → repeats signer.1 ≡ true
    → any_repeats (before ++ (signer ∷ after)) ≡ true
any_repeats-at before after signer twice =
    list_any-append (λ s. repeats s.1) before (signer ∷ after) ∙ or-true (any_repeats before) (repeats signer.1) (any_repeats after) twice

-- a name with its digests
abbrev pub Signer : Type 0
Signer = List ℕ × List (List ℕ)

-- what is said of the digests of a value, said of its name with them
pub if_named : (name : List ℕ) (found : Option (List (List ℕ))) → IfSome found (λ ds. repeats ds ≡ true)
    → IfSome (option_map (λ (ds : List (List ℕ)). let s : Signer = (name, ds) in s) found) (λ s. repeats s.1 ≡ true)
if_named name None h = tt
if_named name (Some ds) h = h
