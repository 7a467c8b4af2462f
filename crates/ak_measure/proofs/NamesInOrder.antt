-- A name that comes after all others goes last.
use Rattle.std.proofs.Common.{◌≡◌, ℕ, List, [], ◌∷◌, ◌++◌, String, Global, Less, Greater, string_bytes, nat_cmp, refl, ap, sym, subst, ◌∙◌}
use Rattle.std.proofs.lemmas.Cmp.{nat_list_cmp_total}
use Rattle.std.specs.BTreeMap.{insert_entry}
use Rattle.std.specs.Cmp.Lexicographic.{slice_cmp}
use Rattle.ak_measure.specs.Signers.{names_of, Ascend}
use Rattle.ak_measure.specs.Collected.{named}
use Rattle.std.specs.List.{AllByRecursion}
use Rattle.std.specs.List.Sorted.{IsStrictlySortedBy}
use Rattle.std.specs.Map.{keys_of}
use Rattle.std.specs.Ordering.{ordering_reverse}
use Rattle.std.specs.String.{string_cmp}

abbrev pub Name : Type 0
Name = String Global

below_middle : (first : Name) (before : List Name) (name : Name) (after : List Name) → AllByRecursion (λ y. string_cmp first y ≡ Less) (before ++ (name ∷ after)) → string_cmp first name ≡ Less
below_middle first [] name after h = h.0
below_middle first (x ∷ before) name after h = below_middle first before name after h.1

-- a name above all names of the entries
above : (before : List Name) (name : Name) (after : List Name) → IsStrictlySortedBy string_cmp (before ++ (name ∷ after)) → AllByRecursion (λ y. string_cmp name y ≡ Greater) before
unfolding IsStrictlySortedBy
above [] name after ordered = tt
above (x ∷ before) name after ordered =
    (nat_list_cmp_total.antisymm (string_bytes name) (string_bytes x) ∙ ap ordering_reverse (below_middle x before name after ordered.0), above before name after ordered.1)

inserted : {X : Type 0} (es : List (Name × X)) (name : Name) (x : X) → AllByRecursion (λ y. string_cmp name y ≡ Greater) (keys_of es) → insert_entry string_cmp es name x ≡ es ++ (name, x) ∷ []
inserted [] name x above = refl
inserted (e ∷ es) name x above = rw above.0 (ap (λ rest. e ∷ rest) (inserted es name x above.1))

pub insert_entry-last : {X : Type 0} (es : List (Name × X)) (before : List Name) (name : Name) (after : List Name) (x : X) → keys_of es ≡ before
    → IsStrictlySortedBy string_cmp (before ++ (name ∷ after)) → insert_entry string_cmp es name x ≡ es ++ (name, x) ∷ []
insert_entry-last es before name after x same ordered =
    inserted es name x (subst (AllByRecursion (λ y. string_cmp name y ≡ Greater)) (sym same) (above before name after ordered))

all_above : {X : Type 0} (digests : X → List (List ℕ)) (name : Name) (es : List (Name × X)) → AllByRecursion (λ y. string_cmp name y ≡ Less) (keys_of es)
    → AllByRecursion (λ y. slice_cmp nat_cmp (string_bytes name) y ≡ Less) (names_of (named digests es))
all_above digests name [] all = tt
all_above digests name (e ∷ es) all = (all.0, all_above digests name es all.1)

-- the names of a map in order are in order by their bytes
pub Ascend-named : {X : Type 0} (digests : X → List (List ℕ)) (es : List (Name × X)) → IsStrictlySortedBy string_cmp (keys_of es) → Ascend (names_of (named digests es))
unfolding IsStrictlySortedBy
Ascend-named digests [] ordered = tt
Ascend-named digests (e ∷ es) ordered = (all_above digests e.0 es ordered.0, Ascend-named digests es ordered.1)
