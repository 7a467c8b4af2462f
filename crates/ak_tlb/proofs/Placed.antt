-- The place of a translation in the list.
use Rattle.std.proofs.Common.{◌≡◌, ℕ, suc, ◌+◌, ◌≤◌, ◌<◌, Bool, true, false, List, [], ◌∷◌, length, set, refl, sym, ap, ◌∙◌, arith, nat_lt}
use Rattle.std.proofs.lemmas.Bool.Decides.{nat_tests}
use Rattle.std.specs.Prelude.{Some, None, not, ◌||◌, if◌then◌else◌}
use Rattle.std.specs.List.{list_any, position_or_len}
use Rattle.ak_tlb.specs.declared.translation.Translation.{Translation}
use Rattle.ak_tlb.specs.Translations.{is_for, place_in, put_in}

set_by : (b : Bool) (new x : Translation) (list put : List Translation) (n : ℕ) → (if not b then 1 + n else 0) < suc (length list) → (n < length list → set list n new ≡ put) →
    set (x ∷ list) (if not b then 1 + n else 0) new ≡ (if b then new ∷ list else x ∷ put)
set_by true new x list put n h more = refl
set_by false new x list put n h more = let e : 1 + n ≡ suc n = omega arith in rw e (ap (λ l. x ∷ l) (more (omega arith)))

first_set : (new : Translation) (list : List Translation) → position_or_len (is_for new.access) list < length list → set list (position_or_len (is_for new.access) list) new ≡ put_in new list
first_set new [] h = refl
first_set new (x ∷ list) h =
    set_by (is_for new.access x) new x list (put_in new list) (position_or_len (is_for new.access) list) h (first_set new list)

any_by : (b any : Bool) (n l : ℕ) → (if not b then 1 + n else 0) < suc l → (n < l → any ≡ true) → (b || any) ≡ true
any_by true any n l h more = refl
any_by false any n l h more = more (omega arith)

first_any : (P : Translation → Bool) (list : List Translation) → position_or_len P list < length list → list_any P list ≡ true
first_any P [] h = absurd (omega arith)
first_any P (x ∷ list) h = any_by (P x) (list_any P list) (position_or_len P list) (length list) h (first_any P list)

none_by : (b any : Bool) (n l : ℕ) → suc l ≤ (if not b then 1 + n else 0) → (l ≤ n → any ≡ false) → (b || any) ≡ false
none_by true any n l h more = absurd (omega arith)
none_by false any n l h more = more (omega arith)

first_none : (P : Translation → Bool) (list : List Translation) → length list ≤ position_or_len P list → list_any P list ≡ false
first_none P [] h = refl
first_none P (x ∷ list) h = none_by (P x) (list_any P list) (position_or_len P list) (length list) h (first_none P list)

pub record IsPlace (b : Bool) (n i : ℕ) : Type 0 where
  pub yes : b ≡ true
  pub is : n ≡ i

if_some : (b : Bool) (n i : ℕ) → (if b then Some n else None) ≡ Some i → IsPlace b n i
if_some true n i h = record { yes = refl; is = cc }
if_some false n i h = cc

if_none : (b : Bool) (n : ℕ) → (if b then Some n else None) ≡ None → b ≡ false
if_none true n h = cc
if_none false n h = refl

lt_true : (n l : ℕ) → nat_lt n l ≡ true → n < l
lt_true n l h = grind (arith, nat_tests)

lt_false : (n l : ℕ) → nat_lt n l ≡ false → l ≤ n
lt_false n l h = grind (arith, nat_tests)

-- a translation that is there is replaced
pub there_set : (new : Translation) (list : List Translation) (i : ℕ) → place_in list new.access ≡ Some i → set list i new ≡ put_in new list
there_set new list i h =
    let n = position_or_len (is_for new.access) list in
    let s = if_some (nat_lt n (length list)) n i h in
    ap (λ (j : ℕ). set list j new) (sym s.is) ∙ first_set new list (lt_true n (length list) s.yes)

pub there_any : (new : Translation) (list : List Translation) (i : ℕ) → place_in list new.access ≡ Some i → list_any (is_for new.access) list ≡ true
there_any new list i h =
    let n = position_or_len (is_for new.access) list in
    first_any (is_for new.access) list (lt_true n (length list) (if_some (nat_lt n (length list)) n i h).yes)

pub new_none : (new : Translation) (list : List Translation) → place_in list new.access ≡ None → list_any (is_for new.access) list ≡ false
new_none new list h =
    let n = position_or_len (is_for new.access) list in
    first_none (is_for new.access) list (lt_false n (length list) (if_none (nat_lt n (length list)) n h))
