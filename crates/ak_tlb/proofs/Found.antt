-- What is found in a list of translations after one more was cached.
use Rattle.std.proofs.Common.{◌≡◌, suc, Bool, true, false, List, [], ◌∷◌, ◌++◌, length, drop, refl, sym, ap, ◌∙◌}
use Rattle.std.specs.Prelude.{Option, Some, None, find, ◌||◌, if◌then◌else◌}
use Rattle.std.specs.List.{list_any}
use Rattle.std.proofs.lemmas.Bool.{or_parts}
use Rattle.ak_core.specs.Mem.{Access}
use Rattle.ak_model.specs.Misses.KeptTranslations.{same_access}
use Rattle.ak_model.proofs.Misses.EqualAccesses.{access_is, access_self}
use Rattle.ak_tlb.specs.declared.translation.Translation.{Translation}
use Rattle.ak_tlb.specs.Translations.{is_for, found, put_in}
use Rattle.ak_tlb.specs.Fills.{Once}

-- ---- Translations of one access

-- two of one access are of the same ones
pub same_for : (t : Access) (x new : Translation) → is_for new.access x ≡ true → is_for t x ≡ is_for t new
same_for t x new h = ap (same_access t) (sym (access_is new.access x.access h))

-- the test, the other way round
same_back : (t u : Access) → same_access t u ≡ true → same_access u t ≡ true
same_back t u h = ap (λ (v : Access). same_access u v) (access_is t u h) ∙ access_self u

apart : (t : Access) (x new : Translation) → is_for new.access x ≡ false → is_for t x ≡ true → is_for t new ≡ true → ⊥
apart t x new not h g =
    let both : is_for new.access x ≡ true = ap (λ (v : Access). same_access v x.access) (sym (access_is t new.access g)) ∙ h in cc

-- where one of two is asked for and not the other, their order does not matter
swap_ifs : (a b : Bool) (x new : Translation) (rest : Option Translation) → (a ≡ true → b ≡ true → ⊥) →
    (if a then Some x else (if b then Some new else rest)) ≡ (if b then Some new else (if a then Some x else rest))
swap_ifs true true x new rest h = absurd (h refl refl)
swap_ifs true false x new rest h = refl
swap_ifs false b x new rest h = refl

same_ifs : (a b : Bool) (x new : Translation) (rest : Option Translation) → a ≡ b → (if b then Some new else rest) ≡ (if b then Some new else (if a then Some x else rest))
same_ifs true true x new rest h = refl
same_ifs true false x new rest h = cc
same_ifs false true x new rest h = cc
same_ifs false false x new rest h = refl

there_by : (a b : Bool) → (a || b) ≡ true → a ≡ false → b ≡ true
there_by true b h g = cc
there_by false b h g = h

-- ---- Replaced

put_by : (new x : Translation) (rest : List Translation) (t : Access) (b : Bool) → is_for new.access x ≡ b →
    ((b ≡ false) → found (put_in new rest) t ≡ (if is_for t new then Some new else found rest t)) →
    found (if b then new ∷ rest else x ∷ put_in new rest) t ≡ (if is_for t new then Some new else (if is_for t x then Some x else found rest t))
put_by new x rest t true is more = same_ifs (is_for t x) (is_for t new) x new (found rest t) (same_for t x new is)
put_by new x rest t false is more =
    ap (λ (o : Option Translation). if is_for t x then Some x else o) (more refl)
    ∙ swap_ifs (is_for t x) (is_for t new) x new (found rest t) (apart t x new is)

-- the new one is found, and all others as before
pub find_put : (new : Translation) (list : List Translation) (t : Access) → list_any (is_for new.access) list ≡ true →
    found (put_in new list) t ≡ (if is_for t new then Some new else found list t)
find_put new [] t h = cc
find_put new (x ∷ rest) t h =
    put_by new x rest t (is_for new.access x) refl (λ no. find_put new rest t (there_by (is_for new.access x) (list_any (is_for new.access) rest) h no))

any_by : (new x : Translation) (rest : List Translation) (t : Access) (b : Bool) → is_for new.access x ≡ b →
    list_any (is_for t) (put_in new rest) ≡ list_any (is_for t) rest →
    list_any (is_for t) (if b then new ∷ rest else x ∷ put_in new rest) ≡ (is_for t x || list_any (is_for t) rest)
any_by new x rest t true is more = ap (λ (a : Bool). a || list_any (is_for t) rest) (sym (same_for t x new is))
any_by new x rest t false is more = ap (λ (a : Bool). is_for t x || a) more

any_put : (new : Translation) (list : List Translation) (t : Access) → list_any (is_for t) (put_in new list) ≡ list_any (is_for t) list
any_put new [] t = refl
any_put new (x ∷ rest) t = any_by new x rest t (is_for new.access x) refl (any_put new rest t)

once_by : (new x : Translation) (rest : List Translation) (b : Bool) → is_for new.access x ≡ b → Once (x ∷ rest) → Once (put_in new rest) → Once (if b then new ∷ rest else x ∷ put_in new rest)
once_by new x rest true is h more = (ap (λ (t : Access). list_any (is_for t) rest) (access_is new.access x.access is) ∙ h.0, h.1)
once_by new x rest false is h more = (any_put new rest x.access ∙ h.0, more)

pub once_put : (new : Translation) (list : List Translation) → Once list → Once (put_in new list)
once_put new [] h = tt
once_put new (x ∷ rest) h = once_by new x rest (is_for new.access x) refl h (once_put new rest h.1)

length_by : (b : Bool) (new x : Translation) (rest put : List Translation) → length put ≡ length rest → length (if b then new ∷ rest else x ∷ put) ≡ suc (length rest)
length_by true new x rest put h = refl
length_by false new x rest put h = ap suc h

pub length-put : (new : Translation) (list : List Translation) → length (put_in new list) ≡ length list
length-put new [] = refl
length-put new (x ∷ rest) = length_by (is_for new.access x) new x rest (put_in new rest) (length-put new rest)

-- ---- Added

-- the new one is found, and all others as before
pub find_more : (new : Translation) (list : List Translation) (t : Access) → list_any (is_for new.access) list ≡ false →
    found (list ++ new ∷ []) t ≡ (if is_for t new then Some new else found list t)
find_more new [] t h = refl
find_more new (x ∷ rest) t h =
    let parts = or_parts (is_for new.access x) (list_any (is_for new.access) rest) h in
    ap (λ (o : Option Translation). if is_for t x then Some x else o) (find_more new rest t parts.1)
    ∙ swap_ifs (is_for t x) (is_for t new) x new (found rest t) (apart t x new parts.0)

any_more : (new : Translation) (list : List Translation) (t : Access) → list_any (is_for t) list ≡ false → is_for t new ≡ false → list_any (is_for t) (list ++ new ∷ []) ≡ false
any_more new [] t h g = rw g refl
any_more new (x ∷ rest) t h g =
    let parts = or_parts (is_for t x) (list_any (is_for t) rest) h in
    let head : is_for t x ≡ false = parts.0 in
    rw head (any_more new rest t parts.1 g)

not_back : (x new : Translation) (b : Bool) → is_for new.access x ≡ false → is_for x.access new ≡ b → b ≡ false
not_back x new false h g = refl
not_back x new true h g = let back = same_back x.access new.access g in cc

pub once_more : (new : Translation) (list : List Translation) → list_any (is_for new.access) list ≡ false → Once list → Once (list ++ new ∷ [])
once_more new [] h o = (refl, tt)
once_more new (x ∷ rest) h o =
    let parts = or_parts (is_for new.access x) (list_any (is_for new.access) rest) h in
    (any_more new rest x.access o.0 (not_back x new (is_for x.access new) parts.0 refl), once_more new rest parts.1 o.1)

-- ---- Dropped

pub once_drop : (list : List Translation) → Once list → Once (drop 1 list)
once_drop [] h = tt
once_drop (x ∷ rest) h = h.1

pub none_drop : (P : Translation → Bool) (list : List Translation) → list_any P list ≡ false → list_any P (drop 1 list) ≡ false
none_drop P [] h = h
none_drop P (x ∷ rest) h = (or_parts (P x) (list_any P rest) h).1

pub find_none : (P : Translation → Bool) (list : List Translation) → list_any P list ≡ false → find P list ≡ None
find_none P [] h = refl
find_none P (x ∷ rest) h =
    let parts = or_parts (P x) (list_any P rest) h in
    let head : P x ≡ false = parts.0 in
    rw head (find_none P rest parts.1)

drop_by : (x : Translation) (rest : List Translation) (t : Access) (v : Translation) (b : Bool) → is_for t x ≡ b → list_any (is_for x.access) rest ≡ false →
    found rest t ≡ Some v → (if b then Some x else found rest t) ≡ Some v
drop_by x rest t v true is none h =
    let gone : found rest t ≡ None = ap (found rest) (access_is t x.access is) ∙ find_none (is_for x.access) rest none in cc
drop_by x rest t v false is none h = h

-- what is found without the first is found
pub find_drop : (list : List Translation) (t : Access) (v : Translation) → Once list → found (drop 1 list) t ≡ Some v → found list t ≡ Some v
find_drop [] t v o h = h
find_drop (x ∷ rest) t v o h = drop_by x rest t v (is_for t x) refl o.0 h

any_from : (b : Bool) (x : Translation) (o : Option Translation) (any : Bool) → (if b then Some x else o) ≡ None → (o ≡ None → any ≡ false) → (b || any) ≡ false
any_from true x o any h more = cc
any_from false x o any h more = more h

-- no test holds where none is found
pub some_any : (P : Translation → Bool) (list : List Translation) → find P list ≡ None → list_any P list ≡ false
some_any P [] h = refl
some_any P (x ∷ rest) h = any_from (P x) x (find P rest) (list_any P rest) h (some_any P rest)
