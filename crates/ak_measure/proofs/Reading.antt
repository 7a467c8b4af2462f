-- What stages read of each item.
use Rattle.std.proofs.Common.{◌≡◌, ◌&&◌, List, [], ◌∷◌, ◌++◌, map, Option, Some, None, is_some, option_map, refl, ap, ap₂, sym, ◌∙◌}
use Rattle.std.specs.Option.{option_and_then}
use Rattle.std.specs.List.{list_all}
use Rattle.ak_measure.specs.Stages.{each_of}

-- one more item that is read, before others
abbrev pub with_first : {B : Type 0} → Option B → Option (List B) → Option (List B)
with_first first rest = option_and_then (λ y. option_map (λ ys. y ∷ ys) rest) first

is_some-with_first : {B : Type 0} (first : Option B) (rest : Option (List B)) → is_some (with_first first rest) ≡ (is_some first && is_some rest)
is_some-with_first None rest = refl
is_some-with_first (Some y) None = refl
is_some-with_first (Some y) (Some ys) = refl

-- something is read of each where something is read of all
pub is_some-each_of : {A B : Type 0} (read : A → Option B) (xs : List A) → is_some (each_of read xs) ≡ list_all (λ x. is_some (read x)) xs
is_some-each_of read [] = refl
is_some-each_of read (x ∷ xs) = is_some-with_first (read x) (each_of read xs) ∙ ap (λ b. is_some (read x) && b) (is_some-each_of read xs)

-- of a list made from another
pub each_of-map : {A B C : Type 0} (read : B → Option C) (f : A → B) (xs : List A) → each_of read (map f xs) ≡ each_of (λ x. read (f x)) xs
each_of-map read f [] = refl
each_of-map read f (x ∷ xs) = ap (with_first (read (f x))) (each_of-map read f xs)

-- by two readings that agree
pub each_of-same : {A B : Type 0} (read other : A → Option B) → ((x : A) → read x ≡ other x) → (xs : List A) → each_of read xs ≡ each_of other xs
each_of-same read other same [] = refl
each_of-same read other same (x ∷ xs) = rw (same x, each_of-same read other same xs)

with_first-none : {B : Type 0} (first : Option B) → with_first first None ≡ None
with_first-none None = refl
with_first-none (Some y) = refl

with_first-then : {B C : Type 0} (read : B → Option C) (first : Option B) (rest : Option (List B))
    → option_and_then (each_of read) (with_first first rest) ≡ with_first (option_and_then read first) (option_and_then (each_of read) rest)
with_first-then read None rest = refl
with_first-then read (Some y) None = sym (with_first-none (read y))
with_first-then read (Some y) (Some ys) = refl

-- two readings of each, one after the other, are one of both
pub each_of-then : {A B C : Type 0} (first : A → Option B) (second : B → Option C) (xs : List A)
    → option_and_then (each_of second) (each_of first xs) ≡ each_of (λ x. option_and_then second (first x)) xs
each_of-then first second [] = refl
each_of-then first second (x ∷ xs) = with_first-then second (first x) (each_of first xs) ∙ ap (with_first (option_and_then second (first x))) (each_of-then first second xs)

-- the parts of what was read of a list: of its first item, and of the others
pub record Parts {B : Type 0} (first : Option B) (rest : Option (List B)) (all : List B) : Type 0 where
  pub head : B
  pub tail : List B
  pub of_first : first ≡ Some head
  pub of_rest : rest ≡ Some tail
  pub whole : all ≡ head ∷ tail

pub parts : {B : Type 0} (first : Option B) (rest : Option (List B)) (all : List B) → with_first first rest ≡ Some all → Parts first rest all
parts None rest all read = cc
parts (Some y) None all read = cc
parts (Some y) (Some ys) all read = record { head = y; tail = ys; of_first = refl; of_rest = refl; whole = cc }

-- what was read of some items, and then of more
pub record Front {A B : Type 0} (read : A → Option B) (more : List A) (some all : List B) : Type 0 where
  pub rest : List B
  pub of_more : each_of read more ≡ Some rest
  pub whole : all ≡ some ++ rest

joined : {B : Type 0} (head other : B) (tail later rest some all : List B) → head ≡ other → later ≡ tail ++ rest → some ≡ head ∷ tail → all ≡ other ∷ later → all ≡ some ++ rest
joined head other tail later rest some all heads tails of_some of_all = rw (of_all, of_some, tails, ← heads) refl

pub front : {A B : Type 0} (read : A → Option B) (xs more : List A) (some all : List B) → each_of read xs ≡ Some some → each_of read (xs ++ more) ≡ Some all
    → Front read more some all
front read [] more some all of_some of_all =
    let none : [] ≡ some = cc in
    record { rest = all; of_more = of_all; whole = rw (← none) refl }
front read (x ∷ xs) more some all of_some of_all =
    let s = parts (read x) (each_of read xs) some of_some in
    let a = parts (read x) (each_of read (xs ++ more)) all of_all in
    let f = front read xs more s.tail a.tail s.of_rest a.of_rest in
    let same : s.head ≡ a.head = cc (sym s.of_first ∙ a.of_first) in
    record { rest = f.rest; of_more = f.of_more; whole = joined s.head a.head s.tail a.tail f.rest some all same f.whole s.whole a.whole }

-- one more item
pub each_of-more : {A B : Type 0} (read : A → Option B) (xs : List A) (x : A) (ys : List B) (y : B) → each_of read xs ≡ Some ys → read x ≡ Some y
    → each_of read (xs ++ x ∷ []) ≡ Some (ys ++ y ∷ [])
each_of-more read [] x ys y of_xs of_x =
    let none : [] ≡ ys = cc in
    rw (of_x, ← none) refl
each_of-more read (z ∷ xs) x ys y of_xs of_x =
    let p = parts (read z) (each_of read xs) ys of_xs in
    ap₂ with_first p.of_first (each_of-more read xs x p.tail y p.of_rest of_x) ∙ ap (λ l. Some (l ++ y ∷ [])) (sym p.whole)
