-- Names numbered one after the other, and by their places among the distinct ones.
use Rattle.std.proofs.Common.{◌≡◌, ℕ, ◌+◌, ◌<◌, Bool, true, false, cond, List, [], ◌∷◌, ◌++◌, map, length, Some, refl, sym, ap, ap₂, ◌∙◌, inl, inr, arith, nat_lt, ◌==◌, length-append, append_assoc, Bor, get_or, drop, ◌≤◌, lit≤}
use Rattle.std.specs.List.{list_any, position_or_len}
use Rattle.std.specs.Str.{bytes_eq}
use Rattle.std.proofs.lemmas.Slice.Eq.{bytes_eq-Decides}
use Rattle.std.proofs.lemmas.Bool.{cases_Bool, false≢true}
use Rattle.std.proofs.lemmas.Bool.Decides.{nat_tests}
use Rattle.std.proofs.lemmas.List.Folds.{list_any-append}
use Rattle.indexmap.specs.IndexSet.{insert_key, insert_all}
use Rattle.ak_core.specs.Layout.{next_number, numbers_from}
use Rattle.std.proofs.lemmas.List.{drop_more, drop_all, append-nil}
use Rattle.ak_image.specs.declared.spelled.PageText.{PageText}
use Rattle.ak_image.specs.Clusters.{distinct, numbered}

-- the number of each name, where `seen` came before: its place there, or the next number
abbrev pub numbered_after : {X : Type 0} → (X → X → Bool) → List X → List X → List ℕ
numbered_after same seen [] = []
numbered_after same seen (x ∷ xs) = position_or_len (same x) seen ∷ numbered_after same (insert_key same seen x) xs

module _ {X : Type 0} (p : X → Bool) where
  place-append : (xs ys : List X) → list_any p xs ≡ true → position_or_len p (xs ++ ys) ≡ position_or_len p xs
  place-append [] ys h = absurd (false≢true h)
  place-append (x ∷ xs) ys h =
      elim (cases_Bool (p x)) [
        | inl t ↦ rw t refl
        | inr f ↦ rw f (ap (λ (n : ℕ). 1 + n) (place-append xs ys (rw f at h)))
      ]

  place-none : (xs : List X) → list_any p xs ≡ false → position_or_len p xs ≡ length xs
  place-none [] h = refl
  place-none (x ∷ xs) h =
      elim (cases_Bool (p x)) [
        | inl t ↦ absurd (false≢true (sym (rw t at h)))
        | inr f ↦ rw f (let e : position_or_len p xs ≡ length xs = place-none xs (rw f at h) in omega arith)
      ]

  place-last : (xs : List X) (y : X) → list_any p xs ≡ false → p y ≡ true → position_or_len p (xs ++ y ∷ []) ≡ length xs
  place-last [] y h here = rw here refl
  place-last (x ∷ xs) y h here =
      elim (cases_Bool (p x)) [
        | inl t ↦ absurd (false≢true (sym (rw t at h)))
        | inr f ↦ rw f (let e : position_or_len p (xs ++ y ∷ []) ≡ length xs = place-last xs y (rw f at h) here in omega arith)
      ]

  place-within : (xs : List X) → list_any p xs ≡ true → position_or_len p xs < length xs
  place-within [] h = absurd (false≢true h)
  place-within (x ∷ xs) h =
      elim (cases_Bool (p x)) [
        | inl t ↦ rw t (omega arith)
        | inr f ↦ rw f (let e : position_or_len p xs < length xs = place-within xs (rw f at h) in omega arith)
      ]

known : (n c : ℕ) → c < n → next_number n c ≡ Some n
known n c below = let t : nat_lt c n ≡ true = grind (arith, nat_tests) in rw t refl

next : (n c : ℕ) → c ≡ n → next_number n c ≡ Some (n + 1)
next n c at =
    let f : nat_lt c n ≡ false = grind (arith, nat_tests) in
    let t : (c == n) ≡ true = grind (arith, nat_tests) in
    rw (f, t) refl

module _ {X : Type 0} (same : X → X → Bool) (self : (x : X) → same x x ≡ true) where
  insert-has : (ks : List X) (x : X) → list_any (same x) (insert_key same ks x) ≡ true
  insert-has ks x =
      elim (cases_Bool (list_any (same x) ks)) [
        | inl t ↦ rw t t
        | inr f ↦ rw (f, list_any-append, self x, f) refl
      ]

  insert-place : (ks : List X) (x : X) → position_or_len (same x) (insert_key same ks x) ≡ position_or_len (same x) ks
  insert-place ks x =
      elim (cases_Bool (list_any (same x) ks)) [
        | inl t ↦ rw t refl
        | inr f ↦ rw f (place-last (same x) ks x f (self x) ∙ sym (place-none (same x) ks f))
      ]

  insert-keeps : (p : X → Bool) (ks : List X) (x : X) → list_any p ks ≡ true
      → (list_any p (insert_key same ks x) ≡ true) × (position_or_len p (insert_key same ks x) ≡ position_or_len p ks)
  insert-keeps p ks x h =
      elim (cases_Bool (list_any (same x) ks)) [
        | inl t ↦ rw t (h, refl)
        | inr f ↦ rw f (rw (list_any-append, h) refl, place-append p ks (x ∷ []) h)
      ]

  all-keeps : (p : X → Bool) (ks xs : List X) → list_any p ks ≡ true → position_or_len p (insert_all same ks xs) ≡ position_or_len p ks
  all-keeps p ks [] h = refl
  all-keeps p ks (x ∷ xs) h =
      let (has, place) = insert-keeps p ks x h in
      all-keeps p (insert_key same ks x) xs has ∙ place

  -- a number is the place among all distinct names
  pub numbered_after-places : (seen xs : List X) → numbered_after same seen xs ≡ map (λ x. position_or_len (same x) (insert_all same seen xs)) xs
  numbered_after-places seen [] = refl
  numbered_after-places seen (x ∷ xs) =
      ap₂ (λ i is. i ∷ is)
      (sym (all-keeps (same x) (insert_key same seen x) xs (insert-has seen x) ∙ insert-place seen x))
      (numbered_after-places (insert_key same seen x) xs)

  -- such numbers are numbered by first appearance
  pub numbers_from-numbered_after : (seen xs : List X) → numbers_from (numbered_after same seen xs) (length seen) ≡ Some (length (insert_all same seen xs))
  numbers_from-numbered_after seen [] = refl
  numbers_from-numbered_after seen (x ∷ xs) =
      elim (cases_Bool (list_any (same x) seen)) [
        | inl t ↦ (
            let number = known (length seen) (position_or_len (same x) seen) (place-within (same x) seen t) in
            rw (number, t) (numbers_from-numbered_after seen xs))
        | inr f ↦ (
            let number = next (length seen) (position_or_len (same x) seen) (place-none (same x) seen f) in
            let more : length (seen ++ x ∷ []) ≡ length seen + 1 = length-append seen (x ∷ []) in
            rw (number, f) (rw more at (numbers_from-numbered_after (seen ++ x ∷ []) xs)))
      ]

-- ---- Names that stand in a set as references

module _ (eq : Bor (List ℕ) → Bor (List ℕ) → Bool) (agree : (a b : Bor (List ℕ)) → eq a b ≡ bytes_eq a.now b.now) where
  abbrev texts : List (Bor (List ℕ)) → List (List ℕ)
  texts = map (λ s. s.now)

  any-texts : (k : Bor (List ℕ)) (ks : List (Bor (List ℕ))) → list_any (eq k) ks ≡ list_any (bytes_eq k.now) (texts ks)
  any-texts k [] = refl
  any-texts k (x ∷ xs) = rw (agree k x, any-texts k xs) refl

  place-texts : (k : Bor (List ℕ)) (ks : List (Bor (List ℕ))) → position_or_len (eq k) ks ≡ position_or_len (bytes_eq k.now) (texts ks)
  place-texts k [] = refl
  place-texts k (x ∷ xs) = rw (agree k x, place-texts k xs) refl

  texts-append : (ks : List (Bor (List ℕ))) (k : Bor (List ℕ)) → texts (ks ++ k ∷ []) ≡ texts ks ++ k.now ∷ []
  texts-append [] k = refl
  texts-append (x ∷ xs) k = ap (λ l. x.now ∷ l) (texts-append xs k)

  chosen : (b : Bool) (ks : List (Bor (List ℕ))) (k : Bor (List ℕ)) → texts (cond b ks (ks ++ k ∷ [])) ≡ cond b (texts ks) (texts ks ++ k.now ∷ [])
  chosen true ks k = refl
  chosen false ks k = texts-append ks k

  pub texts-insert_key : (ks : List (Bor (List ℕ))) (k : Bor (List ℕ)) → texts (insert_key eq ks k) ≡ insert_key bytes_eq (texts ks) k.now
  texts-insert_key ks k = rw (← any-texts k ks) (chosen (list_any (eq k) ks) ks k)

  pub one_more : (ks new : List (Bor (List ℕ))) (k : Bor (List ℕ)) (done : List ℕ) (rest : List (List ℕ)) (all : List ℕ)
      → new ≡ insert_key eq ks k → done ++ numbered_after bytes_eq (texts ks) (k.now ∷ rest) ≡ all
      → (done ++ position_or_len (eq k) ks ∷ []) ++ numbered_after bytes_eq (texts new) rest ≡ all
  one_more ks new k done rest all n h =
      append_assoc done (position_or_len (eq k) ks ∷ []) (numbered_after bytes_eq (texts new) rest)
      ∙ ap₂ (λ i l. done ++ (i ∷ numbered_after bytes_eq l rest)) (place-texts k ks) (ap texts n ∙ texts-insert_key ks k) ∙ h

  abbrev pub names_of : List PageText → List (List ℕ)
  names_of = map (λ p. p.cluster.now)

  pub one_page : (pages : List PageText) (i : ℕ) (d : PageText) (ks new : List (Bor (List ℕ))) (done all : List ℕ) → i < length pages
      → new ≡ insert_key eq ks (get_or pages i d).cluster → done ++ numbered_after bytes_eq (texts ks) (names_of (drop i pages)) ≡ all
      → (done ++ position_or_len (eq (get_or pages i d).cluster) ks ∷ []) ++ numbered_after bytes_eq (texts new) (names_of (drop (i + 1) pages)) ≡ all
  one_page pages i d ks new done all within n h =
      one_more ks new (get_or pages i d).cluster done (names_of (drop (i + 1) pages)) all n (rw (drop_more pages i d within) at h)

  pub one_name : (pages : List PageText) (i : ℕ) (d : PageText) (ks new : List (Bor (List ℕ))) (all : List (List ℕ)) → i < length pages
      → new ≡ insert_key eq ks (get_or pages i d).cluster → insert_all bytes_eq (texts ks) (names_of (drop i pages)) ≡ all
      → insert_all bytes_eq (texts new) (names_of (drop (i + 1) pages)) ≡ all
  one_name pages i d ks new all within n h =
      ap (λ (l : List (List ℕ)). insert_all bytes_eq l (names_of (drop (i + 1) pages))) (ap texts n ∙ texts-insert_key ks (get_or pages i d).cluster)
      ∙ (rw (drop_more pages i d within) at h)

pub at_most_one : (b : Bool) → cond b 1 0 ≤ 1
at_most_one true = lit≤ tt
at_most_one false = lit≤ tt

-- ---- Names are equal where their bytes are

pub bytes_eq-self : (xs : List ℕ) → bytes_eq xs xs ≡ true
bytes_eq-self xs = (bytes_eq-Decides xs xs).1 refl

pub numbered-after : (names : List (List ℕ)) → numbered_after bytes_eq [] names ≡ numbered names
numbered-after names = numbered_after-places bytes_eq bytes_eq-self [] names

pub numbers_from-numbered : (names : List (List ℕ)) → numbers_from (numbered names) 0 ≡ Some (length (distinct names))
numbers_from-numbered names = rw (← numbered-after names) (numbers_from-numbered_after bytes_eq bytes_eq-self [] names)

pub all_numbered : (names : List (List ℕ)) (ks : List (List ℕ)) (pages : List PageText) (i : ℕ) (done : List ℕ) → length pages ≤ i
    → done ++ numbered_after bytes_eq ks (map (λ p. p.cluster.now) (drop i pages)) ≡ numbered_after bytes_eq [] names → done ≡ numbered names
all_numbered names ks pages i done past h =
    sym (append-nil done) ∙ ((rw (drop_all i pages past) at h) ∙ numbered-after names)
