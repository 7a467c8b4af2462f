-- What is read of each page, one page after the other.
use Rattle.std.proofs.Common.{◌≡◌, ℕ, ◌+◌, cond, List, [], ◌∷◌, ◌++◌, Option, Some, None, is_none, Result, Ok, Err, refl, sym, ap, ◌∙◌, length, length-append, suc, ◌*◌, arith}
use Rattle.std.specs.List.{filter_map, cons_option, concat, position_from}
use Rattle.std.proofs.lemmas.Iterator.Adapters.{position_from-zero}
use Rattle.ak_core.specs.declared.page.Page.{Page}
use Rattle.ak_measure.specs.Stages.{◌>>=◌}
use Rattle.ak_image.specs.Stages.{refuse_at, each, ◌>>◌}
use Rattle.ak_image.specs.declared.fault.ImageFault.{ImageFault}

module _ {A B : Type 0} (fault : Page → ImageFault) (read : A → Option B) where
  abbrev pub with_first : B → Result (List B) ImageFault → Result (List B) ImageFault
  with_first y (Ok ys) = Ok (y ∷ ys)
  with_first y (Err e) = Err e

  abbrev pub on_read : ℕ → Option B → Result (List B) ImageFault → Result (List B) ImageFault
  on_read i None rest = Err (fault (record { 0 = i }))
  on_read i (Some y) rest = with_first y rest

  -- what is read of each, where the first one's place is i
  abbrev pub each_from : ℕ → List A → Result (List B) ImageFault
  each_from i [] = Ok []
  each_from i (x ∷ xs) = on_read i (read x) (each_from (i + 1) xs)

  -- what is read of all, after what was read of the first ones
  abbrev pub after : List B → Result (List B) ImageFault → Result (List B) ImageFault
  after done (Ok ys) = Ok (done ++ ys)
  after done (Err e) = Err e

  put_first : (y : B) (ys : List B) (r : Result (Unit {0}) ImageFault) → (r >> Ok (y ∷ ys)) ≡ with_first y (r >> Ok ys)
  put_first y ys (Ok u) = refl
  put_first y ys (Err e) = refl

  one_place : (i : ℕ) (xs : List A) (o : Option B) → (refuse_at fault (position_from (λ x. is_none (read x)) (i + 1) xs) >> Ok (filter_map read xs)) ≡ each_from (i + 1) xs
      → (refuse_at fault (cond (is_none o) (Some i) (position_from (λ x. is_none (read x)) (i + 1) xs)) >> Ok (cons_option o (filter_map read xs))) ≡ on_read i o (each_from (i + 1) xs)
  one_place i xs None h = refl
  one_place i xs (Some y) h = put_first y (filter_map read xs) (refuse_at fault (position_from (λ x. is_none (read x)) (i + 1) xs)) ∙ ap (with_first y) h

  from_place : (i : ℕ) (xs : List A) → (refuse_at fault (position_from (λ x. is_none (read x)) i xs) >> Ok (filter_map read xs)) ≡ each_from i xs
  from_place i [] = refl
  from_place i (x ∷ xs) = one_place i xs (read x) (from_place (i + 1) xs)

  pub each-from : (xs : List A) → each_from 0 xs ≡ each fault read xs
  each-from xs =
      sym (ap (λ (o : Option ℕ). refuse_at fault o >> Ok (filter_map read xs)) (position_from-zero (λ x. is_none (read x)) xs) ∙ from_place 0 xs)

  after_none : (r : Result (List B) ImageFault) → after [] r ≡ r
  after_none (Ok ys) = refl
  after_none (Err e) = refl

  pub each-none : (xs : List A) → after [] (each_from 0 xs) ≡ each fault read xs
  each-none xs = after_none (each_from 0 xs) ∙ each-from xs

-- what is read of all, joined, after what was read of the first ones
abbrev pub joined_after : List ℕ → Result (List (List ℕ)) ImageFault → Result (List ℕ) ImageFault
joined_after done (Ok ys) = Ok (done ++ concat ys)
joined_after done (Err e) = Err e

joined_none : (r : Result (List (List ℕ)) ImageFault) → joined_after [] r ≡ (r >>= λ ys. Ok (concat ys))
joined_none (Ok ys) = refl
joined_none (Err e) = refl

module _ {A : Type 0} (fault : Page → ImageFault) (read : A → Option (List ℕ)) where
  pub joined-none : (xs : List A) → joined_after [] (each_from fault read 0 xs) ≡ (each fault read xs >>= λ ys. Ok (concat ys))
  joined-none xs = joined_none (each_from fault read 0 xs) ∙ ap (λ (r : Result (List (List ℕ)) ImageFault). r >>= λ ys. Ok (concat ys)) (each-from fault read xs)

module _ {A B : Type 0} (fault : Page → ImageFault) (read : A → Option B) where
  one_length : (i : ℕ) (o : Option B) (rest : Result (List B) ImageFault) (ys : List B) (n : ℕ) → ((zs : List B) → rest ≡ Ok zs → length zs ≡ n)
      → on_read fault read i o rest ≡ Ok ys → length ys ≡ suc n
  one_length i None rest ys n so h = (cc)
  one_length i (Some y) (Err e) ys n so h = (cc)
  one_length i (Some y) (Ok zs) ys n so h = let same : ys ≡ y ∷ zs = cc in ap length same ∙ ap suc (so zs refl)

  from_length : (i : ℕ) (xs : List A) (ys : List B) → each_from fault read i xs ≡ Ok ys → length ys ≡ length xs
  from_length i [] ys h = let same : ys ≡ [] = cc in ap length same
  from_length i (x ∷ xs) ys h = one_length i (read x) (each_from fault read (i + 1) xs) ys (length xs) (λ zs e. from_length (i + 1) xs zs e) h

  pub length-each : (xs : List A) (ys : List B) → each fault read xs ≡ Ok ys → length ys ≡ length xs
  length-each xs ys h = from_length 0 xs ys (each-from fault read xs ∙ h)

module _ {A : Type 0} (fault : Page → ImageFault) (read : A → Option (List ℕ)) (whole : (x : A) (y : List ℕ) → read x ≡ Some y → length y ≡ 4096) where
  one_concat : (i : ℕ) (o : Option (List ℕ)) (rest : Result (List (List ℕ)) ImageFault) (ys : List (List ℕ)) (n : ℕ)
      → ((y : List ℕ) → o ≡ Some y → length y ≡ 4096) → ((zs : List (List ℕ)) → rest ≡ Ok zs → length (concat zs) ≡ 4096 * n)
      → on_read fault read i o rest ≡ Ok ys → length (concat ys) ≡ 4096 * suc n
  one_concat i None rest ys n page so h = (cc)
  one_concat i (Some y) (Err e) ys n page so h = (cc)
  one_concat i (Some y) (Ok zs) ys n page so h =
      let same : ys ≡ y ∷ zs = cc in
      rw same (omega (arith, length-append y (concat zs), page y refl, so zs refl))

  from_concat : (i : ℕ) (xs : List A) (ys : List (List ℕ)) → each_from fault read i xs ≡ Ok ys → length (concat ys) ≡ 4096 * length xs
  from_concat i [] ys h = let same : ys ≡ [] = cc in ap (λ (l : List (List ℕ)). length (concat l)) same
  from_concat i (x ∷ xs) ys h =
      one_concat i (read x) (each_from fault read (i + 1) xs) ys (length xs) (whole x) (λ zs e. from_concat (i + 1) xs zs e) h

  pub length-concat : (xs : List A) (ys : List (List ℕ)) → each fault read xs ≡ Ok ys → length (concat ys) ≡ 4096 * length xs
  length-concat xs ys h = from_concat 0 xs ys (each-from fault read xs ∙ h)
