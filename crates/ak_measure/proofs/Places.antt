-- What is read of the item at a place of a list.
use Rattle.std.proofs.Common.{◌≡◌, ℕ, ◌+◌, ◌<◌, Bool, true, List, [], ◌∷◌, ◌++◌, length, get_or, take, drop, Option, Some, None, IsSome, refl, ap, sym, subst, ◌∙◌}
use Rattle.std.proofs.lemmas.List.{drop_more, take_more, take-append-drop}
use Rattle.std.specs.Option.{IfSome}
use Rattle.ak_measure.specs.Stages.{each_of}
use Rattle.ak_measure.proofs.Reading.{front, parts}

module _ {A : Type 0} (xs : List A) (i : ℕ) (x : A) (within : i < length xs) (is : x ≡ get_or xs i x) where
  -- the list, split at the place
  pub split : take i xs ++ (x ∷ drop (i + 1) xs) ≡ xs
  split = ap (λ l. take i xs ++ l) (ap (λ y. y ∷ drop (i + 1) xs) is ∙ sym (drop_more xs i x within)) ∙ take-append-drop i xs

  -- one more item
  pub take-next : take (i + 1) xs ≡ take i xs ++ x ∷ []
  take-next = take_more xs i x within ∙ ap (λ y. take i xs ++ y ∷ []) (sym is)

module _ {A B : Type 0} (read : A → Option B) (before : List A) (x : A) (after xs : List A) (ys : List B)
    (split : before ++ (x ∷ after) ≡ xs) (so_far : each_of read before ≡ Some ys) where
  -- what was read of the item, among what was read of all
  pub record Place (all : List B) : Type 0 where
    pub item : B
    pub rest : List B
    pub of_item : read x ≡ Some item
    pub whole : all ≡ ys ++ (item ∷ rest)

  pub place : (all : List B) → each_of read xs ≡ Some all → Place all
  place all of_all =
      let f = front read before (x ∷ after) ys all so_far (ap (each_of read) split ∙ of_all) in
      let p = parts (read x) (each_of read after) f.rest f.of_more in
      record { item = p.head; rest = p.tail; of_item = p.of_first; whole = f.whole ∙ ap (λ l. ys ++ l) p.whole }

  -- where something is read of each, something is read of the item
  pub read_of_item : IsSome (each_of read xs) → IsSome (read x)
  read_of_item some = by_case (each_of read xs) refl some
    where
      by_case : (o : Option (List B)) → each_of read xs ≡ o → IsSome o → IsSome (read x)
      by_case None of_all some = cc
      by_case (Some all) of_all some = let p = place all of_all in rw p.of_item refl

  -- what is found where the item comes in is found in all
  pub found_at : (good : B → Type 0) (test : List B → Bool) → IfSome (read x) good → ((y : B) (rest : List B) → good y → test (ys ++ (y ∷ rest)) ≡ true)
      → IfSome (each_of read xs) (λ all. test all ≡ true)
  found_at good test of_x found = by_case (each_of read xs) refl
    where
      by_case : (o : Option (List B)) → each_of read xs ≡ o → IfSome o (λ all. test all ≡ true)
      by_case None of_all = tt
      by_case (Some all) of_all =
          let p = place all of_all in
          let is_good : good p.item = subst (λ (o : Option B). IfSome o good) p.of_item of_x in
          ap test p.whole ∙ found p.item p.rest is_good
