-- Parts of pages.
use Rattle.std.proofs.Common.{◌≡◌, ℕ, zero, suc, ◌+◌, ◌-◌, ◌≤◌, List, [], ◌∷◌, ◌++◌, length, take, drop, refl, ap, sym, ◌∙◌, arith}
use Rattle.std.proofs.Math.Seq.{drop-append-add}
use Rattle.std.proofs.lemmas.List.{take-append-le, drop-take, drop-drop, length-take-le}
use borrow.Rule.Slice.PartMut.{put_mid}
use Rattle.ak_core.specs.Mem.{put_at}

take_take : (n m : ℕ) (xs : List ℕ) → n ≤ m → take n (take m xs) ≡ take n xs
take_take zero m xs h = refl
take_take (suc n) zero xs h = absurd (omega arith)
take_take (suc n) (suc m) [] h = refl
take_take (suc n) (suc m) (x ∷ xs) h = ap (λ l. x ∷ l) (take_take n m xs (omega arith))

-- a part of the front
part_of_front : (n p k : ℕ) (xs : List ℕ) → p + n ≤ k → take n (drop p (take k xs)) ≡ take n (drop p xs)
part_of_front n p k xs h =
    let split : k ≡ p + (k - p) = omega arith in
    ap (λ (j : ℕ). take n (drop p (take j xs))) split
    ∙ ap (λ l. take n l) (drop-take p (k - p) xs)
    ∙ take_take n (k - p) (drop p xs) (omega arith)

-- is the same where the front is
pub front_part : (n p k : ℕ) (xs ys : List ℕ) → p + n ≤ k → take k xs ≡ take k ys → take n (drop p xs) ≡ take n (drop p ys)
front_part n p k xs ys h e = sym (part_of_front n p k xs h) ∙ ap (λ l. take n (drop p l)) e ∙ part_of_front n p k ys h

-- and so is what stands later where the end is
pub end_part : (k m : ℕ) (xs ys : List ℕ) → drop k xs ≡ drop k ys → drop (k + m) xs ≡ drop (k + m) ys
end_part k m xs ys e = sym (drop-drop m k xs) ∙ ap (λ l. drop m l) e ∙ drop-drop m k ys

-- what was put between
pub between : (front mid rest : List ℕ) → take (length mid) (drop (length front) (front ++ (mid ++ rest))) ≡ mid
between front mid rest = drop-front ∙ take-append-le (length mid) mid rest (omega arith) ∙ all mid
  where
    all : (xs : List ℕ) → take (length xs) xs ≡ xs
    all [] = refl
    all (x ∷ xs) = ap (λ l. x ∷ l) (all xs)

    drop-front : take (length mid) (drop (length front) (front ++ (mid ++ rest))) ≡ take (length mid) (mid ++ rest)
    drop-front = ap (λ (j : ℕ). take (length mid) (drop j (front ++ (mid ++ rest)))) (omega arith) ∙ ap (λ l. take (length mid) l) (drop-append-add front (mid ++ rest) 0)

-- by numbers
pub between_at : (a n : ℕ) (front mid rest : List ℕ) → length front ≡ a → length mid ≡ n → take n (drop a (front ++ (mid ++ rest))) ≡ mid
between_at a n front mid rest f m =
    ap (λ (j : ℕ). take j (drop a (front ++ (mid ++ rest)))) (sym m)
    ∙ ap (λ (j : ℕ). take (length mid) (drop j (front ++ (mid ++ rest)))) (sym f)
    ∙ between front mid rest

-- a part of a page that was written
pub put_read : (xs new : List ℕ) (a n : ℕ) → a ≤ length xs → length new ≡ n → take n (drop a (put_mid a n xs new)) ≡ new
put_read xs new a n h m = between_at a n (take a xs) new (drop n (drop a xs)) (length-take-le a xs h) m

-- and bytes that were put into one
pub put_at_read : (xs new : List ℕ) (a n : ℕ) → a ≤ length xs → length new ≡ n → take n (drop a (put_at xs a new)) ≡ new
put_at_read xs new a n h m = between_at a n (take a xs) new (drop (a + length new) xs) (length-take-le a xs h) m
