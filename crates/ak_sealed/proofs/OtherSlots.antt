-- Bytes of which 8 at a slot are written.
use Rattle.std.proofs.Common.{◌≡◌, ◌≢◌, ℕ, ◌+◌, ◌*◌, ◌≤◌, false, ◌==◌, List, length, take, drop, ap, sym, ◌∙◌, arith, inl, inr}
use Rattle.std.proofs.lemmas.Bool.{cases_lt, eqb-false}
use Rattle.std.proofs.lemmas.List.{drop-take}
use Rattle.std.proofs.lemmas.Slice.{take-put_mid_below, drop-put_mid}
use borrow.Rule.Slice.PartMut.{put_mid}

-- another slot has the bytes that it had
pub other_slot : (a k i j : ℕ) (xs ys : List ℕ) → a ≡ i * 8 → k ≡ 8 → a ≤ length xs → length ys ≡ k → (j == i) ≡ false
    → take 8 (drop (8 * j) (put_mid a k xs ys)) ≡ take 8 (drop (8 * j) xs)
other_slot a k i j xs ys start eight within size other =
    let differ : j ≢ i = eqb-false j i other in
    elim (cases_lt j i) [
      | inl below ↦
          sym (drop-take (8 * j) 8 (put_mid a k xs ys))
          ∙ ap (drop (8 * j)) (take-put_mid_below a k xs ys (8 * j + 8) (omega arith) within)
          ∙ drop-take (8 * j) 8 xs
      | inr above ↦ ap (take 8) (drop-put_mid a k xs ys (8 * j) (omega arith) within size)
    ]
