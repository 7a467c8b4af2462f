-- When digits make a number that is too large.
use Rattle.std.proofs.Common.{◌≡◌, ℕ, ◌+◌, ◌*◌, ◌-◌, ◌<◌, ◌≤◌, List, [], ◌∷◌, ap, ◌∙◌, sym, arith, drop, take, length, get_or}
use Rattle.std.specs.List.{fold}
use Rattle.std.proofs.lemmas.List.{take-append-drop}
use Rattle.std.proofs.lemmas.List.Sums.{fold-append, fold_more}
use Rattle.ak_script.specs.Words.{decimal}

-- the number after one more digit
abbrev more : ℕ → ℕ → ℕ
more n digit = 10 * n + (digit - 48)

-- more digits make no smaller number
grows : (n : ℕ) (digits : List ℕ) → n ≤ fold more n digits
grows n [] = omega arith
grows n (d ∷ digits) = let h : more n d ≤ fold more (more n d) digits = grows (more n d) digits in omega arith

-- a number that is too large with its next digit stays so
pub too_large : (limit n : ℕ) (digits : List ℕ) (i : ℕ) → n ≡ decimal (take i digits) → i < length digits → limit ≤ 10 * n + (get_or digits i 0 - 48) → limit ≤ decimal digits
too_large limit n digits i is lt le =
    let front : decimal (take (i + 1) digits) ≡ more n (get_or digits i 0) = fold_more more 0 digits i 0 lt ∙ ap (λ m. more m (get_or digits i 0)) (sym is) in
    let whole : decimal digits ≡ fold more (decimal (take (i + 1) digits)) (drop (i + 1) digits) = ap decimal (sym (take-append-drop (i + 1) digits)) ∙ fold-append more 0 (take (i + 1) digits) (drop (i + 1) digits) in
    let h = grows (decimal (take (i + 1) digits)) (drop (i + 1) digits) in
    omega arith
