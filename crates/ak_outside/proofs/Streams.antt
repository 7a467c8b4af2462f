-- What streams gain and sources lose, piece by piece.
use Rattle.std.proofs.Common.{◌≡◌, ℕ, ◌+◌, ◌-◌, ◌≤◌, List, ◌++◌, length, take, drop, arith, length-append, length-drop, sym, ap, subst, ◌∙◌, Option}
use Rattle.std.proofs.lemmas.List.{take_rest, length-take-le}
use Rattle.std.proofs.Math.Seq.{take-add}
use Rattle.std.proofs.KnownBytes.{Appends-trans}
use Rattle.std.specs.Io.KnownBytes.{Appends}

-- what was written so far, and some of the rest
pub Appends-more : (first mid last : Option (List ℕ)) (piece : List ℕ) (written count : ℕ) → Appends first mid (take written piece) →
    Appends mid last (take count (take (length piece - written) (drop written piece))) → Appends first last (take (written + count) piece)
Appends-more first mid last piece written count before more =
    let joined : take written piece ++ take count (take (length piece - written) (drop written piece)) ≡ take (written + count) piece =
    ap (λ rest. take written piece ++ take count rest) (take_rest piece written) ∙ sym (take-add written count piece) in
    subst (Appends first last) joined (Appends-trans first mid last _ _ before more)

-- no more is written than is left
pub written_more : (piece : List ℕ) (written count : ℕ) → written ≤ length piece → count ≤ length (take (length piece - written) (drop written piece)) →
    written + count ≤ length piece
written_more piece written count within most =
    let left : length (take (length piece - written) (drop written piece)) ≡ length piece - written =
    ap length (take_rest piece written) ∙ length-drop written piece in
    omega arith

-- the bytes before, and as many as stay within the limit
pub within_limit : (bytes chunk : List ℕ) (count limit : ℕ) → count ≤ length chunk → length bytes + count ≤ limit → length (bytes ++ take count chunk) ≤ limit
within_limit bytes chunk count limit most within = omega (arith, length-append bytes (take count chunk), length-take-le count chunk most)

-- the bytes before, and as many as go one past the limit
pub one_past : (bytes chunk : List ℕ) (count limit : ℕ) → count ≤ length chunk → length bytes + count ≡ limit + 1 → length (bytes ++ take count chunk) ≡ limit + 1
one_past bytes chunk count limit most past = omega (arith, length-append bytes (take count chunk), length-take-le count chunk most)
