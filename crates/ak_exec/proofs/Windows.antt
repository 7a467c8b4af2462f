-- The bytes at hand: the first ten of the bytes of one page or two, and what they begin with.
use Rattle.std.proofs.Common.{◌≡◌, ℕ, zero, suc, ◌+◌, ◌-◌, ◌<◌, ◌≤◌, List, [], ◌∷◌, ◌++◌, append_assoc, length, take, get_or, min, refl, ap, sym, ◌∙◌, arith}
use Rattle.std.proofs.lemmas.List.{take_min, take_more}
use Rattle.std.proofs.Math.Seq.{take-append-add}
use Rattle.ak_core.specs.declared.instruction.Decoded.{Decoded}
use Rattle.ak_model.specs.Flat.Encodings.{decode}
use Rattle.ak_model.proofs.Flat.Decoding.{decode-take}

-- one more element was taken
pub taken_more : (items new before rest : List ℕ) (i x : ℕ) → new ≡ items ++ x ∷ [] → items ≡ before ++ take i rest → x ≡ get_or rest i 0 → i < length rest → new ≡ before ++ take (i + 1) rest
taken_more items new before rest i x n e v below =
    n ∙ ap (λ xs. xs ++ x ∷ []) e
    ∙ append_assoc before (take i rest) (x ∷ [])
    ∙ ap (λ y. before ++ (take i rest ++ y ∷ [])) v
    ∙ ap (λ xs. before ++ xs) (sym (take_more rest i 0 below))

-- a list filled up to ten with what follows it
pub filled : (items before more : List ℕ) (n i : ℕ) → items ≡ before ++ take i more → length more ≡ n → i ≡ min (10 - length before) n → length before ≤ 10 → items ≡ take 10 (before ++ more)
filled items before more n i is size room few =
    let m : i ≡ min (10 - length before) (length more) = omega (arith, size, room) in
    let ten : length before + (10 - length before) ≡ 10 = omega arith in
    is ∙ ap (λ k. before ++ take k more) m
    ∙ ap (λ xs. before ++ xs) (take_min (10 - length before) more)
    ∙ sym (take-append-add before more (10 - length before))
    ∙ ap (λ k. take k (before ++ more)) ten

-- what follows the first n elements adds nothing that they lack
pub take-take-append : (n : ℕ) (xs ys : List ℕ) → take n (take n xs ++ ys) ≡ take n (xs ++ ys)
take-take-append zero xs ys = refl
take-take-append (suc n) [] ys = refl
take-take-append (suc n) (x ∷ xs) ys = ap (λ zs. x ∷ zs) (take-take-append n xs ys)

-- a window of ten bytes is enough
pub by_window : (window bytes : List ℕ) (d : Decoded) → d ≡ decode window → window ≡ take 10 bytes → d ≡ decode bytes
by_window window bytes d e w = e ∙ ap decode w ∙ decode-take bytes

-- ten bytes with more after them are enough
pub with_more : (window bytes more : List ℕ) → window ≡ take 10 bytes → decode (window ++ more) ≡ decode (bytes ++ more)
with_more window bytes more w =
    ap (λ xs. decode (xs ++ more)) w
    ∙ sym (decode-take (take 10 bytes ++ more))
    ∙ ap decode (take-take-append 10 bytes more)
    ∙ decode-take (bytes ++ more)
