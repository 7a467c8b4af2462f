-- Bytes that are taken piece by piece.
use Rattle.std.proofs.Common.{◌≡◌, ℕ, ◌+◌, ◌-◌, ◌≤◌, List, [], ◌++◌, take, drop, refl, ap, ◌∙◌, sym, arith, append_assoc, Option, Some, None}
use Rattle.std.proofs.lemmas.List.{take-append-drop, append-nil}
use Rattle.std.proofs.Math.Seq.{take-add}
use Rattle.ak_outside.specs.Taken.{with_more, TakesFront}

-- a piece after a piece is both in one
pub with_more-append : (o : Option (List ℕ)) (a b : List ℕ) → with_more (with_more o a) b ≡ with_more o (a ++ b)
with_more-append None a b = refl
with_more-append (Some t) a b = ap Some (append_assoc t a b)

-- nothing more is no change
pub with_none : (o : Option (List ℕ)) → o ≡ with_more o []
with_none None = refl
with_none (Some t) = ap Some (sym (append-nil t))

-- the text up to a place, and from there to the next
pub piece : (text : List ℕ) (start end : ℕ) → start ≤ end → take start text ++ take (end - start) (drop start text) ≡ take end text
piece text start end le =
    let e : start + (end - start) ≡ end = omega arith in
    sym (take-add start (end - start) text) ∙ ap (λ n. take n text) e

-- the text up to a place, and a front of what follows up to the next
pub front_then : (first mid last : Option (List ℕ)) (text : List ℕ) (start end : ℕ) → start ≤ end → mid ≡ with_more first (take start text) →
    TakesFront mid last (take (end - start) (drop start text)) → TakesFront first last text
front_then first mid last text start end le is t =
    record {
      front = take start text ++ t.front;
      rest = t.rest ++ drop end text;
      whole = append_assoc (take start text) t.front (t.rest ++ drop end text)
          ∙ ap (λ xs. take start text ++ xs) (sym (append_assoc t.front t.rest (drop end text)) ∙ ap (λ xs. xs ++ drop end text) t.whole)
          ∙ sym (append_assoc (take start text) (take (end - start) (drop start text)) (drop end text))
          ∙ ap (λ xs. xs ++ drop end text) (piece text start end le)
          ∙ take-append-drop end text;
      taken = t.taken ∙ ap (λ o. with_more o t.front) is ∙ with_more-append first (take start text) t.front;
    }

-- a piece whole, and the front of the next
pub then_front : (first mid last : Option (List ℕ)) (a b : List ℕ) → mid ≡ with_more first a → TakesFront mid last b → TakesFront first last (a ++ b)
then_front first mid last a b is t =
    record {
      front = a ++ t.front;
      rest = t.rest;
      whole = append_assoc a t.front t.rest ∙ ap (λ xs. a ++ xs) t.whole;
      taken = t.taken ∙ ap (λ o. with_more o t.front) is ∙ with_more-append first a t.front;
    }

-- a front of more
pub front_more : (first last : Option (List ℕ)) (a b : List ℕ) → TakesFront first last a → TakesFront first last (a ++ b)
front_more first last a b t =
    record { front = t.front; rest = t.rest ++ b; whole = sym (append_assoc t.front t.rest b) ∙ ap (λ xs. xs ++ b) t.whole; taken = t.taken }

-- a piece whole, and the next whole
pub then_whole : (first mid last : Option (List ℕ)) (a b : List ℕ) → mid ≡ with_more first a → last ≡ with_more mid b → last ≡ with_more first (a ++ b)
then_whole first mid last a b is e = e ∙ ap (λ o. with_more o b) is ∙ with_more-append first a b
