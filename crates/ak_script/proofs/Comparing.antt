-- What `eq` answers of two iterators whose items are known.
use Rattle.std.proofs.Common.{◌≡◌, ℕ, List, [], ◌∷◌, refl, ap, ap₂, ◌∙◌, sym, Bool, true, false, ◌&&◌, nat_eq, Option, Some, None, MatchOption, IfSome}
use Rattle.std.specs.Iterator.{ComparesItemsByEq, YieldsThen}
use Rattle.std.specs.List.{AllZip}
use Rattle.std.specs.Str.{bytes_eq}
use Rattle.std.proofs.lemmas.Iterator.{YieldsList}
use Rattle.std.proofs.lemmas.Iterator.Consumers.{YieldsList-at}

-- where no item comes, none was left
ends : {S A : Type 0} {steps : S → Option A → S → Type 0} {v : A → ℕ} {s : S} (zs : List ℕ) → YieldsList steps v s zs → (u : S) → steps s None u → zs ≡ []
ends [] left u none = refl
ends (z ∷ zs) left u none = absurd (left.runs.0 u none)

-- an item that comes is the first of those that were left
record Goes {S A : Type 0} (steps : S → Option A → S → Type 0) (v : A → ℕ) (zs : List ℕ) (x : A) (u : S) : Type 0 where
  rest : List ℕ
  are : zs ≡ v x ∷ rest
  left : YieldsList steps v u rest

goes : {S A : Type 0} {steps : S → Option A → S → Type 0} {v : A → ℕ} {s : S} (zs : List ℕ) → YieldsList steps v s zs → (x : A) (u : S) → steps s (Some x) u → Goes steps v zs x u
goes [] left x u some = absurd (left.runs x u some)
goes (z ∷ zs) left x u some = let h = left.runs.1 x u some in record { rest = zs; are = ap (λ y. y ∷ zs) (sym h.0); left = record { runs = h.1 } }

-- what the answers after equal items say
abbrev Last : {A : Type 0} → (A → A → Bool) → Bool → Option A → Option A → Type 0
Last same r o p = MatchOption o (MatchOption p (r ≡ true) (λ _. r ≡ false)) (λ x. (r ≡ false) × IfSome p (λ y. same x y ≡ false))

module _ {S T A : Type 0} {steps : S → Option A → S → Type 0} {others : T → Option A → T → Type 0} {v : A → ℕ} (same : A → A → Bool) (computes : (x y : A) → same x y ≡ nat_eq (v x) (v y)) (r : Bool) where
  compared_end : {s : S} {t : T} (zs ws : List ℕ) → YieldsList steps v s zs → YieldsList others v t ws → (o p : Option A) (u : S) (w : T) → steps s o u → others t p w → Last same r o p → r ≡ bytes_eq zs ws
  compared_end zs ws left right None None u w one other last = last ∙ sym (ap₂ bytes_eq (ends zs left u one) (ends ws right w other))
  compared_end zs ws left right None (Some y) u w one other last =
      let h = goes ws right y w other in
      last ∙ sym (ap₂ bytes_eq (ends zs left u one) h.are)
  compared_end zs ws left right (Some x) None u w one other last =
      let g = goes zs left x u one in
      last.0 ∙ sym (ap₂ bytes_eq g.are (ends ws right w other))
  compared_end zs ws left right (Some x) (Some y) u w one other last =
      let g = goes zs left x u one in
      let h = goes ws right y w other in
      last.0 ∙ sym (ap₂ bytes_eq g.are h.are ∙ ap (λ b. b && bytes_eq g.rest h.rest) (sym (computes x y) ∙ last.1))

  compared : (xs ys : List A) (s : S) (t : T) (zs ws : List ℕ) → YieldsList steps v s zs → YieldsList others v t ws → (o p : Option A) (u : S) (w : T) →
      YieldsThen steps s xs o u → YieldsThen others t ys p w → AllZip (λ x y. same x y ≡ true) xs ys → Last same r o p → r ≡ bytes_eq zs ws
  compared [] [] s t zs ws left right o p u w one other zip last = compared_end zs ws (YieldsList-at (sym one.1) left) (YieldsList-at (sym other.1) right) o p u w one.2 other.2 last
  compared [] (y ∷ ys) s t zs ws left right o p u w one other zip last = absurd zip
  compared (x ∷ xs) [] s t zs ws left right o p u w one other zip last = absurd zip
  compared (x ∷ xs) (y ∷ ys) s t zs ws left right o p u w one other zip last =
      let g = goes zs left x one.1.0 one.1.1 in
      let h = goes ws right y other.1.0 other.1.1 in
      let rest = compared xs ys one.1.0 other.1.0 g.rest h.rest g.left h.left o p u w (one.0, one.1.2, one.2) (other.0, other.1.2, other.2) zip.1 last in
      rest ∙ sym (ap₂ bytes_eq g.are h.are ∙ ap (λ b. b && bytes_eq g.rest h.rest) (sym (computes x y) ∙ zip.0))

  -- `eq` answers whether two lists of bytes are equal
  pub bytes_eq-from_eq : {s other : _} (zs ws : List ℕ) → ComparesItemsByEq steps (λ it t. t ≡ it) others s other same r → YieldsList steps v s zs → YieldsList others v other ws → r ≡ bytes_eq zs ws
  bytes_eq-from_eq {s} {other} zs ws ran left right = compared ran.1 ran.2 s ran.0 zs ws left (YieldsList-at ran.7 right) ran.3 ran.4 ran.5 ran.6 ran.8 ran.9 ran.10 ran.11
