use Rattle.std.proofs.Common.{◌≡◌, ℕ, List, [], ◌∷◌, replicate, refl, ap, ◌∙◌}
use Rattle.std.specs.List.{AllZip}
use Rattle.ak_encls.proofs.encls.Encls.ecreate.Goals as goal

-- a list of numbers that were cloned is the same
same_numbers : (xs ys : List ℕ) → AllZip (λ x y. y ≡ x) xs ys → ys ≡ xs
same_numbers [] [] h = refl
same_numbers (x ∷ xs) (y ∷ ys) h = ap (λ z. z ∷ ys) h.0 ∙ ap (λ zs. x ∷ zs) (same_numbers xs ys h.1)
same_numbers [] (y ∷ ys) h = absurd h
same_numbers (x ∷ xs) [] h = absurd h

pub returns-clause-frames : goal.returns-clause-frames
returns-clause-frames c =
    c.in-Ok.ensures.items_if_clones_equal (λ y same. same_numbers c.zeros.result y same.whole) ∙ ap (replicate c.args.frames) c.zeros.ensures
