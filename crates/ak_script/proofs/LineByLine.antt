-- Texts that are written line by line.
use Rattle.std.proofs.Common.{◌≡◌, ℕ, ◌+◌, ◌<◌, List, [], ◌∷◌, ◌++◌, take, drop, length, get_or, ap, ◌∙◌, sym, subst, Option, append-nil, codes}
use Rattle.std.proofs.lemmas.Grind.{flat_map-append}
use Rattle.std.proofs.lemmas.List.{take-append-drop, take_more}
use Rattle.ak_outside.specs.Taken.{with_more, TakesFront}
use Rattle.ak_outside.proofs.Fronts.{front_more, then_front, with_more-append}
use Rattle.ak_script.specs.Text.{in_lines}

module _ {A : Type 0} (text : A → List ℕ) (xs : List A) (i : ℕ) (d : A) (lt : i < length xs) where
  -- the text of the line at a place
  abbrev line : List ℕ
  line = text (get_or xs i d) ++ codes "\n"

  -- one line more
  line_after : in_lines text (take (i + 1) xs) ≡ in_lines text (take i xs) ++ line
  line_after = ap (in_lines text) (take_more xs i d lt) ∙ flat_map-append _ (take i xs) (get_or xs i d ∷ []) ∙ ap (λ l. in_lines text (take i xs) ++ l) (append-nil line)

  pub taken_more : (first before after : Option (List ℕ)) → before ≡ with_more first (in_lines text (take i xs)) → after ≡ with_more before line → after ≡ with_more first (in_lines text (take (i + 1) xs))
  taken_more first before after is more = more ∙ ap (λ o. with_more o line) is ∙ with_more-append first (in_lines text (take i xs)) line ∙ ap (with_more first) (sym line_after)

  pub stopped : (first before after : Option (List ℕ)) → before ≡ with_more first (in_lines text (take i xs)) → TakesFront before after line → TakesFront first after (in_lines text xs)
  stopped first before after is front =
      let rest : List ℕ = in_lines text (drop (i + 1) xs) in
      let whole : (in_lines text (take i xs) ++ line) ++ rest ≡ in_lines text xs = ap (λ l. l ++ rest) (sym line_after) ∙ sym (flat_map-append _ (take (i + 1) xs) (drop (i + 1) xs)) ∙ ap (in_lines text) (take-append-drop (i + 1) xs) in
      subst (TakesFront first after) whole (front_more first after (in_lines text (take i xs) ++ line) rest (then_front first before after (in_lines text (take i xs)) line is front))
