-- Lists of pages of which one is taken out.
use Rattle.std.proofs.Common.{◌≡◌, ℕ, ◌<◌, ◌==◌, if◌then◌else◌, List, length, Option, None, map, get_or, set, ap, sym, ◌∙◌, inl, inr, get_or-set_same, get_or-set_other}
use Rattle.std.proofs.lemmas.Bool.Decides.{eqb_tells}
use Rattle.std.proofs.Math.ListN.{get_or-map}
use Rattle.std.specs.Option.{option_map}

-- the page at a place is gone, and the others stay
pub without_one : {A B : Type 0} (f : A → B) (pages : List (Option A)) (h k : ℕ) → h < length pages
    → get_or (map (option_map f) (set pages h None)) k None ≡ (if k == h then None else get_or (map (option_map f) pages) k None)
without_one f pages h k within =
    get_or-map (option_map f) (set pages h None) k None
    ∙ elim (eqb_tells k h) [
      | inl same ↦ ap (λ i. option_map f (get_or (set pages h None) i None)) same.1
          ∙ ap (option_map f) (get_or-set_same pages h None None within)
          ∙ ap (λ b. if b then None else get_or (map (option_map f) pages) k None) (sym same.0)
      | inr other ↦ ap (option_map f) (get_or-set_other pages h k None None other.1)
          ∙ sym (get_or-map (option_map f) pages k None)
          ∙ ap (λ b. if b then None else get_or (map (option_map f) pages) k None) (sym other.0)
    ]
