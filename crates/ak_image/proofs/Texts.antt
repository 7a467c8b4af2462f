-- What a document's array holds, and the texts of its pages.
use Rattle.std.proofs.Common.{◌≡◌, ℕ, List, [], ◌∷◌, ◌++◌, map, Option, Some, refl, sym, ap, ◌∙◌, Vec, Global}
use Rattle.std.specs.Option.{option_map, option_and_then}
use Rattle.toml.specs.Data.{Members, get_member}
use Rattle.toml.specs.View.{view, items_view}
use Rattle.toml.specs.declared.value.Value.{Value, Array}
use Rattle.toml.proofs.Views.{view-Array}
use Rattle.ak_measure.specs.Document.{listed}
use Rattle.ak_image.specs.Spelled.{PageText, items_at, array_items}

listed-view : (vs : List Value) → listed (items_view vs) ≡ map view vs
listed-view [] = refl
listed-view (v ∷ vs) = ap (λ ds. view v ∷ ds) (listed-view vs)

-- the texts of all pages, where those of the first ones are done
abbrev pub after : List PageText → Option (List PageText) → Option (List PageText)
after done rest = option_map (λ pages. done ++ pages) rest

pub items_at-array : (key : List ℕ) (ms : Members) (value : Value) (v : Vec Value Global) → Some (view value) ≡ get_member key ms → value ≡ Array v → Some (map view v.items) ≡ items_at key ms
items_at-array key ms value v found same =
    sym (ap (option_and_then array_items) (sym found) ∙ (ap (λ (x : Value). array_items (view x)) same ∙ (ap array_items (view-Array v) ∙ ap Some (listed-view v.items))))
