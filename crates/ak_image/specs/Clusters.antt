-- The clusters of an image: their numbers.
use Rattle.std.specs.Prelude.{ℕ, List, [], map}
use Rattle.std.specs.List.{position_or_len}
use Rattle.std.specs.Str.{bytes_eq}
use Rattle.indexmap.specs.IndexSet.{insert_all}

-- the names without repetition, in the order of their first appearance
abbrev pub distinct : List (List ℕ) → List (List ℕ)
distinct names = insert_all bytes_eq [] names

-- a name's number is its place among the distinct names
abbrev pub numbered : List (List ℕ) → List ℕ
numbered names = map (λ name. position_or_len (bytes_eq name) (distinct names)) names
