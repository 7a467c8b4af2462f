-- Reading in stages: the first stage that gives no value says why.
use Rattle.std.specs.Prelude.{List, [], ◌∷◌, Option, Some, option_and_then, Result, Ok, Err}
use Rattle.std.specs.Option.{option_map}

-- the next stage, where the one before gave a value
infixl 10 ◌>>=◌
abbrev pub ◌>>=◌ : {A B E : Type 0} → Result A E → (A → Result B E) → Result B E
Ok x >>= next = next x
Err e >>= next = Err e

-- what is read of each item, where something is read of each
abbrev pub each_of : {A B : Type 0} → (A → Option B) → List A → Option (List B)
each_of read [] = Some []
each_of read (x ∷ xs) = option_and_then (λ y. option_map (λ ys. y ∷ ys) (each_of read xs)) (read x)
