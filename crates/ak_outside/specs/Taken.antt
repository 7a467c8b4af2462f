-- What a sink took.
use Rattle.std.specs.Prelude.{ℕ, List, ◌++◌, ◌≡◌, Option, Some, None}

-- some bytes more, where the sink tells what it took
abbrev pub with_more : Option (List ℕ) → List ℕ → Option (List ℕ)
with_more None bytes = None
with_more (Some taken) bytes = Some (taken ++ bytes)

-- a front of these bytes was taken, and nothing else
pub record TakesFront (old new : Option (List ℕ)) (bytes : List ℕ) : Type 0 where
  pub front : List ℕ
  pub rest : List ℕ
  pub whole : front ++ rest ≡ bytes
  pub taken : new ≡ with_more old front
