-- What is read from a source and written to a stream, where they tell their bytes.
use Rattle.std.specs.Prelude.{ℕ, ◌+◌, ◌≤◌, ◌<◌, ◌≡◌, ◌++◌, List, length, Option, Vec, Result, Ok, Err}
use Rattle.std.specs.declared.alloc.Global.{Global}
use Rattle.std.specs.Io.KnownBytes.{Appends, Consumes, IsAtEnd}
use Rattle.ak_outside.specs.declared.files.FilesFault.{FilesFault}
use Rattle.ak_outside.specs.declared.files.FilesFault.TheVariants.{Failed, TooLong, OutOfMemory}

-- the answer is all that the source had left, or the source gave the `limit + 1` bytes that are too many; where the read
-- failed, or memory ran out, it gave no more than `limit`
abbrev pub ReadsWhole : Option (List ℕ) → Option (List ℕ) → ℕ → Result (Vec ℕ Global) FilesFault → Type 0
ReadsWhole old new limit (Ok bytes) = Consumes old new bytes.items × IsAtEnd new × (length bytes.items ≤ limit)
ReadsWhole old new limit (Err TooLong) = (front : List ℕ) × Consumes old new front × (length front ≡ limit + 1)
ReadsWhole old new limit (Err Failed) = (front : List ℕ) × Consumes old new front × (length front ≤ limit)
ReadsWhole old new limit (Err OutOfMemory) = (front : List ℕ) × Consumes old new front × (length front ≤ limit)

-- a front of these bytes but not all of them was added to the stream, and nothing else
pub record AppendsFront (old new : Option (List ℕ)) (bytes : List ℕ) : Type 0 where
  pub front : List ℕ
  pub rest : List ℕ
  pub whole : front ++ rest ≡ bytes
  pub left : 0 < length rest
  pub added : Appends old new front
