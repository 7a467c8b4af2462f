-- What a read of a name does.
use Rattle.std.specs.Prelude.{ℕ, List, [], ◌∷◌, ◌++◌, ◌≡◌, ◌⊎◌, ◌+◌, ◌≤◌, ◌<◌, ◌↔◌, length, Option, Some, None, Vec, Result, Ok, Err, IfOk, IsErrOf}
use Rattle.std.specs.declared.alloc.Global.{Global}
use Rattle.ak_outside.specs.Causes.{one_more}
use Rattle.ak_outside.specs.declared.files.FilesFault.{FilesFault}
use Rattle.ak_outside.specs.declared.files.FilesFault.TheVariants.{Failed, TooLong, OutOfMemory}

-- the number of bytes that a name holds, 0 where it is missing
abbrev pub held_length : Option (List ℕ) → ℕ
held_length None = 0
held_length (Some bytes) = length bytes

-- the name was added at the end; a read that ran out of memory may have left it out
abbrev pub Asks : {T : Type 0} → List (List ℕ) → List (List ℕ) → List ℕ → Result T FilesFault → Type 0
Asks old new name (Ok v) = new ≡ old ++ name ∷ []
Asks old new name (Err Failed) = new ≡ old ++ name ∷ []
Asks old new name (Err TooLong) = new ≡ old ++ name ∷ []
Asks old new name (Err OutOfMemory) = (new ≡ old ++ name ∷ []) ⊎ (new ≡ old)

-- how many bytes were handed over: the answer's, and more than `limit` exactly where they were too many
pub record Hands (limit handed : ℕ) (result : Result (Vec ℕ Global) FilesFault) : Type 0 where
  pub most : handed ≤ limit + 1
  pub ok : IfOk result (λ v. handed ≡ length v.items)
  pub too_long : IsErrOf result TooLong ↔ (limit < handed)

-- the count grew by one where the read failed, and else stayed; one that ran out of memory may have failed before
abbrev pub CountsRead : {T : Type 0} → ℕ → ℕ → Result T FilesFault → Type 0
CountsRead before now (Ok v) = now ≡ before
CountsRead before now (Err Failed) = now ≡ one_more before
CountsRead before now (Err TooLong) = now ≡ before
CountsRead before now (Err OutOfMemory) = (now ≡ before) ⊎ (now ≡ one_more before)

-- the same, where a read that ran out of memory has not failed before
abbrev pub CountsFailure : {T : Type 0} → ℕ → ℕ → Result T FilesFault → Type 0
CountsFailure before now (Err Failed) = now ≡ one_more before
CountsFailure before now _ = now ≡ before
