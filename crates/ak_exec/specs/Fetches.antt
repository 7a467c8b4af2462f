-- What the fetch of an instruction finds, beside the line of a flat state that the memory shows.
use Rattle.std.specs.Prelude.{◌≡◌, ℕ, ◌≤◌, Bool, true, List, [], ◌∷◌, ◌++◌, Option, Some, None, IsTrue}
use Rattle.ak_core.specs.Layout.{Layout}
use Rattle.ak_core.specs.Mem.{Access}
use Rattle.ak_core.specs.declared.page.Fault.{Fault}
use Rattle.ak_core.specs.declared.instruction.Decoded.{Decoded}
use Rattle.ak_core.specs.declared.instruction.Decoded.TheVariants.{Whole, NeedMore, Illegal}
use Rattle.ak_model.specs.Flat.Encodings.{decode}
use Rattle.ak_model.specs.Flat.FlatRuns.{Flat, Vector, line, line_of, perform}
use Rattle.ak_model.specs.Flat.Instructions.{HasRegisters}
use Rattle.ak_exec.specs.Turns.{Refuses, is_vector}
use Rattle.ak_exec.specs.declared.fetching.Fetched.{Fetched}
use Rattle.ak_exec.specs.declared.fetching.Fetched.TheVariants.{Found, Raised, Refused}

-- the line is that of the instruction that was found, after the accesses so far; or it ends by them, or by the refused one
abbrev pub Finds : Layout → Flat → Fetched → List Access → Type 0
Finds layout flat (Found instr size) granted = line layout flat ≡ perform layout flat granted instr size
Finds layout flat (Raised vector) granted = line layout flat ≡ line_of granted (Vector vector)
Finds layout flat (Refused fault) granted = Refuses (line layout flat) fault granted

-- the access that was refused, if one was
abbrev pub refused_fetch : Fetched → Option Access
refused_fetch (Found instr size) = None
refused_fetch (Raised vector) = None
refused_fetch (Refused fault) = Some fault

-- an instruction that was found names registers that there are and has ten bytes at most, and a vector is 0, 6 or 13
abbrev pub IsSound : Fetched → Type 0
IsSound (Found instr size) = HasRegisters instr × (size ≤ 10)
IsSound (Raised vector) = IsTrue (is_vector vector)
IsSound (Refused fault) = Unit {0}

-- this holds where an instruction was found
abbrev pub IfFound : Fetched → Type 0 → Type 0
IfFound (Found instr size) fact = fact
IfFound (Raised vector) fact = Unit {0}
IfFound (Refused fault) fact = Unit {0}

-- a whole instruction, or else vector 6
abbrev pub found_in : Decoded → Fetched
found_in (Whole instr size) = Found instr size
found_in NeedMore = Raised 6
found_in Illegal = Raised 6

-- the access was granted, of a page that is held, and the bytes were decoded
pub record Decodes (t : Access) (bytes : List ℕ) (result : Fetched) (holds : ℕ → Bool) (before after : List Access) : Type 0 where
  pub granted : after ≡ before ++ t ∷ []
  pub held : holds t.page.0 ≡ true
  pub decoded : result ≡ found_in (decode bytes)

-- the access was refused
pub record IsRefused (t : Access) (f : Fault) (before after : List Access) : Type 0 where
  pub fault : f ≡ t
  pub granted : after ≡ before

-- the access was refused, or else the bytes were decoded
abbrev pub Crosses : Access → List ℕ → Fetched → (ℕ → Bool) → List Access → List Access → Type 0
Crosses t bytes (Found instr size) holds before after = Decodes t bytes (Found instr size) holds before after
Crosses t bytes (Raised vector) holds before after = Decodes t bytes (Raised vector) holds before after
Crosses t bytes (Refused fault) holds before after = IsRefused t fault before after
