-- What the values of a flat run are: registers of 64 bits and bytes, where the image is one of bytes and the values that calls
-- returned are of 64 bits; and which pages an instruction leaves.
use Rattle.std.specs.Prelude.{◌≡◌, ℕ, ◌<◌, false, List, length}
use Rattle.std.specs.List.{All}
use Rattle.ak_core.specs.Mem.{Access, access_to}
use Rattle.ak_core.specs.declared.page.Kind.TheVariants.{Write}
use Rattle.ak_model.specs.Misses.KeptTranslations.{is_among}
use Rattle.ak_model.specs.Flat.FlatRuns.{Flat, End, page_bytes}
use Rattle.ak_ssa.specs.SavedRegisters.{AreRegs}

-- numbers of 8 bits
abbrev pub AreBytes : List ℕ → Type 0
AreBytes bytes = All (λ v. v < 256) bytes

-- registers of 64 bits, and bytes
pub record FlatFits (flat : Flat) : Type 0 where
  pub words : AreRegs flat.regs
  pub bytes : AreBytes flat.bytes

-- none of these accesses writes the page
abbrev pub Unwritten : List Access → ℕ → Type 0
Unwritten accesses p = is_among accesses (access_to p Write) ≡ false

-- what the end of an instruction with these accesses leaves of the bytes: an instruction changes only pages that it writes, and a
-- call none
abbrev pub EndKeeps : List Access → Flat → End → Type 0
EndKeeps accesses flat (End.Next after) =
    (length after.bytes ≡ length flat.bytes) × ((p : ℕ) → Unwritten accesses p → page_bytes after p ≡ page_bytes flat p)
EndKeeps accesses flat (End.Call b a after) = after.bytes ≡ flat.bytes
EndKeeps accesses flat (End.Vector v) = Unit {0}
