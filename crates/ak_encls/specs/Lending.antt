-- What a lent frame leaves.
use Rattle.std.specs.Prelude.{ℕ, List, slice_set}
use Rattle.std.specs.Borrow.{Lends, MutBor, Fml, Array, u8}
use Rattle.ak_encls.specs.declared.encls.Encls.{Encls}
use Rattle.ak_encls.specs.contracts.encls.Encls.{the_row}

-- the enclave with w in the place of the bytes of frame f
abbrev pub with_frame : Encls → ℕ → List ℕ → Encls
with_frame encls f w = record encls { frames = slice_set encls.frames f w }

abbrev pub LendsFrame : MutBor Encls → ℕ → MutBor (List ℕ) → Fml
LendsFrame encls f r = Lends the_row (Array u8 4096) encls r (with_frame encls.now f)
