-- What bytes begin with, said with no order among the encodings. (SDM volume 2, "Instruction Format".)
use Rattle.std.specs.Prelude.{◌≡◌, ℕ, ◌<◌, ◌≤◌, ◌↔◌, List, ◌++◌, length, take, Some}
use Rattle.std.specs.List.{All, slice_get}
use Rattle.ak_core.specs.declared.instruction.Instr.{Instr}
use Rattle.ak_core.specs.declared.instruction.Decoded.{Decoded}
use Rattle.ak_core.specs.declared.instruction.Decoded.TheVariants.{Whole, NeedMore, Illegal}
use Rattle.ak_model.specs.Flat.Encodings.{Fields, Row, Fits, no_fields, match_parts, table}

-- the bytes, all of them, are an encoding: that of row i, and they spell the instruction
pub record IsEncoding (i : ℕ) (bytes : List ℕ) (instr : Instr) : Type 0 where
  pub row : Row
  pub listed : slice_get table i ≡ Some row
  pub fields : Fields
  pub fits : match_parts row.parts bytes no_fields ≡ Fits fields
  pub size : length bytes ≡ length row.parts
  pub spelled : row.spells fields ≡ instr

-- the first n bytes are an encoding
pub record BeginsWith (bytes : List ℕ) (instr : Instr) (n : ℕ) : Type 0 where
  pub row : ℕ
  pub within : n ≤ length bytes
  pub encoding : IsEncoding row (take n bytes) instr

-- with some more bytes they are an encoding
pub record IsProperPrefix (bytes : List ℕ) : Type 0 where
  pub row : ℕ
  pub more : List ℕ
  pub are_bytes : All (λ v. v < 256) more
  pub some : 0 < length more
  pub instr : Instr
  pub encoding : IsEncoding row (bytes ++ more) instr

-- whatever comes after them, no encoding is at their beginning
abbrev pub BeginNone : List ℕ → Type 0
BeginNone bytes = (more : List ℕ) (instr : Instr) (n : ℕ) → BeginsWith (bytes ++ more) instr n → ⊥

-- what is said of the bytes is so, and is said wherever it is so
pub record Decodes (bytes : List ℕ) (decoded : Decoded) : Type 0 where
  pub whole : (instr : Instr) (n : ℕ) → (decoded ≡ Whole instr n) ↔ BeginsWith bytes instr n
  pub need_more : (decoded ≡ NeedMore) ↔ IsProperPrefix bytes
  pub illegal : (decoded ≡ Illegal) ↔ BeginNone bytes

-- where an instruction is whole, this holds of it and of its length
abbrev pub IfWhole : Decoded → (Instr → ℕ → Type 0) → Type 0
IfWhole (Whole instr n) P = P instr n
IfWhole NeedMore P = Unit {0}
IfWhole Illegal P = Unit {0}
