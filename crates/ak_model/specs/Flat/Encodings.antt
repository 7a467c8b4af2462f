-- The encodings of the instructions: a table, and the reading of bytes by it. (SDM volume 2, "Instruction Format" and the
-- pages of the instructions.)
use Rattle.std.specs.Prelude.{ℕ, ◌+◌, ◌-◌, ◌*◌, ◌/◌, ◌%◌, ◌^◌, Bool, true, ◌&&◌, not, List, [], ◌∷◌, length, Option, Some, None, nat_lt, ◌==◌, ℤ, pos, negsuc, if◌then◌else◌}
use Rattle.std.specs.Bool.{then_some}
use Rattle.ak_core.specs.declared.instruction.Cond.{Cond}
use Rattle.ak_core.specs.declared.instruction.Cond.TheVariants.{Below, NotBelow, Equal, NotEqual, Less, NotLess, NotGreater, Greater}
use Rattle.ak_core.specs.declared.instruction.Instr.{Instr}
use Rattle.ak_core.specs.declared.instruction.Instr.TheVariants.{MovImm, MovTo, MovFrom, Store, Load, StoreByte, LoadByte, Add, Sub, And, Or, Xor, Compare, Test, Multiply, ShiftLeft, ShiftRight, Divide, Jump, CallNear, JumpIf, Return, Push, Pop, Nop, Undefined, Enclu}
use Rattle.ak_core.specs.declared.instruction.Decoded.{Decoded}
use Rattle.ak_core.specs.declared.instruction.Decoded.TheVariants.{Whole, NeedMore, Illegal}

-- one byte of an encoding
pub data Part : Type 0 where
  Byte : (value : ℕ) → Part  -- this byte
  W : Part  -- a prefix 0100 1R0B
  WB : Part  -- a prefix 0100 100B
  N : Part  -- a prefix 0100 0R0B
  High : Part  -- the prefix 41, for the registers from 8 on
  Plus : (opcode : ℕ) → Part  -- an opcode with a register in its low three bits
  Both : Part  -- a ModRM byte with mod 3: two registers
  Memory : Part  -- a ModRM byte with mod 2 and rm not 4: a register, and a register with a displacement
  Digit : (value : ℕ) → Part  -- a ModRM byte with mod 3, this digit in reg, and a register
  Low : (place : ℕ) → Part  -- a byte of the number, the lowest at place 0

-- what the bytes so far say: the prefix's two bits, the operands, and the number
pub record Fields : Type 0 where
  pub r : ℕ
  pub b : ℕ
  pub reg : ℕ
  pub rm : ℕ
  pub number : ℕ

-- the fields before the first byte
abbrev pub no_fields : Fields
no_fields = record { r = 0; b = 0; reg = 0; rm = 0; number = 0 }

-- bit 1 of a prefix is 0
abbrev pub is_prefix : ℕ → ℕ → Bool
is_prefix v high = (v / 8 == high) && (v / 2 % 2 == 0)

-- a prefix's two bits, R and B
abbrev pub with_prefix : ℕ → Fields → Fields
with_prefix v fields = record fields { r = v / 4 % 2; b = v % 2 }

-- a ModRM byte's two registers, each with its bit of the prefix
abbrev pub with_operands : ℕ → Fields → Fields
with_operands v fields = record fields { reg = 8 * fields.r + v / 8 % 8; rm = 8 * fields.b + v % 8 }

-- a byte read as this part, if it is one
abbrev pub read_part : Part → ℕ → Fields → Option Fields
read_part (Byte value) v fields = then_some (v == value) fields
read_part W v fields = then_some (is_prefix v 9) (with_prefix v fields)
read_part WB v fields = then_some (v / 2 == 36) (with_prefix v fields)
read_part N v fields = then_some (is_prefix v 8) (with_prefix v fields)
read_part High v fields = then_some (v == 65) (record fields { b = 1 })
read_part (Plus opcode) v fields = then_some (v / 8 == opcode / 8) (record fields { reg = 8 * fields.b + v % 8 })
read_part Both v fields = then_some (v / 64 == 3) (with_operands v fields)
read_part Memory v fields = then_some ((v / 64 == 2) && not (v % 8 == 4)) (with_operands v fields)
read_part (Digit value) v fields = then_some ((v / 64 == 3) && (v / 8 % 8 == value)) (with_operands v fields)
read_part (Low place) v fields = then_some true (record fields { number = fields.number + v * 256 ^ place })

-- four bytes of a number
abbrev pub number32 : List Part
number32 = Low 0 ∷ Low 1 ∷ Low 2 ∷ Low 3 ∷ []

-- eight bytes of a number
abbrev pub number64 : List Part
number64 = Low 0 ∷ Low 1 ∷ Low 2 ∷ Low 3 ∷ Low 4 ∷ Low 5 ∷ Low 6 ∷ Low 7 ∷ []

-- a row of the table: an encoding, and the instruction that it spells
pub record Row : Type 0 where
  pub parts : List Part
  pub spells : Fields → Instr

-- a number of 32 bits with its sign
abbrev pub signed32 : ℕ → ℤ
signed32 n = if nat_lt n (2 ^ 31) then pos n else negsuc (2 ^ 32 - 1 - n)

-- a row of the table
abbrev pub row : List Part → (Fields → Instr) → Row
row parts spells = record { parts = parts; spells = spells }

-- a jump that is taken where the condition holds
abbrev pub jump_row : ℕ → Cond → Row
jump_row opcode cond = row (Byte 0x0f ∷ Byte opcode ∷ number32) (λ f. JumpIf cond (signed32 f.number))

-- a number of 64 bits into a register
abbrev pub mov_row : Row
mov_row = row (WB ∷ Plus 0xb8 ∷ number64) (λ f. MovImm f.reg f.number)

-- an addition
abbrev pub add_row : Row
add_row = row (W ∷ Byte 0x01 ∷ Both ∷ []) (λ f. Add f.rm f.reg)

-- a call out of the enclave
abbrev pub enclu_row : Row
enclu_row = row (Byte 0x0f ∷ Byte 0x01 ∷ Byte 0xd7 ∷ []) (λ f. Enclu)

-- the table of encodings
abbrev pub table : List Row
table =
    mov_row
    ∷ row (W ∷ Byte 0x89 ∷ Both ∷ []) (λ f. MovTo f.rm f.reg)
    ∷ row (W ∷ Byte 0x8b ∷ Both ∷ []) (λ f. MovFrom f.reg f.rm)
    ∷ row (W ∷ Byte 0x89 ∷ Memory ∷ number32) (λ f. Store f.rm (signed32 f.number) f.reg)
    ∷ row (W ∷ Byte 0x8b ∷ Memory ∷ number32) (λ f. Load f.reg f.rm (signed32 f.number))
    ∷ row (N ∷ Byte 0x88 ∷ Memory ∷ number32) (λ f. StoreByte f.rm (signed32 f.number) f.reg)
    ∷ row (N ∷ Byte 0x8a ∷ Memory ∷ number32) (λ f. LoadByte f.reg f.rm (signed32 f.number))
    ∷ add_row
    ∷ row (W ∷ Byte 0x29 ∷ Both ∷ []) (λ f. Sub f.rm f.reg)
    ∷ row (W ∷ Byte 0x21 ∷ Both ∷ []) (λ f. And f.rm f.reg)
    ∷ row (W ∷ Byte 0x09 ∷ Both ∷ []) (λ f. Or f.rm f.reg)
    ∷ row (W ∷ Byte 0x31 ∷ Both ∷ []) (λ f. Xor f.rm f.reg)
    ∷ row (W ∷ Byte 0x39 ∷ Both ∷ []) (λ f. Compare f.rm f.reg)
    ∷ row (W ∷ Byte 0x85 ∷ Both ∷ []) (λ f. Test f.rm f.reg)
    ∷ row (W ∷ Byte 0x0f ∷ Byte 0xaf ∷ Both ∷ []) (λ f. Multiply f.reg f.rm)
    ∷ row (WB ∷ Byte 0xc1 ∷ Digit 4 ∷ Low 0 ∷ []) (λ f. ShiftLeft f.rm f.number)
    ∷ row (WB ∷ Byte 0xc1 ∷ Digit 5 ∷ Low 0 ∷ []) (λ f. ShiftRight f.rm f.number)
    ∷ row (WB ∷ Byte 0xf7 ∷ Digit 6 ∷ []) (λ f. Divide f.rm)
    ∷ row (Byte 0xe9 ∷ number32) (λ f. Jump (signed32 f.number))
    ∷ row (Byte 0xe8 ∷ number32) (λ f. CallNear (signed32 f.number))
    ∷ jump_row 0x82 Below
    ∷ jump_row 0x83 NotBelow
    ∷ jump_row 0x84 Equal
    ∷ jump_row 0x85 NotEqual
    ∷ jump_row 0x8c Less
    ∷ jump_row 0x8d NotLess
    ∷ jump_row 0x8e NotGreater
    ∷ jump_row 0x8f Greater
    ∷ row (Byte 0xc3 ∷ []) (λ f. Return)
    ∷ row (Plus 0x50 ∷ []) (λ f. Push f.reg)
    ∷ row (High ∷ Plus 0x50 ∷ []) (λ f. Push f.reg)
    ∷ row (Plus 0x58 ∷ []) (λ f. Pop f.reg)
    ∷ row (High ∷ Plus 0x58 ∷ []) (λ f. Pop f.reg)
    ∷ row (Byte 0x90 ∷ []) (λ f. Nop)
    ∷ row (Byte 0x0f ∷ Byte 0x0b ∷ []) (λ f. Undefined)
    ∷ enclu_row
    ∷ []

-- bytes beside an encoding: they begin with it, they are a proper prefix of it, or they differ from it
pub data Match : Type 0 where
  Fits : (fields : Fields) → Match
  Short : Match
  Differs : Match

-- the match goes on, where the byte fits
abbrev pub match_on : Option Fields → (Fields → Match) → Match
match_on None next = Differs
match_on (Some fields) next = next fields

-- bytes beside the parts that are left
abbrev pub match_parts : List Part → List ℕ → Fields → Match
match_parts [] bytes fields = Fits fields
match_parts (part ∷ parts) [] fields = Short
match_parts (part ∷ parts) (v ∷ bytes) fields = match_on (read_part part v fields) (match_parts parts bytes)

-- what a row says, or else the rows after it
abbrev pub decoded_as : Match → Row → Decoded → Decoded
decoded_as (Fits fields) row others = Whole (row.spells fields) (length row.parts)
decoded_as Short row others = NeedMore
decoded_as Differs row others = others

-- what bytes begin with, by these rows. No encoding is a prefix of another, so their order does not matter
abbrev pub decode_by : List Row → List ℕ → Decoded
decode_by [] bytes = Illegal
decode_by (row ∷ rows) bytes = decoded_as (match_parts row.parts bytes no_fields) row (decode_by rows bytes)

-- what bytes begin with
abbrev pub decode : List ℕ → Decoded
decode bytes = decode_by table bytes
