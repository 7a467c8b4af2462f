-- Groups of opcodes that are decoded alike. (SDM volume 2, "Opcode Map".)
use Rattle.std.specs.Prelude.{ℕ, ◌/◌, ◌%◌, Bool, ◌&&◌, not, List, [], ◌∷◌, ◌==◌}
use Rattle.std.specs.List.{list_any}

-- the opcode is one of these
abbrev pub is_one_of : List ℕ → ℕ → Bool
is_one_of opcodes opcode = list_any (λ v. opcode == v) opcodes

-- ADD, OR, AND, SUB, XOR, CMP and TEST of registers
abbrev pub arithmetic_opcodes : List ℕ
arithmetic_opcodes = 0x01 ∷ 0x09 ∷ 0x21 ∷ 0x29 ∷ 0x31 ∷ 0x39 ∷ 0x85 ∷ []

-- MOV into and from the operand that may be memory, 64 bits
abbrev pub move_opcodes : List ℕ
move_opcodes = 0x89 ∷ 0x8b ∷ []

-- the same, 8 bits
abbrev pub byte_opcodes : List ℕ
byte_opcodes = 0x88 ∷ 0x8a ∷ []

-- a ModRM byte of an operand in memory, at a register with a displacement of 32 bits
abbrev pub names_memory : ℕ → Bool
names_memory v = (v / 64 == 2) && not (v % 8 == 4)
