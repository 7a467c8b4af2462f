-- The program of page 0. From the first word of the pages of data on it goes 300 times to the word whose place the last one
-- names; then it gives the last word as its output, and ends. (SDM volume 2, the encodings of MOV, SHL, ADD, SUB, Jcc; volume 3D,
-- ENCLU.)
use Rattle.std.specs.Prelude.{ℕ, List, [], ◌∷◌, ◌++◌, replicate}
use Rattle.std.specs.Int.{w64, to_le_bytes}

-- MOV: the register that the two bytes name becomes a number of eight bytes
abbrev constant : ℕ → ℕ → ℕ → List ℕ
constant prefix opcode number = prefix ∷ opcode ∷ to_le_bytes w64 number

-- RBX := the address of page 1, RCX := 0, RDX := 300, R8 := 1
abbrev start : List ℕ
start = constant 0x48 0xbb 0x40001000 ++ constant 0x48 0xb9 0 ++ constant 0x48 0xba 300 ++ constant 0x49 0xb8 1

-- at 40: RSI := RBX + 8 RCX; RCX := the 8 bytes at RSI; RDX := RDX - R8; to 40, where RDX is not 0
abbrev turn : List ℕ
turn =
    (0x48 ∷ 0x89 ∷ 0xce ∷ []) ++ (0x48 ∷ 0xc1 ∷ 0xe6 ∷ 3 ∷ []) ++ (0x48 ∷ 0x01 ∷ 0xde ∷ [])
    ++ (0x48 ∷ 0x8b ∷ 0x8e ∷ 0 ∷ 0 ∷ 0 ∷ 0 ∷ []) ++ (0x4c ∷ 0x29 ∷ 0xc2 ∷ []) ++ (0x0f ∷ 0x85 ∷ 0xe6 ∷ 0xff ∷ 0xff ∷ 0xff ∷ [])

-- the call 1 with RCX, which is an output; and the call 0, which is the end: RAX := 4, RDI := the call, RSI := its value; ENCLU
abbrev calls : List ℕ
calls =
    constant 0x48 0xb8 4 ++ constant 0x48 0xbf 1 ++ (0x48 ∷ 0x89 ∷ 0xce ∷ []) ++ (0x0f ∷ 0x01 ∷ 0xd7 ∷ [])
    ++ constant 0x48 0xb8 4 ++ constant 0x48 0xbf 0 ++ constant 0x48 0xbe 0 ++ (0x0f ∷ 0x01 ∷ 0xd7 ∷ [])

-- its 125 bytes
abbrev pub program : List ℕ
program = start ++ turn ++ calls

-- page 0: the program, and zeros
unfoldable pub first_page : List ℕ
first_page = program ++ replicate 3971 0
