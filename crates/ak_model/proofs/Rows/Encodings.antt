-- Each encoding of the table by an example, with its proper prefixes; and bytes that begin no encoding. (SDM volume 2, the page
-- of each instruction.)
use Rattle.std.specs.Prelude.{◌≡◌, ℕ, Bool, true, false, List, [], ◌∷◌, ◌++◌, length, map, take, pos, negsuc, refl}
use Rattle.std.specs.List.{range_with_len, list_all, list_any}
use Rattle.ak_core.specs.declared.instruction.Cond.TheVariants.{Below, NotBelow, Equal, NotEqual, Less, NotLess, NotGreater, Greater}
use Rattle.ak_core.specs.declared.instruction.Instr.{Instr}
use Rattle.ak_core.specs.declared.instruction.Instr.TheVariants.{MovImm, MovTo, MovFrom, Store, Load, StoreByte, LoadByte, Add, Sub, And, Or, Xor, Compare, Test, Multiply, ShiftLeft, ShiftRight, Divide, Jump, CallNear, JumpIf, Return, Push, Pop, Nop, Undefined, Enclu}
use Rattle.ak_core.specs.declared.instruction.Decoded.{Decoded}
use Rattle.ak_core.specs.declared.instruction.Decoded.TheVariants.{Whole, NeedMore, Illegal}
use Rattle.ak_model.specs.Flat.Encodings.{Match, Fits, match_parts, no_fields, table, decode}

-- bytes, and the instruction that they are
unfoldable examples : List (List ℕ × Instr)
examples =
    (0x48 ∷ 0xb8 ∷ 0x11 ∷ 0x22 ∷ 0x33 ∷ 0x44 ∷ 0x55 ∷ 0x66 ∷ 0x77 ∷ 0x88 ∷ [], MovImm 0 0x8877665544332211) ∷  -- mov rax, 0x8877665544332211
    (0x49 ∷ 0xbf ∷ 0x01 ∷ 0x00 ∷ 0x00 ∷ 0x00 ∷ 0x00 ∷ 0x00 ∷ 0x00 ∷ 0x00 ∷ [], MovImm 15 1) ∷  -- mov r15, 1
    (0x4c ∷ 0x89 ∷ 0xc3 ∷ [], MovTo 3 8) ∷  -- mov rbx, r8
    (0x49 ∷ 0x8b ∷ 0xc3 ∷ [], MovFrom 0 11) ∷  -- mov rax, r11
    (0x4d ∷ 0x89 ∷ 0x91 ∷ 0xf8 ∷ 0xff ∷ 0xff ∷ 0xff ∷ [], Store 9 (negsuc 7) 10) ∷  -- mov [r9 - 8], r10
    (0x48 ∷ 0x8b ∷ 0xb3 ∷ 0xf8 ∷ 0x1f ∷ 0x00 ∷ 0x10 ∷ [], Load 6 3 (pos 0x10001ff8)) ∷  -- mov rsi, [rbx + 0x10001ff8]
    (0x40 ∷ 0x88 ∷ 0xbd ∷ 0x00 ∷ 0x00 ∷ 0x00 ∷ 0x80 ∷ [], StoreByte 5 (negsuc 0x7fffffff) 7) ∷  -- mov [rbp - 2^31], dil
    (0x44 ∷ 0x8a ∷ 0x86 ∷ 0xff ∷ 0xff ∷ 0xff ∷ 0x7f ∷ [], LoadByte 8 6 (pos 0x7fffffff)) ∷  -- mov r8b, [rsi + 2^31 - 1]
    (0x48 ∷ 0x01 ∷ 0xfe ∷ [], Add 6 7) ∷  -- add rsi, rdi
    (0x4d ∷ 0x29 ∷ 0xf8 ∷ [], Sub 8 15) ∷  -- sub r8, r15
    (0x48 ∷ 0x21 ∷ 0xd1 ∷ [], And 1 2) ∷  -- and rcx, rdx
    (0x49 ∷ 0x09 ∷ 0xe4 ∷ [], Or 12 4) ∷  -- or r12, rsp
    (0x48 ∷ 0x31 ∷ 0xc0 ∷ [], Xor 0 0) ∷  -- xor rax, rax
    (0x4c ∷ 0x39 ∷ 0xe5 ∷ [], Compare 5 12) ∷  -- cmp rbp, r12
    (0x48 ∷ 0x85 ∷ 0xdb ∷ [], Test 3 3) ∷  -- test rbx, rbx
    (0x4c ∷ 0x0f ∷ 0xaf ∷ 0xc7 ∷ [], Multiply 8 7) ∷  -- imul r8, rdi
    (0x48 ∷ 0xc1 ∷ 0xe1 ∷ 0x07 ∷ [], ShiftLeft 1 7) ∷  -- shl rcx, 7
    (0x49 ∷ 0xc1 ∷ 0xef ∷ 0x3f ∷ [], ShiftRight 15 63) ∷  -- shr r15, 63
    (0x49 ∷ 0xf7 ∷ 0xf5 ∷ [], Divide 13) ∷  -- div r13
    (0xe9 ∷ 0xfb ∷ 0xff ∷ 0xff ∷ 0xff ∷ [], Jump (negsuc 4)) ∷  -- jmp -5
    (0xe8 ∷ 0x00 ∷ 0x01 ∷ 0x00 ∷ 0x00 ∷ [], CallNear (pos 256)) ∷  -- call 256
    (0x0f ∷ 0x82 ∷ 0xff ∷ 0xff ∷ 0xff ∷ 0xff ∷ [], JumpIf Below (negsuc 0)) ∷  -- jb -1
    (0x0f ∷ 0x83 ∷ 0x00 ∷ 0x00 ∷ 0x00 ∷ 0x00 ∷ [], JumpIf NotBelow (pos 0)) ∷  -- jae 0
    (0x0f ∷ 0x84 ∷ 0x01 ∷ 0x00 ∷ 0x00 ∷ 0x00 ∷ [], JumpIf Equal (pos 1)) ∷  -- je 1
    (0x0f ∷ 0x85 ∷ 0x02 ∷ 0x00 ∷ 0x00 ∷ 0x00 ∷ [], JumpIf NotEqual (pos 2)) ∷  -- jne 2
    (0x0f ∷ 0x8c ∷ 0x03 ∷ 0x00 ∷ 0x00 ∷ 0x00 ∷ [], JumpIf Less (pos 3)) ∷  -- jl 3
    (0x0f ∷ 0x8d ∷ 0x04 ∷ 0x00 ∷ 0x00 ∷ 0x00 ∷ [], JumpIf NotLess (pos 4)) ∷  -- jge 4
    (0x0f ∷ 0x8e ∷ 0x05 ∷ 0x00 ∷ 0x00 ∷ 0x00 ∷ [], JumpIf NotGreater (pos 5)) ∷  -- jle 5
    (0x0f ∷ 0x8f ∷ 0x06 ∷ 0x00 ∷ 0x00 ∷ 0x00 ∷ [], JumpIf Greater (pos 6)) ∷  -- jg 6
    (0xc3 ∷ [], Return) ∷  -- ret
    (0x54 ∷ [], Push 4) ∷  -- push rsp
    (0x41 ∷ 0x57 ∷ [], Push 15) ∷  -- push r15
    (0x5d ∷ [], Pop 5) ∷  -- pop rbp
    (0x41 ∷ 0x5c ∷ [], Pop 12) ∷  -- pop r12
    (0x90 ∷ [], Nop) ∷  -- nop
    (0x0f ∷ 0x0b ∷ [], Undefined) ∷  -- ud2
    (0x0f ∷ 0x01 ∷ 0xd7 ∷ [], Enclu) ∷  -- enclu
    []

-- bytes of which the last makes them begin no encoding
unfoldable strangers : List (List ℕ)
strangers =
    (0x00 ∷ []) ∷  -- a zero
    (0xcc ∷ []) ∷  -- int3
    (0x66 ∷ []) ∷  -- an operand-size prefix
    (0xf3 ∷ []) ∷  -- a repeat prefix
    (0x48 ∷ 0x90 ∷ []) ∷  -- nop after a prefix
    (0x41 ∷ 0xc3 ∷ []) ∷  -- ret after a prefix
    (0x40 ∷ 0x50 ∷ []) ∷  -- push after a prefix of no register
    (0x4a ∷ []) ∷  -- a prefix with an index bit
    (0x42 ∷ []) ∷  -- a narrow prefix with an index bit
    (0x40 ∷ 0x89 ∷ []) ∷  -- a move of 32 bits
    (0x48 ∷ 0x88 ∷ []) ∷  -- a store of a byte with a wide prefix
    (0x48 ∷ 0x89 ∷ 0x03 ∷ []) ∷  -- mov [rbx], rax, without a displacement
    (0x48 ∷ 0x89 ∷ 0x43 ∷ []) ∷  -- with a displacement of 8 bits
    (0x48 ∷ 0x89 ∷ 0x84 ∷ []) ∷  -- with a scaled index
    (0x49 ∷ 0x89 ∷ 0x84 ∷ []) ∷  -- the same, to R12
    (0x49 ∷ 0x8b ∷ 0x84 ∷ []) ∷  -- a load with a scaled index
    (0x40 ∷ 0x88 ∷ 0xc3 ∷ []) ∷  -- a byte between registers
    (0x48 ∷ 0x01 ∷ 0x83 ∷ []) ∷  -- add with an operand in memory
    (0x4c ∷ 0xb8 ∷ []) ∷  -- a number into a register with a bit for the other operand
    (0x4c ∷ 0xc1 ∷ []) ∷  -- a shift with that bit
    (0x4d ∷ 0xf7 ∷ []) ∷  -- a division with that bit
    (0x48 ∷ 0xc1 ∷ 0xc0 ∷ []) ∷  -- rol
    (0x48 ∷ 0xc1 ∷ 0xf8 ∷ []) ∷  -- sar
    (0x48 ∷ 0xf7 ∷ 0xe0 ∷ []) ∷  -- mul
    (0x48 ∷ 0xf7 ∷ 0xf8 ∷ []) ∷  -- idiv
    (0x48 ∷ 0xf7 ∷ 0xb0 ∷ []) ∷  -- div with an operand in memory
    (0x0f ∷ 0x80 ∷ []) ∷  -- jo
    (0x0f ∷ 0x8a ∷ []) ∷  -- jp
    (0x0f ∷ 0x05 ∷ []) ∷  -- syscall
    (0x0f ∷ 0xaf ∷ []) ∷  -- imul without a wide prefix
    (0x0f ∷ 0x01 ∷ 0xcf ∷ []) ∷  -- encls
    (0x0f ∷ 0x01 ∷ 0xc1 ∷ []) ∷  -- vmcall
    (0xeb ∷ []) ∷  -- a short jump
    []

-- more bytes are wanted
abbrev is_short : Decoded → Bool
is_short (Whole instr size) = false
is_short NeedMore = true
is_short Illegal = false

-- after each of the first n beginnings of these bytes, the empty one among them, more are wanted
abbrev are_short : List ℕ → ℕ → Bool
are_short bytes n = list_all (λ k. is_short (decode (take k bytes))) (range_with_len 0 n)

-- the bytes fit the row
abbrev fits : Match → Bool
fits (Fits fields) = true
fits _ = false

-- there is an example for each encoding
each_row : list_all (λ row. list_any (λ example. fits (match_parts row.parts example.0 no_fields)) examples) table ≡ true
unfolding examples
each_row = refl

-- each is its instruction, of its length
wholes : map (λ example. decode example.0) examples ≡ map (λ example. Whole example.1 (length example.0)) examples
unfolding examples
wholes = refl

-- so it is before other bytes
wholes_before : map (λ example. decode (example.0 ++ 0x48 ∷ 0x89 ∷ [])) examples ≡ map (λ example. Whole example.1 (length example.0)) examples
unfolding examples
wholes_before = refl

-- after each proper prefix more bytes are wanted
prefixes : list_all (λ example. are_short example.0 (length example.0)) examples ≡ true
unfolding examples
prefixes = refl

-- strangers are found out at their last byte, and not before
strange : map decode strangers ≡ map (λ bytes. Illegal) strangers
unfolding strangers
strange = refl

strange_prefixes : list_all (λ bytes. are_short bytes (length bytes)) strangers ≡ true
unfolding strangers
strange_prefixes = refl
