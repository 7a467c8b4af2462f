-- What each instruction does to registers and flags, and what it asks of memory. (SDM volume 2, the page of each
-- instruction; where it leaves a flag undefined, this project says which value it has.)
use Rattle.std.specs.Prelude.{ℕ, zero, suc, ◌+◌, ◌-◌, ◌*◌, ◌/◌, ◌%◌, ◌^◌, ◌<◌, Bool, false, ◌&&◌, ◌||◌, not, List, [], ◌∷◌, take, drop, nat_lt, nat_le, ◌==◌, ℤ, pos, negsuc, slice_index, slice_set, bit_and, bit_or, bit_xor, if◌then◌else◌}
use Rattle.std.specs.Bool.{beq}
use Rattle.ak_core.specs.declared.registers.Regs.{Regs}
use Rattle.ak_core.specs.declared.instruction.Cond.{Cond}
use Rattle.ak_core.specs.declared.instruction.Cond.TheVariants.{Below, NotBelow, Equal, NotEqual, Less, NotLess, NotGreater, Greater}
use Rattle.ak_core.specs.declared.instruction.Instr.{Instr}
use Rattle.ak_core.specs.declared.instruction.Instr.TheVariants.{MovImm, MovTo, MovFrom, Store, Load, StoreByte, LoadByte, Add, Sub, And, Or, Xor, Compare, Test, Multiply, ShiftLeft, ShiftRight, Divide, Jump, CallNear, JumpIf, Return, Push, Pop, Nop, Undefined, Enclu}

-- ---- Numbers of 64 bits

-- the sign of a number of 64 bits
abbrev pub top_bit : ℕ → Bool
top_bit v = nat_le (2 ^ 63) v

-- a sum, modulo 2^64
abbrev pub plus : ℕ → ℕ → ℕ
plus x y = (x + y) % 2 ^ 64

-- a difference, modulo 2^64
abbrev pub minus : ℕ → ℕ → ℕ
minus x y = (x + (2 ^ 64 - y)) % 2 ^ 64

-- a number of 64 bits moved by a signed one
abbrev pub moved : ℕ → ℤ → ℕ
moved x (pos n) = plus x n
moved x (negsuc n) = minus x (suc n)

-- how far a number is from 0, taken with its sign
abbrev pub magnitude : ℕ → ℕ
magnitude v = if top_bit v then 2 ^ 64 - v else v

-- the signed product fits 64 bits
abbrev pub product_fits : ℕ → ℕ → Bool
product_fits x y =
    if beq (top_bit x) (top_bit y)
    then nat_lt (magnitude x * magnitude y) (2 ^ 63)
    else nat_le (magnitude x * magnitude y) (2 ^ 63)

-- the number's bytes, the lowest first
abbrev pub le_bytes : ℕ → ℕ → List ℕ
le_bytes zero v = []
le_bytes (suc n) v = v % 256 ∷ le_bytes n (v / 256)

-- the number that bytes spell, the lowest first
abbrev pub le_value : List ℕ → ℕ
le_value [] = 0
le_value (b ∷ bytes) = b + 256 * le_value bytes

-- the number in so many bytes at a place
abbrev pub number_at : List ℕ → ℕ → ℕ → ℕ
number_at bytes place count = le_value (take count (drop place bytes))

-- ---- Registers and flags

-- the value of a register
abbrev pub reg_of : Regs → ℕ → ℕ
reg_of regs i = slice_index regs.gpr i

-- a register with a new value
abbrev pub with_reg : Regs → ℕ → ℕ → Regs
with_reg regs i v = record regs { gpr = slice_set regs.gpr i v }

-- the registers that instructions name
abbrev pub rax : ℕ
rax = 0

-- the second
abbrev pub rcx : ℕ
rcx = 1

-- the third
abbrev pub rdx : ℕ
rdx = 2

-- the stack pointer
abbrev pub rsp : ℕ
rsp = 4

-- a call's argument
abbrev pub rsi : ℕ
rsi = 6

-- a call's number
abbrev pub rdi : ℕ
rdi = 7

-- zero and sign by a result, with these carry and overflow
abbrev pub with_flags : Regs → ℕ → Bool → Bool → Regs
with_flags regs result carry overflow = record regs { cf = carry; zf = result == 0; sf = top_bit result; of = overflow }

-- a sum of 2^64 or more
abbrev pub add_carry : ℕ → ℕ → Bool
add_carry x y = nat_le (2 ^ 64) (x + y)

-- two numbers of one sign have a sum of the other
abbrev pub add_overflow : ℕ → ℕ → Bool
add_overflow x y = beq (top_bit x) (top_bit y) && not (beq (top_bit x) (top_bit (plus x y)))

-- the flags of a sum
abbrev pub add_flags : Regs → ℕ → ℕ → Regs
add_flags regs x y = with_flags regs (plus x y) (add_carry x y) (add_overflow x y)

-- a difference below 0
abbrev pub sub_borrow : ℕ → ℕ → Bool
sub_borrow x y = nat_lt x y

-- the difference of two numbers of different signs has the second's
abbrev pub sub_overflow : ℕ → ℕ → Bool
sub_overflow x y = not (beq (top_bit x) (top_bit y)) && not (beq (top_bit x) (top_bit (minus x y)))

-- the flags of a difference
abbrev pub sub_flags : Regs → ℕ → ℕ → Regs
sub_flags regs x y = with_flags regs (minus x y) (sub_borrow x y) (sub_overflow x y)

-- the flags of AND, OR and XOR
abbrev pub logic_flags : Regs → ℕ → Regs
logic_flags regs result = with_flags regs result false false

-- the flags of a product; the zero flag stays
abbrev pub multiply_flags : Regs → ℕ → ℕ → Regs
multiply_flags regs x y =
    let fits = product_fits x y in
    record regs { cf = not fits; of = not fits; sf = top_bit (x * y % 2 ^ 64) }

-- a shift by 0 changes nothing; one by more than 1 keeps the overflow
abbrev pub shifted : Regs → ℕ → ℕ → ℕ → Bool → Bool → Regs
shifted regs rm by result carry overflow =
    if by == 0 then regs
    else with_reg (with_flags regs result carry (if by == 1 then overflow else regs.of)) rm result

-- a shift to the left
abbrev pub shifted_left : Regs → ℕ → ℕ → Regs
shifted_left regs rm by =
    let x = reg_of regs rm in let result = x * 2 ^ by % 2 ^ 64 in let carry = x / 2 ^ (64 - by) % 2 == 1 in
    shifted regs rm by result carry (not (beq (top_bit result) carry))

-- a shift to the right, zeros coming in
abbrev pub shifted_right : Regs → ℕ → ℕ → Regs
shifted_right regs rm by =
    let x = reg_of regs rm in
    shifted regs rm by (x / 2 ^ by) (x / 2 ^ (by - 1) % 2 == 1) (top_bit x)

-- where a conditional jump is taken
abbrev pub is_met : Cond → Regs → Bool
is_met Below regs = regs.cf
is_met NotBelow regs = not regs.cf
is_met Equal regs = regs.zf
is_met NotEqual regs = not regs.zf
is_met Less regs = not (beq regs.sf regs.of)
is_met NotLess regs = beq regs.sf regs.of
is_met NotGreater regs = regs.zf || not (beq regs.sf regs.of)
is_met Greater regs = not regs.zf && beq regs.sf regs.of

-- ---- Instructions

-- what an instruction comes to
pub data Plan : Type 0 where
  RaisesVector : (vector : ℕ) → Plan
  Computes : (regs : Regs) → Plan  -- these registers, and no memory
  Reads : (address count : ℕ) (regs : ℕ → Regs) → Plan  -- these registers, by the bytes at the address
  Writes : (address : ℕ) (bytes : List ℕ) (regs : Regs) → Plan  -- the bytes go to the address
  CallsOut : (number argument : ℕ) (regs : Regs) → Plan  -- the enclave is left

-- a division of n by d, which traps at 0 and where the quotient does not fit
abbrev pub divide : Regs → ℕ → ℕ → Plan
divide regs n zero = RaisesVector 0
divide regs n (suc d) =
    if nat_lt (n / suc d) (2 ^ 64)
    then Computes (with_reg (with_reg regs rax (n / suc d)) rdx (n % suc d))
    else RaisesVector 0

-- an instruction, from registers whose RIP is already the next address
abbrev pub plan : Instr → Regs → Plan
plan (MovImm reg imm) regs = Computes (with_reg regs reg imm)
plan (MovTo rm reg) regs = Computes (with_reg regs rm (reg_of regs reg))
plan (MovFrom reg rm) regs = Computes (with_reg regs reg (reg_of regs rm))
plan (Store rm disp reg) regs = Writes (moved (reg_of regs rm) disp) (le_bytes 8 (reg_of regs reg)) regs
plan (Load reg rm disp) regs = Reads (moved (reg_of regs rm) disp) 8 (λ v. with_reg regs reg v)
plan (StoreByte rm disp reg) regs = Writes (moved (reg_of regs rm) disp) (le_bytes 1 (reg_of regs reg)) regs
plan (LoadByte reg rm disp) regs =
    Reads (moved (reg_of regs rm) disp) 1 (λ v. with_reg regs reg (reg_of regs reg / 256 * 256 + v))
plan (Add rm reg) regs =
    let x = reg_of regs rm in let y = reg_of regs reg in Computes (with_reg (add_flags regs x y) rm (plus x y))
plan (Sub rm reg) regs =
    let x = reg_of regs rm in let y = reg_of regs reg in Computes (with_reg (sub_flags regs x y) rm (minus x y))
plan (And rm reg) regs =
    let v = bit_and (reg_of regs rm) (reg_of regs reg) in Computes (with_reg (logic_flags regs v) rm v)
plan (Or rm reg) regs =
    let v = bit_or (reg_of regs rm) (reg_of regs reg) in Computes (with_reg (logic_flags regs v) rm v)
plan (Xor rm reg) regs =
    let v = bit_xor (reg_of regs rm) (reg_of regs reg) in Computes (with_reg (logic_flags regs v) rm v)
plan (Compare rm reg) regs = Computes (sub_flags regs (reg_of regs rm) (reg_of regs reg))
plan (Test rm reg) regs = Computes (logic_flags regs (bit_and (reg_of regs rm) (reg_of regs reg)))
plan (Multiply reg rm) regs =
    let x = reg_of regs reg in let y = reg_of regs rm in
    Computes (with_reg (multiply_flags regs x y) reg (x * y % 2 ^ 64))
plan (ShiftLeft rm by) regs = Computes (shifted_left regs rm (by % 64))
plan (ShiftRight rm by) regs = Computes (shifted_right regs rm (by % 64))
plan (Divide rm) regs = divide regs (reg_of regs rdx * 2 ^ 64 + reg_of regs rax) (reg_of regs rm)
plan (Jump rel) regs = Computes (record regs { rip = moved regs.rip rel })
plan (CallNear rel) regs =
    let top = minus (reg_of regs rsp) 8 in
    Writes top (le_bytes 8 regs.rip) (record (with_reg regs rsp top) { rip = moved regs.rip rel })
plan (JumpIf cond rel) regs = Computes (record regs { rip = if is_met cond regs then moved regs.rip rel else regs.rip })
plan Return regs =
    Reads (reg_of regs rsp) 8 (λ v. record (with_reg regs rsp (plus (reg_of regs rsp) 8)) { rip = v })
plan (Push reg) regs =
    let top = minus (reg_of regs rsp) 8 in Writes top (le_bytes 8 (reg_of regs reg)) (with_reg regs rsp top)
plan (Pop reg) regs =
    Reads (reg_of regs rsp) 8 (λ v. with_reg (with_reg regs rsp (plus (reg_of regs rsp) 8)) reg v)
plan Nop regs = Computes regs
plan Undefined regs = RaisesVector 6
plan Enclu regs =
    if reg_of regs rax % 2 ^ 32 == 4
    then CallsOut (reg_of regs rdi) (reg_of regs rsi) (with_reg regs rcx regs.rip)
    else RaisesVector 13

-- each register that an instruction names is one of the sixteen
abbrev pub HasRegisters : Instr → Type 0
HasRegisters (MovImm reg imm) = reg < 16
HasRegisters (MovTo rm reg) = (rm < 16) × (reg < 16)
HasRegisters (MovFrom reg rm) = (rm < 16) × (reg < 16)
HasRegisters (Store rm disp reg) = (rm < 16) × (reg < 16)
HasRegisters (Load reg rm disp) = (rm < 16) × (reg < 16)
HasRegisters (StoreByte rm disp reg) = (rm < 16) × (reg < 16)
HasRegisters (LoadByte reg rm disp) = (rm < 16) × (reg < 16)
HasRegisters (Add rm reg) = (rm < 16) × (reg < 16)
HasRegisters (Sub rm reg) = (rm < 16) × (reg < 16)
HasRegisters (And rm reg) = (rm < 16) × (reg < 16)
HasRegisters (Or rm reg) = (rm < 16) × (reg < 16)
HasRegisters (Xor rm reg) = (rm < 16) × (reg < 16)
HasRegisters (Compare rm reg) = (rm < 16) × (reg < 16)
HasRegisters (Test rm reg) = (rm < 16) × (reg < 16)
HasRegisters (Multiply reg rm) = (rm < 16) × (reg < 16)
HasRegisters (ShiftLeft rm by) = rm < 16
HasRegisters (ShiftRight rm by) = rm < 16
HasRegisters (Divide rm) = rm < 16
HasRegisters (Push reg) = reg < 16
HasRegisters (Pop reg) = reg < 16
HasRegisters _ = Unit {0}
