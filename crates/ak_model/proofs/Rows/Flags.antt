-- Results and flags at edges. The tables are written from the manual: carry and overflow by the unsigned and the signed result.
-- (SDM volume 2, the page of each instruction; where it leaves a flag undefined, the flag is kept, which is this project's own.)
use Rattle.std.specs.Prelude.{◌≡◌, ℕ, Bool, true, false, List, [], ◌∷◌, map, replicate, flat_map, refl}
use Rattle.ak_core.specs.declared.instruction.Cond.{Cond}
use Rattle.ak_core.specs.declared.instruction.Cond.TheVariants.{Below, NotBelow, Equal, NotEqual, Less, NotLess, NotGreater, Greater}
use Rattle.ak_core.specs.declared.instruction.Instr.{Instr}
use Rattle.ak_core.specs.declared.instruction.Instr.TheVariants.{Add, Sub, And, Or, Xor, Compare, Test, Multiply, ShiftLeft, ShiftRight, Divide}
use Rattle.ak_core.specs.declared.registers.Mode.{Mode}
use Rattle.ak_core.specs.declared.registers.Regs.{Regs}
use Rattle.ak_model.specs.Flat.Instructions.{Plan, RaisesVector, Computes, plan, reg_of, rax, rcx, rdx, is_met}

-- ---- Cases

-- two numbers, the result, and then carry, zero, sign and overflow
record Case : Type 0 where
  x : ℕ
  y : ℕ
  result : ℕ
  carry : Bool
  zero_flag : Bool
  sign : Bool
  overflow : Bool

-- a case, written short
abbrev case : ℕ → ℕ → ℕ → Bool → Bool → Bool → Bool → Case
case x y result carry zero_flag sign overflow =
    record { x = x; y = y; result = result; carry = carry; zero_flag = zero_flag; sign = sign; overflow = overflow }

-- a flag that is set
abbrev yes : Bool
yes = true

-- a flag that is clear
abbrev no : Bool
no = false

-- the greatest signed number
abbrev greatest : ℕ
greatest = 9223372036854775807

-- the least signed number
abbrev least : ℕ
least = 9223372036854775808

-- -1, and the greatest unsigned number
abbrev ones : ℕ
ones = 18446744073709551615

-- RAX, RCX and RDX, and each flag set or each clear
abbrev registers : ℕ → ℕ → ℕ → Bool → Regs
registers a c d flags =
    record { gpr = a ∷ c ∷ d ∷ replicate 13 0; rip = 0; cf = flags; zf = flags; sf = flags; of = flags; mode = Mode.Program }

-- the case that a plan comes to
abbrev by_plan : ℕ → ℕ → Plan → Case
by_plan x y (Computes regs) = case x y (reg_of regs rax) regs.cf regs.zf regs.sf regs.of
by_plan x y _ = case x y 0 no no no no

-- an instruction on RAX and RCX, from each flag set or each clear
abbrev after : Bool → Instr → Case → Case
after flags instr c = by_plan c.x c.y (plan instr (registers c.x c.y 0 flags))

-- an instruction on RAX, by a number that it has itself
abbrev after_by : Bool → (ℕ → Instr) → Case → Case
after_by flags instr c = by_plan c.x c.y (plan (instr c.y) (registers c.x 0 0 flags))

-- the first number stays
abbrev unchanged : Case → Case
unchanged c = record c { result = c.x }

-- ---- Sums and differences

-- sums of edges
unfoldable sums : List Case
sums =
    case 0 0 0 no yes no no ∷
    case 0 1 1 no no no no ∷
    case 0 greatest greatest no no no no ∷
    case 0 least least no no yes no ∷
    case 0 ones ones no no yes no ∷
    case 1 0 1 no no no no ∷
    case 1 1 2 no no no no ∷
    case 1 greatest least no no yes yes ∷
    case 1 least 9223372036854775809 no no yes no ∷
    case 1 ones 0 yes yes no no ∷
    case greatest 0 greatest no no no no ∷
    case greatest 1 least no no yes yes ∷
    case greatest greatest 18446744073709551614 no no yes yes ∷
    case greatest least ones no no yes no ∷
    case greatest ones 9223372036854775806 yes no no no ∷
    case least 0 least no no yes no ∷
    case least 1 9223372036854775809 no no yes no ∷
    case least greatest ones no no yes no ∷
    case least least 0 yes yes no yes ∷
    case least ones greatest yes no no yes ∷
    case ones 0 ones no no yes no ∷
    case ones 1 0 yes yes no no ∷
    case ones greatest 9223372036854775806 yes no no no ∷
    case ones least greatest yes no no yes ∷
    case ones ones 18446744073709551614 yes no yes no ∷
    []

-- differences of edges
unfoldable differences : List Case
differences =
    case 0 0 0 no yes no no ∷
    case 0 1 ones yes no yes no ∷
    case 0 greatest 9223372036854775809 yes no yes no ∷
    case 0 least least yes no yes yes ∷
    case 0 ones 1 yes no no no ∷
    case 1 0 1 no no no no ∷
    case 1 1 0 no yes no no ∷
    case 1 greatest 9223372036854775810 yes no yes no ∷
    case 1 least 9223372036854775809 yes no yes yes ∷
    case 1 ones 2 yes no no no ∷
    case greatest 0 greatest no no no no ∷
    case greatest 1 9223372036854775806 no no no no ∷
    case greatest greatest 0 no yes no no ∷
    case greatest least ones yes no yes yes ∷
    case greatest ones least yes no yes yes ∷
    case least 0 least no no yes no ∷
    case least 1 greatest no no no yes ∷
    case least greatest 1 no no no yes ∷
    case least least 0 no yes no no ∷
    case least ones 9223372036854775809 yes no yes no ∷
    case ones 0 ones no no yes no ∷
    case ones 1 18446744073709551614 no no yes no ∷
    case ones greatest least no no yes no ∷
    case ones least greatest no no no no ∷
    case ones ones 0 no yes no no ∷
    []

-- addition, from flags that are set and from flags that are clear
add_set : map (after true (Add rax rcx)) sums ≡ sums
unfolding sums
add_set = refl

add_clear : map (after false (Add rax rcx)) sums ≡ sums
unfolding sums
add_clear = refl

-- subtraction
sub_set : map (after true (Sub rax rcx)) differences ≡ differences
unfolding differences
sub_set = refl

sub_clear : map (after false (Sub rax rcx)) differences ≡ differences
unfolding differences
sub_clear = refl

-- comparison is subtraction that keeps the number
compare_set : map (after true (Compare rax rcx)) differences ≡ map unchanged differences
unfolding differences
compare_set = refl

compare_clear : map (after false (Compare rax rcx)) differences ≡ map unchanged differences
unfolding differences
compare_clear = refl

-- ---- Bits

-- AND
unfoldable ands : List Case
ands =
    case 0 0 0 no yes no no ∷
    case 1 2 0 no yes no no ∷
    case least ones least no no yes no ∷
    case greatest least 0 no yes no no ∷
    case ones ones ones no no yes no ∷
    case 17361641481138401520 18374966859414961920 17294086455919964160 no no yes no ∷
    []

-- OR
unfoldable ors : List Case
ors =
    case 0 0 0 no yes no no ∷
    case 1 2 3 no no no no ∷
    case least ones ones no no yes no ∷
    case greatest least ones no no yes no ∷
    case ones ones ones no no yes no ∷
    case 17361641481138401520 18374966859414961920 18442521884633399280 no no yes no ∷
    []

-- XOR
unfoldable xors : List Case
xors =
    case 0 0 0 no yes no no ∷
    case 1 2 3 no no no no ∷
    case least ones greatest no no no no ∷
    case greatest least ones no no yes no ∷
    case ones ones 0 no yes no no ∷
    case 17361641481138401520 18374966859414961920 1148435428713435120 no no no no ∷
    []

-- carry and overflow are cleared
and_set : map (after true (And rax rcx)) ands ≡ ands
unfolding ands
and_set = refl

and_clear : map (after false (And rax rcx)) ands ≡ ands
unfolding ands
and_clear = refl

or_set : map (after true (Or rax rcx)) ors ≡ ors
unfolding ors
or_set = refl

or_clear : map (after false (Or rax rcx)) ors ≡ ors
unfolding ors
or_clear = refl

xor_set : map (after true (Xor rax rcx)) xors ≡ xors
unfolding xors
xor_set = refl

xor_clear : map (after false (Xor rax rcx)) xors ≡ xors
unfolding xors
xor_clear = refl

-- the test is AND that keeps the number
test_set : map (after true (Test rax rcx)) ands ≡ map unchanged ands
unfolding ands
test_set = refl

test_clear : map (after false (Test rax rcx)) ands ≡ map unchanged ands
unfolding ands
test_clear = refl

-- ---- Products

-- signed products: carry and overflow are set where one does not fit; the zero flag is kept
unfoldable products : Bool → List Case
products kept =
    case 0 ones 0 no kept no no ∷
    case 1 least least no kept yes no ∷
    case 1 ones ones no kept yes no ∷
    case ones ones 1 no kept no no ∷
    case ones least least yes kept yes yes ∷
    case least least 0 yes kept no yes ∷
    case greatest greatest 1 yes kept no yes ∷
    case greatest ones 9223372036854775809 no kept yes no ∷
    case 2 4611686018427387904 least yes kept yes yes ∷
    case 2 4611686018427387903 9223372036854775806 no kept no no ∷
    case 4294967296 2147483648 least yes kept yes yes ∷
    case 4294967296 2147483647 9223372032559808512 no kept no no ∷
    case 18446744069414584320 2147483648 least no kept yes no ∷
    case 18446744069414584320 2147483649 9223372032559808512 yes kept no yes ∷
    case 18446744069414584320 18446744071562067968 least yes kept yes yes ∷
    case 3037000499 3037000499 9223372030926249001 no kept no no ∷
    case 3037000500 3037000500 9223372037000250000 yes kept yes yes ∷
    case 4294967296 4294967296 0 yes kept no yes ∷
    []

multiply_set : map (after true (Multiply rax rcx)) (products true) ≡ (products true)
unfolding products
multiply_set = refl

multiply_clear : map (after false (Multiply rax rcx)) (products false) ≡ (products false)
unfolding products
multiply_clear = refl

-- ---- Shifts

-- to the left, by 0, 1, 63, and by 64, which is 0: a shift by 0 keeps each flag, one by more than 1 the overflow
unfoldable shifts_left : Bool → List Case
shifts_left kept =
    case 0 0 0 kept kept kept kept ∷
    case 0 1 0 no yes no no ∷
    case 0 63 0 no yes no kept ∷
    case 0 64 0 kept kept kept kept ∷
    case 1 0 1 kept kept kept kept ∷
    case 1 1 2 no no no no ∷
    case 1 63 least no no yes kept ∷
    case 1 64 1 kept kept kept kept ∷
    case 4611686018427387904 0 4611686018427387904 kept kept kept kept ∷
    case 4611686018427387904 1 least no no yes yes ∷
    case 4611686018427387904 63 0 no yes no kept ∷
    case 4611686018427387904 64 4611686018427387904 kept kept kept kept ∷
    case greatest 0 greatest kept kept kept kept ∷
    case greatest 1 18446744073709551614 no no yes yes ∷
    case greatest 63 least yes no yes kept ∷
    case greatest 64 greatest kept kept kept kept ∷
    case least 0 least kept kept kept kept ∷
    case least 1 0 yes yes no yes ∷
    case least 63 0 no yes no kept ∷
    case least 64 least kept kept kept kept ∷
    case 9223372036854775809 0 9223372036854775809 kept kept kept kept ∷
    case 9223372036854775809 1 2 yes no no yes ∷
    case 9223372036854775809 63 least no no yes kept ∷
    case 9223372036854775809 64 9223372036854775809 kept kept kept kept ∷
    case ones 0 ones kept kept kept kept ∷
    case ones 1 18446744073709551614 yes no yes no ∷
    case ones 63 least yes no yes kept ∷
    case ones 64 ones kept kept kept kept ∷
    []

-- to the right
unfoldable shifts_right : Bool → List Case
shifts_right kept =
    case 0 0 0 kept kept kept kept ∷
    case 0 1 0 no yes no no ∷
    case 0 63 0 no yes no kept ∷
    case 0 64 0 kept kept kept kept ∷
    case 1 0 1 kept kept kept kept ∷
    case 1 1 0 yes yes no no ∷
    case 1 63 0 no yes no kept ∷
    case 1 64 1 kept kept kept kept ∷
    case 2 0 2 kept kept kept kept ∷
    case 2 1 1 no no no no ∷
    case 2 63 0 no yes no kept ∷
    case 2 64 2 kept kept kept kept ∷
    case greatest 0 greatest kept kept kept kept ∷
    case greatest 1 4611686018427387903 yes no no no ∷
    case greatest 63 0 yes yes no kept ∷
    case greatest 64 greatest kept kept kept kept ∷
    case least 0 least kept kept kept kept ∷
    case least 1 4611686018427387904 no no no yes ∷
    case least 63 1 no no no kept ∷
    case least 64 least kept kept kept kept ∷
    case 9223372036854775809 0 9223372036854775809 kept kept kept kept ∷
    case 9223372036854775809 1 4611686018427387904 yes no no yes ∷
    case 9223372036854775809 63 1 no no no kept ∷
    case 9223372036854775809 64 9223372036854775809 kept kept kept kept ∷
    case ones 0 ones kept kept kept kept ∷
    case ones 1 greatest yes no no yes ∷
    case ones 63 1 yes no no kept ∷
    case ones 64 ones kept kept kept kept ∷
    []

shift_left_set : map (after_by true (ShiftLeft rax)) (shifts_left true) ≡ (shifts_left true)
unfolding shifts_left
shift_left_set = refl

shift_left_clear : map (after_by false (ShiftLeft rax)) (shifts_left false) ≡ (shifts_left false)
unfolding shifts_left
shift_left_clear = refl

shift_right_set : map (after_by true (ShiftRight rax)) (shifts_right true) ≡ (shifts_right true)
unfolding shifts_right
shift_right_set = refl

shift_right_clear : map (after_by false (ShiftRight rax)) (shifts_right false) ≡ (shifts_right false)
unfolding shifts_right
shift_right_clear = refl

-- ---- Divisions

-- RDX and RAX, the divisor, and then RAX and RDX after it, or the vector
record Division : Type 0 where
  high : ℕ
  low : ℕ
  divisor : ℕ
  comes_to : List ℕ

-- a division, written short
abbrev division : ℕ → ℕ → ℕ → List ℕ → Division
division high low divisor comes_to = record { high = high; low = low; divisor = divisor; comes_to = comes_to }

-- the quotient and the remainder, or the vector
abbrev quotient : Plan → List ℕ
quotient (Computes regs) = reg_of regs rax ∷ reg_of regs rdx ∷ []
quotient (RaisesVector v) = v ∷ []
quotient _ = []

abbrev divided : Division → Division
divided d = record d { comes_to = quotient (plan (Divide rcx) (registers d.low d.divisor d.high false)) }

-- the greatest quotient is 2^64 - 1; a greater one, and a division by 0, give vector 0
unfoldable divisions : List Division
divisions =
    division 0 7 2 (3 ∷ 1 ∷ []) ∷
    division 0 0 1 (0 ∷ 0 ∷ []) ∷
    division 0 ones 1 (ones ∷ 0 ∷ []) ∷
    division 1 ones 2 (ones ∷ 1 ∷ []) ∷
    division 2 0 2 (0 ∷ []) ∷
    division 1 0 1 (0 ∷ []) ∷
    division 18446744073709551614 ones ones (ones ∷ 18446744073709551614 ∷ []) ∷
    division ones 0 ones (0 ∷ []) ∷
    division greatest ones least (ones ∷ greatest ∷ []) ∷
    division least 0 least (0 ∷ []) ∷
    division 0 ones ones (1 ∷ 0 ∷ []) ∷
    division 0 1 ones (0 ∷ 1 ∷ []) ∷
    division 0 0 0 (0 ∷ []) ∷
    division 1 5 0 (0 ∷ []) ∷
    []

divide : map divided divisions ≡ divisions
unfolding divisions
divide = refl

-- no flag changes
divide_flags : map (λ flags. by_plan 7 2 (plan (Divide rcx) (registers 7 2 0 flags))) (yes ∷ no ∷ []) ≡ case 7 2 3 yes yes yes yes ∷ case 7 2 3 no no no no ∷ []
divide_flags = refl

-- ---- Conditions

-- each setting of carry, zero, sign and overflow, the last of them changing first
abbrev settings : List Regs
settings =
    flat_map (λ c. flat_map (λ z. flat_map (λ s. map (λ o. record (registers 0 0 0 no) { cf = c; zf = z; sf = s; of = o }) (no ∷ yes ∷ [])) (no ∷ yes ∷ [])) (no ∷ yes ∷ [])) (no ∷ yes ∷ [])

-- where a condition holds
abbrev truths : Cond → List Bool
truths cond = map (is_met cond) settings

below : truths Below ≡ no ∷ no ∷ no ∷ no ∷ no ∷ no ∷ no ∷ no ∷ yes ∷ yes ∷ yes ∷ yes ∷ yes ∷ yes ∷ yes ∷ yes ∷ []
below = refl

not_below : truths NotBelow ≡ yes ∷ yes ∷ yes ∷ yes ∷ yes ∷ yes ∷ yes ∷ yes ∷ no ∷ no ∷ no ∷ no ∷ no ∷ no ∷ no ∷ no ∷ []
not_below = refl

equal : truths Equal ≡ no ∷ no ∷ no ∷ no ∷ yes ∷ yes ∷ yes ∷ yes ∷ no ∷ no ∷ no ∷ no ∷ yes ∷ yes ∷ yes ∷ yes ∷ []
equal = refl

not_equal : truths NotEqual ≡ yes ∷ yes ∷ yes ∷ yes ∷ no ∷ no ∷ no ∷ no ∷ yes ∷ yes ∷ yes ∷ yes ∷ no ∷ no ∷ no ∷ no ∷ []
not_equal = refl

less : truths Less ≡ no ∷ yes ∷ yes ∷ no ∷ no ∷ yes ∷ yes ∷ no ∷ no ∷ yes ∷ yes ∷ no ∷ no ∷ yes ∷ yes ∷ no ∷ []
less = refl

not_less : truths NotLess ≡ yes ∷ no ∷ no ∷ yes ∷ yes ∷ no ∷ no ∷ yes ∷ yes ∷ no ∷ no ∷ yes ∷ yes ∷ no ∷ no ∷ yes ∷ []
not_less = refl

not_greater : truths NotGreater ≡ no ∷ yes ∷ yes ∷ no ∷ yes ∷ yes ∷ yes ∷ yes ∷ no ∷ yes ∷ yes ∷ no ∷ yes ∷ yes ∷ yes ∷ yes ∷ []
not_greater = refl

greater : truths Greater ≡ yes ∷ no ∷ no ∷ yes ∷ no ∷ no ∷ no ∷ no ∷ yes ∷ no ∷ no ∷ yes ∷ no ∷ no ∷ no ∷ no ∷ []
greater = refl
