-- An instruction leaves registers of 64 bits, from registers of 64 bits and from bytes.
use Rattle.std.proofs.Common.{◌≡◌, ℕ, zero, suc, ◌+◌, ◌-◌, ◌*◌, ◌/◌, ◌%◌, ◌^◌, ◌<◌, ◌≤◌, List, [], ◌∷◌, length, arith, refl, sym, ◌∙◌, subst}
use Rattle.std.proofs.lemmas.List.{length-set}
use Rattle.std.proofs.lemmas.Bool.{ltb-true}
use Rattle.std.proofs.lemmas.List.Elements.{All-cons, All-nil}
use Rattle.std.proofs.lemmas.Nat.{or_lt, xor_lt}
use Rattle.std.proofs.Math.Nat.{mod-lt, div-le_self}
use Rattle.std.specs.Int.Bits.{and_lt}
use Rattle.std.specs.Prelude.{Bool, true, false, if◌then◌else◌, nat_lt, ◌==◌, slice_index, slice_set, ℤ, pos, negsuc}
use Rattle.ak_core.specs.declared.registers.Regs.{Regs}
use Rattle.ak_core.specs.declared.instruction.Instr.{Instr}
use Rattle.ak_core.specs.declared.instruction.Instr.TheVariants.{MovImm, MovTo, MovFrom, Store, Load, StoreByte, LoadByte, Add, Sub, And, Or, Xor, Compare, Test, Multiply, ShiftLeft, ShiftRight, Divide, Jump, CallNear, JumpIf, Return, Push, Pop, Nop, Undefined, Enclu}
use Rattle.ak_model.specs.Flat.Instructions.{Plan, RaisesVector, Computes, Reads, Writes, CallsOut, plan, divide, shifted, reg_of, with_reg, moved, is_met, le_bytes, rax, rcx, rdx, rsp, rsi, rdi}
use Rattle.ak_ssa.specs.SavedRegisters.{AreWords, AreRegs}
use Rattle.ak_relation.specs.Program.FlatFits.{AreBytes}
use Rattle.ak_relation.proofs.Flat.Immediates.{ImmediateFits}

-- ---- Registers

words_set : (xs : List ℕ) (i v : ℕ) → AreWords xs → v < 2 ^ 64 → AreWords (slice_set xs i v)
words_set [] i v h lt = tt
words_set (x ∷ xs) zero v h lt = (lt, h.1)
words_set (x ∷ xs) (suc i) v h lt = (h.0, words_set xs i v h.1 lt)

words_get : (xs : List ℕ) (i : ℕ) → AreWords xs → slice_index xs i < 2 ^ 64
words_get [] i h = omega arith
words_get (x ∷ xs) zero h = h.0
words_get (x ∷ xs) (suc i) h = words_get xs i h.1

-- each register
pub word_of : (regs : Regs) (i : ℕ) → AreRegs regs → reg_of regs i < 2 ^ 64
word_of regs i h = words_get regs.gpr i h.words

-- one with a new value
pub set_words : (regs : Regs) (i v : ℕ) → AreRegs regs → v < 2 ^ 64 → AreRegs (with_reg regs i v)
set_words regs i v h lt = record { sixteen = length-set regs.gpr i v ∙ h.sixteen; words = words_set regs.gpr i v h.words lt; rip = h.rip }

-- the same sixteen, with other flags
flagged : (regs other : Regs) → AreRegs regs → other.gpr ≡ regs.gpr → other.rip ≡ regs.rip → AreRegs other
flagged regs other h g r = record {
  sixteen = subst (λ xs. length xs ≡ 16) (sym g) h.sixteen;
  words = subst AreWords (sym g) h.words;
  rip = subst (λ x. x < 2 ^ 64) (sym r) h.rip;
}

-- another address
at_rip : (regs : Regs) (rip : ℕ) → AreRegs regs → rip < 2 ^ 64 → AreRegs (record regs { rip = rip })
at_rip regs rip h lt = record { sixteen = h.sixteen; words = h.words; rip = lt }

mod_word : (n : ℕ) → n % 2 ^ 64 < 2 ^ 64
mod_word n = omega arith

moved_word : (x : ℕ) (by : ℤ) → moved x by < 2 ^ 64
moved_word x (pos n) = omega arith
moved_word x (negsuc n) = omega arith

-- ---- Plans

-- what a plan leaves is of 64 bits, and what it writes are bytes
abbrev pub PlanWords : Plan → Type 0
PlanWords (RaisesVector v) = Unit {0}
PlanWords (Computes regs) = AreRegs regs
PlanWords (Reads address count regs) = (count ≤ 8) × ((v : ℕ) → v < 256 ^ count → AreRegs (regs v))
PlanWords (Writes address new regs) = AreBytes new × AreRegs regs
PlanWords (CallsOut b a regs) = AreRegs regs

pub bytes_of : (n v : ℕ) → AreBytes (le_bytes n v)
bytes_of zero v = All-nil (λ x. x < 256)
bytes_of (suc n) v = All-cons (λ x. x < 256) (v % 256) (le_bytes n (v / 256)) (omega arith) (bytes_of n (v / 256))

if_words : (b : Bool) (p q : Plan) → (b ≡ true → PlanWords p) → PlanWords q → PlanWords (if b then p else q)
if_words true p q h k = h refl
if_words false p q h k = k

divide_words : (regs : Regs) (n d : ℕ) → AreRegs regs → d < 2 ^ 64 → PlanWords (divide regs n d)
divide_words regs n zero h lt = tt
divide_words regs n (suc d) h lt =
    let small : n % suc d < suc d = mod-lt n (omega arith) in
    if_words (nat_lt (n / suc d) (2 ^ 64)) (Computes (with_reg (with_reg regs rax (n / suc d)) rdx (n % suc d))) (RaisesVector 0)
    (λ e. set_words (with_reg regs rax (n / suc d)) rdx (n % suc d) (set_words regs rax (n / suc d) h (ltb-true (n / suc d) (2 ^ 64) e)) (omega arith)) tt

either_words : (b : Bool) (r s : Regs) → AreRegs r → AreRegs s → AreRegs (if b then r else s)
either_words true r s h k = h
either_words false r s h k = k

shift_words : (regs : Regs) (rm by result : ℕ) (carry overflow : Bool) → AreRegs regs → result < 2 ^ 64 → AreRegs (shifted regs rm by result carry overflow)
shift_words regs rm by result carry overflow h lt =
    either_words (by == 0) regs _ h (record { sixteen = length-set regs.gpr rm result ∙ h.sixteen; words = words_set regs.gpr rm result h.words lt; rip = h.rip })

-- a new value, and other flags
flag_set : (regs : Regs) (other : Regs) (i v : ℕ) → AreRegs regs → v < 2 ^ 64 → other.gpr ≡ slice_set regs.gpr i v → other.rip ≡ regs.rip → AreRegs other
flag_set regs other i v h lt g r = flagged (with_reg regs i v) other (set_words regs i v h lt) g r

if_rip : (b : Bool) (x y : ℕ) → x < 2 ^ 64 → y < 2 ^ 64 → (if b then x else y) < 2 ^ 64
if_rip true x y h k = h
if_rip false x y h k = k

low_byte : (x v : ℕ) → x < 2 ^ 64 → v < 256 → x / 256 * 256 + v < 2 ^ 64
low_byte x v h k = omega arith

-- every plan
pub plan_words : (instr : Instr) (regs : Regs) → ImmediateFits instr → AreRegs regs → PlanWords (plan instr regs)
plan_words (MovImm reg imm) regs f h = set_words regs reg imm h f
plan_words (MovTo rm reg) regs f h = set_words regs rm (reg_of regs reg) h (word_of regs reg h)
plan_words (MovFrom reg rm) regs f h = set_words regs reg (reg_of regs rm) h (word_of regs rm h)
plan_words (Store rm disp reg) regs f h = (bytes_of 8 (reg_of regs reg), h)
plan_words (Load reg rm disp) regs f h = (omega arith, λ v lt. set_words regs reg v h (omega arith))
plan_words (StoreByte rm disp reg) regs f h = (bytes_of 1 (reg_of regs reg), h)
plan_words (LoadByte reg rm disp) regs f h = (omega arith, λ v lt. set_words regs reg (reg_of regs reg / 256 * 256 + v) h (low_byte (reg_of regs reg) v (word_of regs reg h) (omega arith)))
plan_words (Add rm reg) regs f h = flag_set regs _ rm _ h (mod_word (reg_of regs rm + reg_of regs reg)) refl refl
plan_words (Sub rm reg) regs f h = flag_set regs _ rm _ h (mod_word (reg_of regs rm + (2 ^ 64 - reg_of regs reg))) refl refl
plan_words (And rm reg) regs f h = flag_set regs _ rm _ h (and_lt 64 (reg_of regs rm) (reg_of regs reg) (word_of regs rm h) (word_of regs reg h)) refl refl
plan_words (Or rm reg) regs f h = flag_set regs _ rm _ h (or_lt 64 (reg_of regs rm) (reg_of regs reg) (word_of regs rm h) (word_of regs reg h)) refl refl
plan_words (Xor rm reg) regs f h = flag_set regs _ rm _ h (xor_lt 64 (reg_of regs rm) (reg_of regs reg) (word_of regs rm h) (word_of regs reg h)) refl refl
plan_words (Compare rm reg) regs f h = flagged regs _ h refl refl
plan_words (Test rm reg) regs f h = flagged regs _ h refl refl
plan_words (Multiply reg rm) regs f h = flag_set regs _ reg _ h (mod_word (reg_of regs reg * reg_of regs rm)) refl refl
plan_words (ShiftLeft rm by) regs f h = shift_words regs rm (by % 64) _ _ _ h (mod_word (reg_of regs rm * 2 ^ (by % 64)))
plan_words (ShiftRight rm by) regs f h =
    let le : reg_of regs rm / 2 ^ (by % 64) ≤ reg_of regs rm = div-le_self (reg_of regs rm) (2 ^ (by % 64)) in
    let lt = word_of regs rm h in
    shift_words regs rm (by % 64) _ _ _ h (omega arith)
plan_words (Divide rm) regs f h = divide_words regs (reg_of regs rdx * 2 ^ 64 + reg_of regs rax) (reg_of regs rm) h (word_of regs rm h)
plan_words (Jump rel) regs f h = at_rip regs (moved regs.rip rel) h (moved_word regs.rip rel)
plan_words (CallNear rel) regs f h =
    (bytes_of 8 regs.rip, at_rip _ (moved regs.rip rel) (set_words regs rsp _ h (mod_word (reg_of regs rsp + (2 ^ 64 - 8)))) (moved_word regs.rip rel))
plan_words (JumpIf cond rel) regs f h = at_rip regs _ h (if_rip (is_met cond regs) (moved regs.rip rel) regs.rip (moved_word regs.rip rel) h.rip)
plan_words Return regs f h = (omega arith, λ v lt. at_rip _ v (set_words regs rsp _ h (mod_word (reg_of regs rsp + 8))) (omega arith))
plan_words (Push reg) regs f h = (bytes_of 8 (reg_of regs reg), set_words regs rsp _ h (mod_word (reg_of regs rsp + (2 ^ 64 - 8))))
plan_words (Pop reg) regs f h = (omega arith, λ v lt. set_words _ reg v (set_words regs rsp _ h (mod_word (reg_of regs rsp + 8))) (omega arith))
plan_words Nop regs f h = h
plan_words Undefined regs f h = tt
plan_words Enclu regs f h =
    if_words (reg_of regs rax % 2 ^ 32 == 4) (CallsOut (reg_of regs rdi) (reg_of regs rsi) (with_reg regs rcx regs.rip)) (RaisesVector 13) (λ e. set_words regs rcx regs.rip h h.rip) tt
