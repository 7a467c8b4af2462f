-- An instruction accesses pages of the program alone.
use Rattle.std.proofs.Common.{◌≡◌, ℕ, zero, suc, ◌+◌, ◌-◌, ◌*◌, ◌/◌, ◌%◌, ◌^◌, ◌<◌, ◌≤◌, List, [], ◌∷◌, ◌++◌, length, arith, refl, subst}
use Rattle.std.specs.Prelude.{Bool, true, false, if◌then◌else◌, Some, slice_get, nat_lt, nat_le, ◌==◌}
use Rattle.std.proofs.lemmas.Bool.{and_parts, leb-true, ltb-true}
use Rattle.ak_core.specs.Layout.{Layout}
use Rattle.ak_core.specs.Mem.{Access, access_to}
use Rattle.ak_core.specs.declared.registers.Regs.{Regs}
use Rattle.ak_core.specs.declared.page.Kind.{Kind}
use Rattle.ak_core.specs.declared.page.Kind.TheVariants.{Read, Write, Exec}
use Rattle.ak_core.specs.declared.instruction.Instr.{Instr}
use Rattle.ak_core.specs.declared.instruction.Instr.TheVariants.{MovImm, MovTo, MovFrom, Store, Load, StoreByte, LoadByte, Add, Sub, And, Or, Xor, Compare, Test, Multiply, ShiftLeft, ShiftRight, Divide, Jump, CallNear, JumpIf, Return, Push, Pop, Nop, Undefined, Enclu}
use Rattle.ak_core.specs.declared.instruction.Decoded.{Decoded}
use Rattle.ak_core.specs.declared.instruction.Decoded.TheVariants.{Whole, NeedMore, Illegal}
use Rattle.ak_model.specs.Paging.Pages.{pages}
use Rattle.ak_model.specs.Flat.Instructions.{Plan, RaisesVector, Computes, Reads, Writes, CallsOut, plan, divide, reg_of, with_reg, rax, rcx, rdx, rsi, rdi}
use Rattle.ak_model.specs.Flat.Encodings.{decode}
use Rattle.ak_model.specs.Flat.FlatRuns.{Flat, line_of, Vector, page_at, is_program, operand_accesses, if_operand, carry_out, straddling, in_first_page, line, rest_of_page, page_bytes}
use Rattle.ak_model.proofs.Paging.Tests.{either_way}

-- an operand has a byte
abbrev HasByte : Plan → Type 0
HasByte (Reads address count regs) = 1 ≤ count
HasByte (Writes address new regs) = 1 ≤ length new
HasByte _ = Unit {0}

divide_byte : (regs : Regs) (n d : ℕ) → HasByte (divide regs n d)
divide_byte regs n zero = tt
divide_byte regs n (suc d) = either_way HasByte (nat_lt (n / suc d) (2 ^ 64)) (Computes (with_reg (with_reg regs rax (n / suc d)) rdx (n % suc d))) (RaisesVector 0) tt tt

plan_byte : (instr : Instr) (regs : Regs) → HasByte (plan instr regs)
plan_byte (MovImm reg imm) regs = tt
plan_byte (MovTo rm reg) regs = tt
plan_byte (MovFrom reg rm) regs = tt
plan_byte (Store rm disp reg) regs = omega arith
plan_byte (Load reg rm disp) regs = omega arith
plan_byte (StoreByte rm disp reg) regs = omega arith
plan_byte (LoadByte reg rm disp) regs = omega arith
plan_byte (Add rm reg) regs = tt
plan_byte (Sub rm reg) regs = tt
plan_byte (And rm reg) regs = tt
plan_byte (Or rm reg) regs = tt
plan_byte (Xor rm reg) regs = tt
plan_byte (Compare rm reg) regs = tt
plan_byte (Test rm reg) regs = tt
plan_byte (Multiply reg rm) regs = tt
plan_byte (ShiftLeft rm by) regs = tt
plan_byte (ShiftRight rm by) regs = tt
plan_byte (Divide rm) regs = divide_byte regs (reg_of regs rdx * 2 ^ 64 + reg_of regs rax) (reg_of regs rm)
plan_byte (Jump rel) regs = tt
plan_byte (CallNear rel) regs = omega arith
plan_byte (JumpIf cond rel) regs = tt
plan_byte Return regs = omega arith
plan_byte (Push reg) regs = omega arith
plan_byte (Pop reg) regs = omega arith
plan_byte Nop regs = tt
plan_byte Undefined regs = tt
plan_byte Enclu regs = either_way HasByte (reg_of regs rax % 2 ^ 32 == 4) (CallsOut (reg_of regs rdi) (reg_of regs rsi) (with_reg regs rcx regs.rip)) (RaisesVector 13) tt tt

module _ (layout : Layout) where
  -- each access is of a page of the program
  abbrev pub AllLow : List Access → Type 0
  AllLow [] = Unit {0}
  AllLow (t ∷ all) = (t.page.0 < pages layout) × AllLow all

  append_low : (xs ys : List Access) → AllLow xs → AllLow ys → AllLow (xs ++ ys)
  append_low [] ys h k = k
  append_low (x ∷ xs) ys h k = (h.0, append_low xs ys h.1 k)

  low_page : (x n : ℕ) → x - layout.base < 4096 * n → page_at layout x < n
  low_page x n h = omega arith

  program_page : (address count x : ℕ) → is_program layout address count ≡ true → address ≤ x → x + 1 ≤ address + count → page_at layout x < pages layout
  program_page address count x h up l =
      let parts = and_parts (nat_le layout.base address) (nat_le (address + count) (layout.base + 4096 * pages layout)) h in
      let below = leb-true (address + count) (layout.base + 4096 * pages layout) parts.1 in
      let above = leb-true layout.base address parts.0 in
      low_page x (pages layout) (omega arith)

  operand_low : (accesses : List Access) (address count : ℕ) (kind : Kind) (flat : Flat) (b : Bool) → is_program layout address count ≡ b → 1 ≤ count → AllLow accesses → AllLow (if_operand layout accesses address count kind flat).accesses
  operand_low accesses address count kind flat true e some h =
      let first = program_page address count address e (omega arith) (omega arith) in
      let last = program_page address count (address + count - 1) e (omega arith) (omega arith) in
      rw e (append_low accesses (operand_accesses layout address count kind) h (either_way AllLow (page_at layout address == page_at layout (address + count - 1)) (access_to (page_at layout address) kind ∷ []) (access_to (page_at layout address) kind ∷ access_to (page_at layout (address + count - 1)) kind ∷ []) (first, tt) (first, (last, tt))))
  operand_low accesses address count kind flat false e some h = rw e h

  carry_low : (flat : Flat) (accesses : List Access) (p : Plan) → HasByte p → AllLow accesses → AllLow (carry_out layout flat accesses p).accesses
  carry_low flat accesses (RaisesVector v) b h = h
  carry_low flat accesses (Computes regs) b h = h
  carry_low flat accesses (CallsOut n a regs) b h = h
  carry_low flat accesses (Reads address count regs) b h = operand_low accesses address count Read _ (is_program layout address count) refl b h
  carry_low flat accesses (Writes address new regs) b h = operand_low accesses address (length new) Write _ (is_program layout address (length new)) refl b h

  straddling_low : (flat : Flat) (accesses : List Access) (d : Decoded) → AllLow accesses → AllLow (straddling layout flat accesses d).accesses
  straddling_low flat accesses (Whole instr size) h = carry_low flat accesses _ (plan_byte instr _) h
  straddling_low flat accesses NeedMore h = h
  straddling_low flat accesses Illegal h = h

  more_by : (flat : Flat) (p : ℕ) (b : Bool) → nat_lt (suc p) (pages layout) ≡ b → p < pages layout → AllLow (if b then straddling layout flat (access_to p Exec ∷ access_to (suc p) Exec ∷ []) (decode (rest_of_page layout flat p ++ page_bytes flat (suc p))) else line_of (access_to p Exec ∷ []) (Vector 13)).accesses
  more_by flat p true e l = straddling_low flat _ (decode (rest_of_page layout flat p ++ page_bytes flat (suc p))) (l, (ltb-true (suc p) (pages layout) e, tt))
  more_by flat p false e l = (l, tt)

  first_low : (flat : Flat) (p : ℕ) (d : Decoded) → p < pages layout → AllLow (in_first_page layout flat p d).accesses
  first_low flat p (Whole instr size) l = carry_low flat (access_to p Exec ∷ []) _ (plan_byte instr _) (l, tt)
  first_low flat p Illegal l = (l, tt)
  first_low flat p NeedMore l = more_by flat p (nat_lt (suc p) (pages layout)) refl l

  line_by : (flat : Flat) (b : Bool) → is_program layout flat.regs.rip 1 ≡ b → AllLow (if b then in_first_page layout flat (page_at layout flat.regs.rip) (decode (rest_of_page layout flat (page_at layout flat.regs.rip))) else line_of [] (Vector 13)).accesses
  line_by flat true e = first_low flat (page_at layout flat.regs.rip) (decode (rest_of_page layout flat (page_at layout flat.regs.rip))) (program_page flat.regs.rip 1 flat.regs.rip e (omega arith) (omega arith))
  line_by flat false e = tt

  -- each access of an instruction is of a page of the program
  pub line_low : (flat : Flat) → AllLow (line layout flat).accesses
  line_low flat = line_by flat (is_program layout flat.regs.rip 1) refl

  -- and so is the one at a place
  pub low_at : (all : List Access) (place : ℕ) (t : Access) → AllLow all → slice_get all place ≡ Some t → t.page.0 < pages layout
  low_at [] place t h e = absurd (cc)
  low_at (x ∷ all) zero t h e = let same : x ≡ t = cc in subst (λ y. y.page.0 < pages layout) same h.0
  low_at (x ∷ all) (suc place) t h e = low_at all place t h.1 e
