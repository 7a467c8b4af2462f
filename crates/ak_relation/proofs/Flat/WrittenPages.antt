-- An instruction changes only pages that it writes, and keeps the number of bytes; and a call changes none.
use Rattle.std.proofs.Common.{◌≡◌, ℕ, zero, suc, ◌+◌, ◌-◌, ◌*◌, ◌/◌, ◌%◌, ◌^◌, ◌<◌, ◌≤◌, List, [], ◌∷◌, ◌++◌, length, take, drop, arith, refl, ap, sym, ◌∙◌, subst, append_assoc, length-append}
use Rattle.std.proofs.lemmas.Bool.{and_parts, leb-true, ltb-true, ltb-false, eqb-true, eqb-false}
use Rattle.std.proofs.lemmas.List.{length-take-le, length-drop, drop-append-le, take-append-le, drop-take, take-take}
use Rattle.std.proofs.lemmas.Slice.{drop-append-drop}
use Rattle.std.specs.Prelude.{Bool, true, false, ◌&&◌, ◌||◌, if◌then◌else◌, nat_lt, nat_le, ◌==◌}
use Rattle.std.specs.List.{list_any}
use Rattle.ak_core.specs.Layout.{Layout}
use Rattle.ak_core.specs.Mem.{Access, access_to}
use Rattle.ak_core.specs.declared.registers.Regs.{Regs}
use Rattle.ak_core.specs.declared.page.Kind.TheVariants.{Read, Write}
use Rattle.ak_core.specs.declared.instruction.Instr.{Instr}
use Rattle.ak_core.specs.declared.instruction.Instr.TheVariants.{Store, StoreByte, Divide, CallNear, Push, Enclu}
use Rattle.ak_model.specs.Paging.Pages.{pages}
use Rattle.ak_model.specs.Misses.KeptTranslations.{same_access}
use Rattle.ak_model.specs.Flat.Instructions.{Plan, RaisesVector, Computes, Reads, Writes, CallsOut, plan, divide, reg_of, with_reg, le_value, rax, rcx, rdx, rsi, rdi}
use Rattle.ak_model.specs.Flat.FlatRuns.{Flat, Line, page_at, is_program, operand_accesses, bytes_at, overwrite, if_operand, carry_out}
use Rattle.ak_relation.specs.Program.FlatFits.{Unwritten, EndKeeps}

-- ---- Bytes

unless_lt : (x y : ℕ) (b : Bool) → nat_lt x y ≡ b → (x < y → ⊥) → y ≤ x
unless_lt x y true e never = absurd (never (ltb-true x y e))
unless_lt x y false e never = ltb-false x y e

module _ (bytes new : List ℕ) (place : ℕ) (room : place + length new ≤ length bytes) where
  head_length : length (take place bytes) ≡ place
  head_length = length-take-le place bytes (omega arith)

  -- as many bytes
  overwrite_length : length (overwrite bytes place new) ≡ length bytes
  overwrite_length =
      let d = length-drop (place + length new) bytes in
      let one = length-append new (drop (place + length new) bytes) in
      let two = length-append (take place bytes) (new ++ drop (place + length new) bytes) in
      let h = head_length in
      omega arith

  page_before : (p : ℕ) → 4096 * p + 4096 ≤ place → take 4096 (drop (4096 * p) (overwrite bytes place new)) ≡ take 4096 (drop (4096 * p) bytes)
  page_before p far =
      let h = head_length in
      let at : place ≡ 4096 * p + (place - 4096 * p) = omega arith in
      let d = length-drop (4096 * p) (take place bytes) in
      ap (take 4096) (drop-append-le (4096 * p) (take place bytes) (new ++ drop (place + length new) bytes) (omega arith))
      ∙ take-append-le 4096 (drop (4096 * p) (take place bytes)) (new ++ drop (place + length new) bytes) (omega arith)
      ∙ ap (λ n. take 4096 (drop (4096 * p) (take n bytes))) at
      ∙ ap (take 4096) (drop-take (4096 * p) (place - 4096 * p) bytes)
      ∙ take-take 4096 (place - 4096 * p) (drop (4096 * p) bytes) (omega arith)

  page_after : (p : ℕ) → place + length new ≤ 4096 * p → take 4096 (drop (4096 * p) (overwrite bytes place new)) ≡ take 4096 (drop (4096 * p) bytes)
  page_after p far =
      let h = head_length in
      let two = length-append (take place bytes) new in
      ap (λ xs. take 4096 (drop (4096 * p) xs)) (sym (append_assoc (take place bytes) new (drop (place + length new) bytes)))
      ∙ ap (take 4096) (drop-append-drop (place + length new) bytes (take place bytes ++ new) (4096 * p) far (omega arith))

  page_by : (p : ℕ) (b : Bool) → nat_lt (4096 * p) place ≡ b → 1 ≤ length new → length new ≤ 8 → (p ≡ place / 4096 → ⊥) → (p ≡ (place + length new - 1) / 4096 → ⊥) →
      take 4096 (drop (4096 * p) (overwrite bytes place new)) ≡ take 4096 (drop (4096 * p) bytes)
  page_by p true e some few first last =
      let lt = ltb-true (4096 * p) place e in
      page_before p (unless_lt place (4096 * p + 4096) (nat_lt place (4096 * p + 4096)) refl (λ l. first (omega arith)))
  page_by p false e some few first last =
      let le = ltb-false (4096 * p) place e in
      page_after p (unless_lt (4096 * p) (place + length new) (nat_lt (4096 * p) (place + length new)) refl (λ l. last (omega arith)))

-- ---- Accesses

first_differs : (b rest : Bool) → ((b && true) || rest) ≡ false → (b ≡ false) × (rest ≡ false)
first_differs true rest e = absurd (cc)
first_differs false rest e = (refl, e)

any_right : (f : Access → Bool) (xs ys : List Access) → list_any f (xs ++ ys) ≡ false → list_any f ys ≡ false
any_right f [] ys e = e
any_right f (x ∷ xs) ys e = any_right f xs ys (rest (f x) (list_any f (xs ++ ys)) e)
  where
    rest : (b c : Bool) → (b || c) ≡ false → c ≡ false
    rest true c e = absurd (cc)
    rest false c e = e

neither : (p q r : ℕ) (b : Bool) → (q == r) ≡ b → Unwritten (if b then access_to q Write ∷ [] else access_to q Write ∷ access_to r Write ∷ []) p → (p ≡ q → ⊥) × (p ≡ r → ⊥)
neither p q r true e h =
    let one = first_differs (p == q) false h in
    let same : q ≡ r = eqb-true q r e in
    (eqb-false p q one.0, subst (λ x. p ≡ x → ⊥) same (eqb-false p q one.0))
neither p q r false e h =
    let one = first_differs (p == q) _ h in
    let two = first_differs (p == r) false one.1 in
    (eqb-false p q one.0, eqb-false p r two.0)

-- ---- Plans

-- what is written is one byte at least, and eight at most
abbrev pub IsShort : Plan → Type 0
IsShort (Writes address new regs) = (1 ≤ length new) × (length new ≤ 8)
IsShort _ = Unit {0}

if_short : (b : Bool) (p q : Plan) → IsShort p → IsShort q → IsShort (if b then p else q)
if_short true p q h k = h
if_short false p q h k = k

divide_short : (regs : Regs) (n d : ℕ) → IsShort (divide regs n d)
divide_short regs n zero = tt
divide_short regs n (suc d) = if_short (nat_lt (n / suc d) (2 ^ 64)) (Computes (with_reg (with_reg regs rax (n / suc d)) rdx (n % suc d))) (RaisesVector 0) tt tt

-- every plan
pub plan_short : (instr : Instr) (regs : Regs) → IsShort (plan instr regs)
plan_short (Store rm disp reg) regs = (omega arith, omega arith)
plan_short (StoreByte rm disp reg) regs = (omega arith, omega arith)
plan_short (CallNear rel) regs = (omega arith, omega arith)
plan_short (Push reg) regs = (omega arith, omega arith)
plan_short (Divide rm) regs = divide_short regs (reg_of regs rdx * 2 ^ 64 + reg_of regs rax) (reg_of regs rm)
plan_short Enclu regs = if_short (reg_of regs rax % 2 ^ 32 == 4) (CallsOut (reg_of regs rdi) (reg_of regs rsi) (with_reg regs rcx regs.rip)) (RaisesVector 13) tt tt
plan_short _ regs = tt

-- ---- Lines

module _ (layout : Layout) (flat : Flat) (full : 4096 * pages layout ≤ length flat.bytes) where
  -- the same of a line
  abbrev pub LineKeeps : Line → Type 0
  LineKeeps l = EndKeeps l.accesses flat l.end

  reads_keep : (accesses : List Access) (address count : ℕ) (regs : Regs) (b : Bool) → is_program layout address count ≡ b →
      LineKeeps (if_operand layout accesses address count Read (record flat { regs = regs }))
  reads_keep accesses address count regs true e = rw e (refl, λ p u. refl)
  reads_keep accesses address count regs false e = rw e tt

  writes_keep : (accesses : List Access) (address : ℕ) (new : List ℕ) (regs : Regs) (b : Bool) → is_program layout address (length new) ≡ b → 1 ≤ length new → length new ≤ 8 →
      LineKeeps (if_operand layout accesses address (length new) Write (record { regs = regs; bytes = overwrite flat.bytes (address - layout.base) new }))
  writes_keep accesses address new regs true e some few =
      let parts = and_parts (nat_le layout.base address) (nat_le (address + length new) (layout.base + 4096 * pages layout)) e in
      let above = leb-true layout.base address parts.0 in
      let below = leb-true (address + length new) (layout.base + 4096 * pages layout) parts.1 in
      let room : address - layout.base + length new ≤ length flat.bytes = omega arith in
      let last : (address + length new - 1 - layout.base) / 4096 ≡ (address - layout.base + length new - 1) / 4096 = omega arith in
      rw e (
        overwrite_length flat.bytes new (address - layout.base) room,
        λ p u.
            let ways = neither p (page_at layout address) (page_at layout (address + length new - 1)) (page_at layout address == page_at layout (address + length new - 1)) refl
            (any_right (same_access (access_to p Write)) accesses (operand_accesses layout address (length new) Write) u) in
            page_by flat.bytes new (address - layout.base) room p (nat_lt (4096 * p) (address - layout.base)) refl some few ways.0 (λ s. ways.1 (s ∙ sym last)),
      )
  writes_keep accesses address new regs false e some few = rw e tt

  -- a plan carried out
  pub carry_keeps : (accesses : List Access) (p : Plan) → IsShort p → LineKeeps (carry_out layout flat accesses p)
  carry_keeps accesses (RaisesVector v) h = tt
  carry_keeps accesses (Computes regs) h = (refl, λ p u. refl)
  carry_keeps accesses (CallsOut n a regs) h = refl
  carry_keeps accesses (Reads address count regs) h = reads_keep accesses address count (regs (le_value (bytes_at layout flat address count))) (is_program layout address count) refl
  carry_keeps accesses (Writes address new regs) h = writes_keep accesses address new regs (is_program layout address (length new)) refl h.0 h.1
