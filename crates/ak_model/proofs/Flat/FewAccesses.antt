-- No instruction makes more than four accesses.
use Rattle.std.proofs.Common.{ℕ, suc, ◌+◌, ◌-◌, ◌≤◌, List, [], ◌∷◌, length, length-append, arith}
use Rattle.std.specs.Prelude.{Bool, true, false, if◌then◌else◌, nat_lt, ◌==◌}
use Rattle.ak_core.specs.Layout.{Layout}
use Rattle.ak_core.specs.Mem.{Access, access_to}
use Rattle.ak_core.specs.declared.page.Kind.{Kind}
use Rattle.ak_core.specs.declared.page.Kind.TheVariants.{Read, Write, Exec}
use Rattle.ak_core.specs.declared.instruction.Decoded.{Decoded}
use Rattle.ak_core.specs.declared.instruction.Decoded.TheVariants.{Whole, NeedMore, Illegal}
use Rattle.ak_model.specs.Paging.Pages.{pages}
use Rattle.ak_model.specs.Flat.Instructions.{Plan, RaisesVector, Computes, Reads, Writes, CallsOut, plan}
use Rattle.ak_model.specs.Flat.FlatRuns.{Flat, Line, page_at, is_program, operand_accesses, if_operand, carry_out, straddling, in_first_page, line}
use Rattle.ak_model.proofs.Paging.Tests.{either_way}

-- a line with at most so many accesses
AtMost : ℕ → Line → Type 0
AtMost n l = length l.accesses ≤ n

either_few : (n : ℕ) (b : Bool) (xs ys : List Access) → length xs ≤ n → length ys ≤ n → length (if b then xs else ys) ≤ n
either_few n true xs ys h k = h
either_few n false xs ys h k = k

operand_few : (layout : Layout) (address count : ℕ) (kind : Kind) → length (operand_accesses layout address count kind) ≤ 2
operand_few layout address count kind = either_few 2 (page_at layout address == page_at layout (address + count - 1)) _ _ (omega arith) (omega arith)

operand_most : (layout : Layout) (accesses : List Access) (address count : ℕ) (kind : Kind) (flat : Flat) → AtMost (length accesses + 2) (if_operand layout accesses address count kind flat)
unfolding AtMost
operand_most layout accesses address count kind flat =
    either_way (AtMost (length accesses + 2)) (is_program layout address count) _ _
    (let few = operand_few layout address count kind in omega (arith, length-append accesses (operand_accesses layout address count kind)))
    (omega arith)

carry_most : (layout : Layout) (flat : Flat) (accesses : List Access) (p : Plan) → AtMost (length accesses + 2) (carry_out layout flat accesses p)
unfolding AtMost
carry_most layout flat accesses (RaisesVector v) = omega arith
carry_most layout flat accesses (Computes regs) = omega arith
carry_most layout flat accesses (CallsOut b a regs) = omega arith
carry_most layout flat accesses (Reads address count regs) = operand_most layout accesses address count Read _
carry_most layout flat accesses (Writes address new regs) = operand_most layout accesses address (length new) Write _

straddling_most : (layout : Layout) (flat : Flat) (p q : ℕ) (d : Decoded) → AtMost 4 (straddling layout flat (access_to p Exec ∷ access_to q Exec ∷ []) d)
unfolding AtMost
straddling_most layout flat p q (Whole instr size) = carry_most layout flat (access_to p Exec ∷ access_to q Exec ∷ []) _
straddling_most layout flat p q NeedMore = omega arith
straddling_most layout flat p q Illegal = omega arith

first_most : (layout : Layout) (flat : Flat) (p : ℕ) (d : Decoded) → AtMost 4 (in_first_page layout flat p d)
unfolding AtMost
first_most layout flat p (Whole instr size) =
    let three = carry_most layout flat (access_to p Exec ∷ []) (plan instr (record flat.regs { rip = flat.regs.rip + size })) in omega arith
first_most layout flat p Illegal = omega arith
first_most layout flat p NeedMore =
    either_way (AtMost 4) (nat_lt (suc p) (pages layout)) _ _ (straddling_most layout flat p (suc p) _) (omega arith)

pub few_accesses : (layout : Layout) (flat : Flat) → length (line layout flat).accesses ≤ 4
unfolding AtMost
few_accesses layout flat =
    either_way (AtMost 4) (is_program layout flat.regs.rip 1) _ _ (first_most layout flat _ _) (omega arith)
