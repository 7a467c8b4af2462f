-- Laws of flat runs: an instruction keeps the number of registers and the mode, so that each state has sixteen and the program's
-- mode; and a call leaves its number, its argument and its return address in registers, and all bytes as they were.
use Rattle.std.proofs.Common.{◌≡◌, ℕ, zero, suc, ◌+◌, ◌*◌, ◌<◌, List, [], ◌∷◌, ◌++◌, length, refl, sym, ◌∙◌, subst, arith}
use Rattle.std.proofs.lemmas.List.{length-set, get_or-set_same, get_or-set_other}
use Rattle.std.specs.Prelude.{Bool, true, false, ◌^◌, ◌/◌, ◌%◌, nat_lt, Option, Some, None, ◌==◌, if◌then◌else◌}
use Rattle.std.specs.List.{list_any}
use Rattle.ak_core.specs.Layout.{Layout}
use Rattle.ak_core.specs.Mem.{Access, access_to}
use Rattle.ak_core.specs.declared.page.Kind.{Kind}
use Rattle.ak_core.specs.declared.page.Kind.TheVariants.{Read, Write, Exec}
use Rattle.ak_core.specs.declared.registers.Mode.{Mode}
use Rattle.ak_core.specs.declared.registers.Regs.{Regs}
use Rattle.ak_core.specs.declared.instruction.Instr.{Instr}
use Rattle.ak_core.specs.declared.instruction.Instr.TheVariants.{MovImm, MovTo, MovFrom, Store, Load, StoreByte, LoadByte, Add, Sub, And, Or, Xor, Compare, Test, Multiply, ShiftLeft, ShiftRight, Divide, Jump, CallNear, JumpIf, Return, Push, Pop, Nop, Undefined, Enclu}
use Rattle.ak_core.specs.declared.instruction.Decoded.{Decoded}
use Rattle.ak_core.specs.declared.instruction.Decoded.TheVariants.{Whole, NeedMore, Illegal}
use Rattle.ak_model.specs.Paging.Pages.{pages}
use Rattle.ak_model.specs.Flat.Encodings.{decode}
use Rattle.ak_model.specs.Flat.Instructions.{Plan, RaisesVector, Computes, Reads, Writes, CallsOut, plan, divide, reg_of, with_reg, shifted, rax, rcx, rdx, rsi, rdi}
use Rattle.ak_model.specs.Flat.FlatRuns.{Flat, End, Line, page_at, is_program, is_forbidden, if_operand, carry_out, straddling, rest_of_page, page_bytes, in_first_page, line, ending, FlatRun, after_call, after_ending, one_more, flat_run}

-- as many registers, and the same mode
pub record SameForm (regs other : Regs) : Type 0 where
  pub size : length regs.gpr ≡ length other.gpr
  pub mode : regs.mode ≡ other.mode

-- what a call leaves in registers
pub record IsCallForm (regs : Regs) (number argument : ℕ) : Type 0 where
  pub number_is : reg_of regs rdi ≡ number
  pub argument_is : reg_of regs rsi ≡ argument
  pub return_is : 1 < length regs.gpr → reg_of regs rcx ≡ regs.rip

-- ---- Plans

form : (regs : Regs) (i v : ℕ) → SameForm (with_reg regs i v) regs
form regs i v = record { size = length-set regs.gpr i v; mode = refl }

form_more : (regs other : Regs) (i v : ℕ) → SameForm regs other → SameForm (with_reg regs i v) other
form_more regs other i v h = record { size = length-set regs.gpr i v ∙ h.size; mode = h.mode }

-- what a plan leaves, from these registers
abbrev PlanFits : Regs → Plan → Type 0
PlanFits old (RaisesVector v) = Unit {0}
PlanFits old (Computes regs) = SameForm regs old
PlanFits old (Reads address count regs) = (v : ℕ) → SameForm (regs v) old
PlanFits old (Writes address bytes regs) = SameForm regs old
PlanFits old (CallsOut b a regs) = SameForm regs old × IsCallForm regs b a

if_fits : (old : Regs) (b : Bool) (p q : Plan) → PlanFits old p → PlanFits old q → PlanFits old (if b then p else q)
if_fits old true p q h k = h
if_fits old false p q h k = k

divide_fits : (regs : Regs) (n d : ℕ) → PlanFits regs (divide regs n d)
divide_fits regs n zero = tt
divide_fits regs n (suc d) =
    if_fits regs (nat_lt (n / suc d) (2 ^ 64)) (Computes (with_reg (with_reg regs rax (n / suc d)) rdx (n % suc d))) (RaisesVector 0)
    (form_more (with_reg regs rax (n / suc d)) regs rdx (n % suc d) (form regs rax (n / suc d))) tt

shifted_fits : (regs : Regs) (rm by result : ℕ) (carry overflow b : Bool) → (by == 0) ≡ b → SameForm (shifted regs rm by result carry overflow) regs
shifted_fits regs rm by result carry overflow true e = rw e (record { size = refl; mode = refl })
shifted_fits regs rm by result carry overflow false e = rw e (record { size = length-set regs.gpr rm result; mode = refl })

call_fits : (regs : Regs) → PlanFits regs (CallsOut (reg_of regs rdi) (reg_of regs rsi) (with_reg regs rcx regs.rip))
call_fits regs = (
  form regs rcx regs.rip,
  record {
    number_is = get_or-set_other regs.gpr 1 7 regs.rip 0 (λ e. absurd (omega arith));
    argument_is = get_or-set_other regs.gpr 1 6 regs.rip 0 (λ e. absurd (omega arith));
    return_is = λ lt. get_or-set_same regs.gpr 1 regs.rip 0 (subst (λ n. 1 < n) (length-set regs.gpr 1 regs.rip) lt);
  },
)

plan_fits : (instr : Instr) (regs : Regs) → PlanFits regs (plan instr regs)
plan_fits (MovImm reg imm) regs = form regs reg imm
plan_fits (MovTo rm reg) regs = form regs rm _
plan_fits (MovFrom reg rm) regs = form regs reg _
plan_fits (Store rm disp reg) regs = record { size = refl; mode = refl }
plan_fits (Load reg rm disp) regs = λ v. form regs reg v
plan_fits (StoreByte rm disp reg) regs = record { size = refl; mode = refl }
plan_fits (LoadByte reg rm disp) regs = λ v. form regs reg _
plan_fits (Add rm reg) regs = record { size = length-set regs.gpr rm _; mode = refl }
plan_fits (Sub rm reg) regs = record { size = length-set regs.gpr rm _; mode = refl }
plan_fits (And rm reg) regs = record { size = length-set regs.gpr rm _; mode = refl }
plan_fits (Or rm reg) regs = record { size = length-set regs.gpr rm _; mode = refl }
plan_fits (Xor rm reg) regs = record { size = length-set regs.gpr rm _; mode = refl }
plan_fits (Compare rm reg) regs = record { size = refl; mode = refl }
plan_fits (Test rm reg) regs = record { size = refl; mode = refl }
plan_fits (Multiply reg rm) regs = record { size = length-set regs.gpr reg _; mode = refl }
plan_fits (ShiftLeft rm by) regs = shifted_fits regs rm (by % 64) _ _ _ (by % 64 == 0) refl
plan_fits (ShiftRight rm by) regs = shifted_fits regs rm (by % 64) _ _ _ (by % 64 == 0) refl
plan_fits (Divide rm) regs = divide_fits regs (reg_of regs rdx * 2 ^ 64 + reg_of regs rax) (reg_of regs rm)
plan_fits (Jump rel) regs = record { size = refl; mode = refl }
plan_fits (CallNear rel) regs = record { size = length-set regs.gpr 4 _; mode = refl }
plan_fits (JumpIf cond rel) regs = record { size = refl; mode = refl }
plan_fits Return regs = λ v. record { size = length-set regs.gpr 4 _; mode = refl }
plan_fits (Push reg) regs = record { size = length-set regs.gpr 4 _; mode = refl }
plan_fits (Pop reg) regs = λ v. form_more (with_reg regs 4 _) regs reg v (form regs 4 _)
plan_fits Nop regs = record { size = refl; mode = refl }
plan_fits Undefined regs = tt
plan_fits Enclu regs = if_fits regs (reg_of regs rax % 2 ^ 32 == 4) (CallsOut (reg_of regs rdi) (reg_of regs rsi) (with_reg regs rcx regs.rip)) (RaisesVector 13) (call_fits regs) tt

-- ---- Lines

-- what an instruction leaves of a flat state
abbrev pub EndFits : Flat → End → Type 0
EndFits old (End.Next flat) = SameForm flat.regs old.regs
EndFits old (End.Call b a flat) = SameForm flat.regs old.regs × IsCallForm flat.regs b a × (flat.bytes ≡ old.bytes)
EndFits old (End.Vector v) = Unit {0}

either_fits : (old : Flat) (b : Bool) (l m : Line) → EndFits old l.end → EndFits old m.end → EndFits old (if b then l else m).end
either_fits old true l m h k = h
either_fits old false l m h k = k

module _ (layout : Layout) (old : Flat) where
  operand_fits : (accesses : List Access) (address count : ℕ) (kind : Kind) (flat : Flat) → SameForm flat.regs old.regs → EndFits old (if_operand layout accesses address count kind flat).end
  operand_fits accesses address count kind flat h = either_fits old (is_program layout address count) _ _ h tt

  -- RIP is the next address already
  carry_fits : (accesses : List Access) (size : ℕ) (p : Plan) → PlanFits (record old.regs { rip = old.regs.rip + size }) p → EndFits old (carry_out layout old accesses p).end
  carry_fits accesses size (RaisesVector v) h = tt
  carry_fits accesses size (Computes regs) h = record { size = h.size; mode = h.mode }
  carry_fits accesses size (CallsOut b a regs) h = let same = h.0 in (record { size = same.size; mode = same.mode }, h.1, refl)
  carry_fits accesses size (Reads address count regs) h = operand_fits accesses address count Read _ (let same = h _ in record { size = same.size; mode = same.mode })
  carry_fits accesses size (Writes address new regs) h = operand_fits accesses address (length new) Write _ (record { size = h.size; mode = h.mode })

  straddling_fits : (accesses : List Access) (d : Decoded) → EndFits old (straddling layout old accesses d).end
  straddling_fits accesses (Whole instr size) = carry_fits accesses size _ (plan_fits instr _)
  straddling_fits accesses NeedMore = tt
  straddling_fits accesses Illegal = tt

  first_fits : (p : ℕ) (d : Decoded) → EndFits old (in_first_page layout old p d).end
  first_fits p (Whole instr size) = carry_fits (access_to p Exec ∷ []) size _ (plan_fits instr _)
  first_fits p Illegal = tt
  first_fits p NeedMore = either_fits old (nat_lt (suc p) (pages layout)) _ _ (straddling_fits _ (decode (rest_of_page layout old p ++ page_bytes old (suc p)))) tt

  line_fits : EndFits old (line layout old).end
  line_fits = either_fits old (is_program layout old.regs.rip 1) _ _ (first_fits (page_at layout old.regs.rip) (decode (rest_of_page layout old (page_at layout old.regs.rip)))) tt

  by_denied : (b : Bool) → EndFits old (if b then End.Vector 14 else (line layout old).end)
  by_denied true = tt
  by_denied false = line_fits

  -- what the next instruction leaves
  pub step_fits : EndFits old (ending layout old)
  step_fits = by_denied (list_any (is_forbidden layout) (line layout old).accesses)

-- ---- Runs

-- sixteen registers, in the program's mode
abbrev pub AreProgram : Regs → Type 0
AreProgram regs = (length regs.gpr ≡ 16) × (regs.mode ≡ Mode.Program)

form_by : (regs other : Regs) → SameForm regs other → AreProgram other → AreProgram regs
form_by regs other h k = (h.size ∙ k.0, h.mode ∙ k.1)

-- a run, if there is one, has them
abbrev RunFits : Option FlatRun → Type 0
RunFits None = Unit {0}
RunFits (Some run) = AreProgram run.flat.regs

module _ (layout : Layout) (image answers : List ℕ) where
  answered_form : (b : ℕ) (flat : Flat) (rest : List ℕ) → AreProgram flat.regs → RunFits (after_call b flat rest)
  answered_form zero flat rest h = tt
  answered_form (suc b) flat [] h = tt
  answered_form (suc b) flat (v ∷ rest) h = form_by (with_reg flat.regs rax v) flat.regs (form flat.regs rax v) h

  ended_form : (old : Flat) (end : End) (rest : List ℕ) → EndFits old end → AreProgram old.regs → RunFits (after_ending end rest)
  ended_form old (End.Next flat) rest h k = form_by flat.regs old.regs h k
  ended_form old (End.Call b a flat) rest h k = answered_form b flat rest (form_by flat.regs old.regs h.0 k)
  ended_form old (End.Vector v) rest h k = tt

  more_form : (o : Option FlatRun) → RunFits o → RunFits (one_more layout o)
  more_form None h = tt
  more_form (Some run) h = ended_form run.flat (ending layout run.flat) run.answers (step_fits layout run.flat) h

  run_form : (i : ℕ) → RunFits (flat_run layout image answers i)
  run_form zero = (refl, refl)
  run_form (suc i) = more_form (flat_run layout image answers i) (run_form i)

  -- each state of a run has them
  pub program_form : (i : ℕ) (run : FlatRun) → flat_run layout image answers i ≡ Some run → AreProgram run.flat.regs
  program_form i run e = subst RunFits e (run_form i)

-- ---- After a call

-- the registers after a call
pub record IsCall (number argument : ℕ) (regs : Regs) : Type 0 where
  pub program : AreProgram regs
  pub rip : regs.rip ≡ reg_of regs rcx
  pub number_is : reg_of regs rdi ≡ number
  pub argument_is : reg_of regs rsi ≡ argument

-- the registers after an instruction of the program
abbrev pub IsProgramEnd : End → Type 0
IsProgramEnd (End.Next flat) = AreProgram flat.regs
IsProgramEnd (End.Call b a flat) = IsCall b a flat.regs
IsProgramEnd (End.Vector v) = Unit {0}

end_by : (old : Flat) (end : End) → EndFits old end → AreProgram old.regs → IsProgramEnd end
end_by old (End.Next flat) fits h = form_by flat.regs old.regs fits h
end_by old (End.Call b a flat) fits h =
    let form = fits.0 in let call = fits.1 in let size = form.size in let sixteen = h.0 in
    record {
      program = form_by flat.regs old.regs form h;
      rip = sym (call.return_is (omega arith));
      number_is = call.number_is;
      argument_is = call.argument_is;
    }
end_by old (End.Vector v) fits h = tt

-- the next instruction keeps them
pub program_end : (layout : Layout) (flat : Flat) → AreProgram flat.regs → IsProgramEnd (ending layout flat)
program_end layout flat h = end_by flat (ending layout flat) (step_fits layout flat) h
