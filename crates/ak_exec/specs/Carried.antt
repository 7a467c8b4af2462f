-- A plan carried out on a memory.
use Rattle.std.specs.Prelude.{ℕ, Bool, List}
use Rattle.ak_core.specs.Layout.{Layout}
use Rattle.ak_core.specs.Mem.{Access}
use Rattle.ak_core.specs.declared.registers.Regs.{Regs}
use Rattle.ak_model.specs.Flat.Instructions.{Plan, plus, reg_of, rsp, with_reg}
use Rattle.ak_model.specs.Flat.FlatRuns.{Flat, carry_out}
use Rattle.ak_exec.specs.Turns.{Shows, DoesLine}
use Rattle.ak_exec.specs.declared.operands.Unreached.{Unreached}
use Rattle.ak_exec.specs.declared.operands.Unreached.TheVariants.{Outside, Refused}
use Rattle.ak_exec.specs.declared.turn.Turn.{Turn}
use Rattle.ak_exec.specs.declared.turn.Turn.TheVariants.{Trapped, Faulted}

-- how a turn ends whose operand was not reached
abbrev pub turn_of : Unreached → Turn
turn_of Outside = Trapped 13
turn_of (Refused fault) = Faulted fault

-- a turn does the line of a plan, for each flat state that the memory showed before, whatever its registers
abbrev pub CarriesOut : Layout → Plan → Turn → Regs → (ℕ → Bool) → (ℕ → List ℕ) → (ℕ → List ℕ) → List Access → List Access → Type 0
CarriesOut layout plan turn regs holds old new before after =
    (flat : Flat) → Shows layout holds old flat → DoesLine layout (carry_out layout flat before plan) turn regs holds new after

-- the registers with 8 bytes less on the stack
abbrev pub popped : Regs → Regs
popped regs = with_reg regs rsp (plus (reg_of regs rsp) 8)
