-- Instructions that ask nothing of memory.
use Rattle.ak_core.specs.declared.instruction.Instr.{Instr}
use Rattle.ak_core.specs.declared.instruction.Instr.TheVariants.{Store, Load, StoreByte, LoadByte, Divide, Jump, CallNear, JumpIf, Return, Push, Pop, Undefined, Enclu}

-- an instruction that asks nothing of memory
abbrev pub AsksNoMemory : Instr → Type 0
AsksNoMemory (Store rm disp reg) = ⊥
AsksNoMemory (Load reg rm disp) = ⊥
AsksNoMemory (StoreByte rm disp reg) = ⊥
AsksNoMemory (LoadByte reg rm disp) = ⊥
AsksNoMemory (CallNear rel) = ⊥
AsksNoMemory Return = ⊥
AsksNoMemory (Push reg) = ⊥
AsksNoMemory (Pop reg) = ⊥
AsksNoMemory _ = Unit {0}

-- of these, one that always computes registers and goes on after itself
abbrev pub GoesOn : Instr → Type 0
GoesOn (Divide rm) = ⊥
GoesOn (Jump rel) = ⊥
GoesOn (JumpIf cond rel) = ⊥
GoesOn Undefined = ⊥
GoesOn Enclu = ⊥
GoesOn instr = AsksNoMemory instr
