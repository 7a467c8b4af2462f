-- What a turn of the program leaves as it was, or a part of one, and what a turn's end tells.
use Rattle.std.specs.Prelude.{◌≡◌}
use Rattle.ak_core.specs.declared.memory.Mem.{Ghosts as IsMem}
use Rattle.ak_core.specs.declared.registers.Regs.{Regs}
use Rattle.ak_exec.specs.Turns.{IfIncomplete, IsVector, KeepsUnwritten, refused_by}
use Rattle.ak_exec.specs.declared.turn.Turn.{Turn}

-- what the memory keeps, which pages are held, and the bytes stay
pub record SameMemory {M : Type 0} (is : IsMem M) (old new : M) : Type 0 where
  pub holds : is.holds new ≡ is.holds old
  pub keeps : is.keeps old new
  pub bytes : is.bytes new ≡ is.bytes old

-- what the memory keeps, which pages are held, and the mode stay, and so do the bytes of a page that was not touched for
-- writing; where no instruction is completed, registers and bytes stay too. The end tells the access that was refused, if one
-- was, and a vector that there is
pub record EndsTurn {M : Type 0} (is : IsMem M) (turn : Turn) (old new : M) (regs regs' : Regs) : Type 0 where
  pub holds : is.holds new ≡ is.holds old
  pub keeps : is.keeps old new
  pub mode : regs'.mode ≡ regs.mode
  pub vector : IsVector turn
  pub refused : is.refused new ≡ refused_by turn
  pub same_registers : IfIncomplete turn (regs' ≡ regs)
  pub same_bytes : IfIncomplete turn (is.bytes new ≡ is.bytes old)
  pub unwritten : KeepsUnwritten (is.granted new) (is.bytes old) (is.bytes new)
