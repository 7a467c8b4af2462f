-- What entering and leaving leave of a processor. (SDM volume 3D, EENTER.)
use Rattle.std.specs.Prelude.{ℕ}
use Rattle.ak_core.specs.declared.registers.Mode.{Mode}
use Rattle.ak_core.specs.declared.registers.Regs.{Regs}
use Rattle.ak_model.specs.Flat.FlatRuns.{zeroed}
use Rattle.ak_model.specs.Flat.Instructions.{with_reg, rax, rdi}

-- the registers at an entry, by the address of the runtime's code, how many contexts are saved, and the value from outside
abbrev pub entry_regs_at : ℕ → ℕ → ℕ → Regs
entry_regs_at address saved value = record (with_reg (with_reg (zeroed address) rax saved) rdi value) { mode = Mode.Runtime }
