use Rattle.ak_ssa.proofs.RegistersReturn.{regs_back}
use Rattle.ak_ssa.proofs.FramesReturn.{why_back}
use Rattle.ak_ssa.proofs.laws.saved_returns.Goals as goal

pub returns : goal.returns
returns c = record { registers = regs_back; noted = why_back }
