use Rattle.ak_ssa.proofs.RegistersReturn.{area_back}
use Rattle.ak_ssa.proofs.laws.saved_registers_return.Goals as goal

pub returns : goal.returns
returns c = area_back
