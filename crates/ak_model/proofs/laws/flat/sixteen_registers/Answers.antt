use Rattle.ak_model.proofs.Flat.Decoding.{decode-registers}
use Rattle.ak_model.proofs.laws.flat.sixteen_registers.Goals as goal

pub returns : goal.returns
returns c = decode-registers
