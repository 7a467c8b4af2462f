use Rattle.ak_measure.proofs.BlockContents.{same_enclave}
use Rattle.ak_measure.proofs.laws.blocks_tell_the_enclave.Goals as goal

pub returns : goal.returns
returns c = same_enclave
