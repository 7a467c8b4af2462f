use Rattle.ak_measure.proofs.BlockLengths.{length-blocks_of}
use Rattle.ak_measure.proofs.laws.bytes_of_blocks.Goals as goal

pub returns : goal.returns
returns c = length-blocks_of
