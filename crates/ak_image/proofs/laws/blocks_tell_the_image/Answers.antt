use Rattle.ak_image.proofs.Told.{same_image}
use Rattle.ak_image.proofs.laws.blocks_tell_the_image.Goals as goal

pub returns : goal.returns
returns c image other whole other_whole same = same_image image other whole other_whole same
