use Rattle.ak_image.proofs.Lengths.{length-page_bytes}
use Rattle.ak_image.proofs.laws.pages_are_whole.Goals as goal

pub returns : goal.returns
returns c image p whole within = length-page_bytes image p whole within
