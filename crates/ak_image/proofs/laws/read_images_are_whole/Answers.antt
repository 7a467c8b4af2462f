use Rattle.ak_image.proofs.Whole.{whole_image}
use Rattle.ak_image.proofs.laws.read_images_are_whole.Goals as goal

pub returns : goal.returns
returns c bytes image h = whole_image bytes image h
