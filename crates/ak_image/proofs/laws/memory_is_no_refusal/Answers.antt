use Rattle.ak_image.specs.Reading.{image_of}
use Rattle.ak_image.proofs.Honest.{honest, no_memory}
use Rattle.ak_image.proofs.laws.memory_is_no_refusal.Goals as goal

pub returns : goal.returns
returns c bytes = no_memory (image_of bytes) (honest bytes)
