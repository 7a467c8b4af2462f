use Rattle.ak_gen.proofs.Wholeness.{generated-whole}
use Rattle.ak_gen.proofs.laws.generated_images_are_whole.Goals as goal

pub returns : goal.returns
returns c = generated-whole
