use Rattle.ak_image.proofs.Fields.{tcs}
use Rattle.ak_image.proofs.laws.numbers_of_tcs.Goals as goal

pub returns : goal.returns
returns c n few = tcs n few
