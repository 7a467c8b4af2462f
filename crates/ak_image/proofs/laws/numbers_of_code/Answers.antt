use Rattle.ak_image.proofs.CodeFields.{code}
use Rattle.ak_image.proofs.laws.numbers_of_code.Goals as goal

pub returns : goal.returns
returns c image whole = code image whole
