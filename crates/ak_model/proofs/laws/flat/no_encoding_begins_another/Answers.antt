use Rattle.ak_model.proofs.Flat.DecodedBothWays.{no_encoding_begins_another}
use Rattle.ak_model.proofs.laws.flat.no_encoding_begins_another.Goals as goal

pub returns : goal.returns
returns c = no_encoding_begins_another
