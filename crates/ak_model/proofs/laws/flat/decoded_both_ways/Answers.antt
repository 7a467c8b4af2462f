use Rattle.ak_model.proofs.Flat.DecodedBothWays.{decoded_both_ways}
use Rattle.ak_model.proofs.laws.flat.decoded_both_ways.Goals as goal

pub returns : goal.returns
returns c = decoded_both_ways
