use Rattle.ak_model.proofs.Misses.KeptBySet.{kept_same}
use Rattle.ak_model.proofs.laws.misses.same_accesses_keep_the_same.Goals as goal

pub returns : goal.returns
returns c = kept_same
