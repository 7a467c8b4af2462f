use Rattle.ak_model.proofs.Flat.FewAccesses.{few_accesses}
use Rattle.ak_model.proofs.laws.flat.few_accesses.Goals as goal

pub returns : goal.returns
returns c = few_accesses
