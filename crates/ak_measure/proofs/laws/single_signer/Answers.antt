use Rattle.ak_measure.proofs.SingleSigner.{Decides-knows-single, Decides-allows-single}
use Rattle.ak_measure.proofs.laws.single_signer.Goals as goal

pub returns-clause-known : goal.returns-clause-known
returns-clause-known c = Decides-knows-single

pub returns-clause-allowed : goal.returns-clause-allowed
returns-clause-allowed c = Decides-allows-single
