use Rattle.ak_measure.proofs.KnownNames.{Decides-knows, Decides-allows}
use Rattle.ak_measure.proofs.laws.membership.Goals as goal

pub returns-clause-known : goal.returns-clause-known
returns-clause-known c = Decides-knows

pub returns-clause-allowed : goal.returns-clause-allowed
returns-clause-allowed c = Decides-allows
