use Rattle.ak_relation.proofs.Runtime.Allowed.{may_step}
use Rattle.ak_relation.proofs.laws.runtime.steps_are_defined.Goals as goal

pub returns : goal.returns
returns c = λ layout image past control turns state lp holds bytes stands within memory context step now. may_step layout image past control turns state stands lp within holds bytes memory context step now
