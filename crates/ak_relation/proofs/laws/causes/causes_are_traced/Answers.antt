use Rattle.ak_relation.proofs.Runs.TracedCauses.{named_by}
use Rattle.ak_relation.proofs.laws.causes.causes_are_traced.Goals as goal

pub returns : goal.returns
returns c = λ layout image past state events outcomes valid moved. named_by layout image valid past state events outcomes moved
