use Rattle.ak_relation.proofs.Runs.StayingBreaks.{breaks_stay}
use Rattle.ak_relation.proofs.laws.journals.breaks_stay_named.Goals as goal

pub returns : goal.returns
returns c = breaks_stay
