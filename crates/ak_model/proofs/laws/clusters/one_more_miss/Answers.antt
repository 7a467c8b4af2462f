use Rattle.ak_model.proofs.Clusters.FewestLeave.{queue_after-more}
use Rattle.ak_model.proofs.laws.clusters.one_more_miss.Goals as goal

pub returns : goal.returns
returns c = queue_after-more
