use Rattle.ak_model.proofs.Clusters.FewestLeave.{drops_fit, drops_least}
use Rattle.ak_model.proofs.laws.clusters.fewest_drops.Goals as goal

pub returns : goal.returns
returns c = record { fit = drops_fit; least = drops_least }
