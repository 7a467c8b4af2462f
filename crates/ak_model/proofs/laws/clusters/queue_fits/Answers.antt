use Rattle.ak_model.proofs.Clusters.QueuesFit.{misses_fit}
use Rattle.ak_model.specs.Laws.MissedClusters.{missed_on}
use Rattle.ak_model.proofs.laws.clusters.queue_fits.Goals as goal

pub returns : goal.returns
returns c = record {
  missed = λ layout. λ misses. λ valid. λ out. misses_fit layout valid misses out;
  taped = λ layout. λ tape. λ valid. λ fit. misses_fit layout valid (missed_on tape) fit;
}
