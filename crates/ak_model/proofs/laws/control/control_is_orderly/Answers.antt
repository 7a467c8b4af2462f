use Rattle.ak_model.proofs.Control.OrderlyMoments.{all_orderly, trace_is_orderly}
use Rattle.ak_model.proofs.Control.OrderlyTrace.{step_fits}
use Rattle.ak_model.proofs.Control.OrderlyTurns.{turn_fits, in_program}
use Rattle.ak_model.proofs.Clusters.ValidClusters.{clusters_fit}
use Rattle.ak_model.proofs.laws.control.control_is_orderly.Goals as goal

pub returns : goal.returns
returns c = record {
  always = λ layout tape moves valid misses. trace_is_orderly layout valid tape misses moves;
  each_moment = λ layout tape moves valid misses. all_orderly layout valid tape misses moves;
  turns_keep = λ layout so_far past control valid old. turn_fits layout so_far (clusters_fit layout valid) past control old;
  moves_keep = λ layout turns moment m valid low old. step_fits layout (clusters_fit layout valid) turns moment m low old;
  in_program = λ layout so_far someone control old now. in_program layout so_far someone control old now;
}
