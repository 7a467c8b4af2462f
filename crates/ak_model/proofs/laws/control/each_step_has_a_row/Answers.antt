use Rattle.ak_model.proofs.Control.OrderlyMoments.{all_in_row}
use Rattle.ak_model.proofs.Control.OrderlyTurns.{in_row}
use Rattle.ak_model.proofs.laws.control.each_step_has_a_row.Goals as goal

pub returns : goal.returns
returns c = record {
  always = λ layout tape moves valid misses. all_in_row layout valid tape misses moves;
  orderly = λ layout so_far someone control old. in_row layout so_far someone control old;
}
