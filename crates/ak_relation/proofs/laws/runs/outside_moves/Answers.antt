use Rattle.ak_relation.proofs.Runs.OutsideMoves.{run_refused, interrupt_refused}
use Rattle.ak_relation.proofs.laws.runs.outside_moves.Goals as goal

pub returns : goal.returns
returns c = record {
  run = λ layout old lp n out. run_refused layout old lp out n;
  interrupt = λ layout old lp out. interrupt_refused layout old lp out;
}
