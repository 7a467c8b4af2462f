use Rattle.ak_relation.proofs.Flat.WrittenRuns.{at_all, step_keeps}
use Rattle.ak_relation.proofs.laws.program.pages_written.Goals as goal

pub returns : goal.returns
returns c = record {
  sizes = at_all;
  keeps = step_keeps;
}
