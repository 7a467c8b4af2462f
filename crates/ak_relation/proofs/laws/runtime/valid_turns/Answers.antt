use Rattle.ak_relation.proofs.Runtime.ToldSteps.{step_tells}
use Rattle.ak_relation.proofs.Runtime.ValidTurns.{valid_turns, valid_causes}
use Rattle.ak_relation.proofs.laws.runtime.valid_turns.Goals as goal

pub returns : goal.returns
returns c = record {
  turn = λ layout lp old new outcome valid s. valid_turns layout valid lp old new outcome s;
  cause = λ layout lp old new outcome valid s. valid_causes layout valid lp old new outcome s;
  notes = λ layout lp old new outcome valid s. step_tells layout valid lp old new outcome s;
}
