use Rattle.ak_relation.proofs.Exits.ExitTurns.{break_turns, miss_turns}
use Rattle.ak_relation.proofs.laws.program.fault_turns.Goals as goal

pub returns : goal.returns
returns c = record {
  breaks = λ layout lp old new access valid mode. break_turns layout valid lp old new mode access;
  misses = λ layout lp old new access valid mode. miss_turns layout valid lp old new mode access;
}
