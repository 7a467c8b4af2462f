use Rattle.ak_relation.proofs.Exits.ExitTurns.{denied_turns, vector_turns}
use Rattle.ak_relation.proofs.laws.program.trap_turns.Goals as goal

pub returns : goal.returns
returns c = record {
  denied = λ layout lp old new access valid mode. denied_turns layout valid lp old new mode access;
  vector = λ layout lp old new v valid mode. vector_turns layout valid lp old new mode v;
}
