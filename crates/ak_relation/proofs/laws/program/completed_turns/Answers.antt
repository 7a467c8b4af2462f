use Rattle.ak_relation.proofs.Program.CallMoves.{call_turns}
use Rattle.ak_relation.proofs.Program.ComputedTurns.{computed_turns}
use Rattle.ak_relation.proofs.laws.program.completed_turns.Goals as goal

pub returns : goal.returns
returns c = record {
  calls = call_turns;
  computes = computed_turns;
}
