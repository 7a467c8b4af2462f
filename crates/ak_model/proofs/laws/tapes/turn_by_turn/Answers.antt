use Rattle.ak_model.proofs.Tapes.TurnByTurn.{program-goes, program-leaves, runtime-goes, runtime-leaves}
use Rattle.ak_model.proofs.laws.tapes.turn_by_turn.Goals as goal

pub returns : goal.returns
returns c = record {
  program_goes = program-goes;
  program_leaves = program-leaves;
  runtime_goes = runtime-goes;
  runtime_leaves = runtime-leaves;
}
