use Rattle.ak_relation.proofs.Runs.NamedMoves.{going_names, program_names}
use Rattle.ak_relation.proofs.laws.causes.turn_causes.Goals as goal

pub returns : goal.returns
returns c = record {
  goes = λ layout lp old new event t. going_names layout lp old new event t;
  program = λ layout lp old new exit event mode t. program_names layout lp old new exit event mode t;
}
