use Rattle.ak_relation.proofs.Runs.WholeRuns.{still_moves, exit_moves}
use Rattle.ak_relation.proofs.laws.runs.run_moves.Goals as goal

pub returns : goal.returns
returns c = record {
  still = λ layout lp old new all event known within t. still_moves layout lp old known within all new event t;
  exits = λ layout lp old mid new n all exit first second both known within lt t last one. exit_moves layout lp old known within n all mid new exit first second both lt t last one;
}
