use Rattle.ak_relation.proofs.Runs.NamedMoves.{still_names, exit_names, other_names}
use Rattle.ak_relation.proofs.laws.causes.move_causes.Goals as goal

pub returns : goal.returns
returns c = record {
  still = λ layout lp old new all event known within t. still_names layout lp old known within all new event t;
  exits = λ layout lp old mid new n all exit first second both outcome known within lt t last one. exit_names layout lp old known within n all mid new exit first second both outcome lt t last one;
  others = λ layout old new m a event none t. other_names layout old new m a event none t;
}
