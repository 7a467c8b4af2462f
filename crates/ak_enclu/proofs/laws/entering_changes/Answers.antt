use Rattle.ak_enclu.proofs.Entered.{entered, resumed}
use Rattle.ak_enclu.proofs.laws.entering_changes.Goals as goal

pub returns : goal.returns
returns c = record {
  enter = λ layout state cpu table encls new v h m few to. entered layout state cpu table encls new h m v few to;
  resume = λ layout state cpu table encls new h m says few some to. resumed layout state cpu table encls new h m says few some to;
}
