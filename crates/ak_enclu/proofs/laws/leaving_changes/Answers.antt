use Rattle.ak_enclu.proofs.Left.{saves, quits}
use Rattle.ak_enclu.proofs.laws.leaving_changes.Goals as goal

pub returns : goal.returns
returns c = record {
  saves = λ layout state cpu table encls new saved pending cause h m few says words fits to. saves layout state cpu table encls new saved pending cause h m to few says words fits;
  quits = λ layout state cpu table encls new m rest steps. quits layout state cpu table encls new m rest steps;
}
