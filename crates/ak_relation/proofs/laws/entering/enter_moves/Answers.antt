use Rattle.ak_relation.proofs.Entering.EnterMoves.{enter_moves as moves, enter_refused}
use Rattle.ak_relation.proofs.laws.entering.enter_moves.Goals as goal

pub returns : goal.returns
returns c = record {
  done = λ layout old new lp v. moves layout old lp new v;
  refused = λ layout old lp v a. enter_refused layout old lp v a;
}
