use Rattle.ak_relation.proofs.Entering.EnterMoves.{resume_moves as moves, resume_refused}
use Rattle.ak_relation.proofs.laws.entering.resume_moves.Goals as goal

pub returns : goal.returns
returns c = record {
  done = λ layout old new lp. moves layout old lp new;
  refused = λ layout old lp a. resume_refused layout old lp a;
}
