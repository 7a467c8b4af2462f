use Rattle.ak_relation.proofs.Entering.EnterAnswers.{walk_same, tcs_same}
use Rattle.ak_relation.proofs.laws.entering.walks_agree.Goals as goal

pub returns : goal.returns
returns c = record {
  page = walk_same;
  tcs = tcs_same;
}
