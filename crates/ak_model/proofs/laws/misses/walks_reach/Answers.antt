use Rattle.ak_model.proofs.Misses.WalksReach.{completes-walked, traps-walked, faults-walked}
use Rattle.ak_model.proofs.laws.misses.walks_reach.Goals as goal

pub returns : goal.returns
returns c = record {
  completes = λ layout runs turn granted within e h. completes-walked layout runs turn within granted e h;
  traps = λ layout runs turn granted rest t within e h forbidden. traps-walked layout runs turn within granted rest t e h forbidden;
  faults = λ layout runs turn granted rest t within e h permitted unmapped. faults-walked layout runs turn within granted rest t e h permitted unmapped;
}
