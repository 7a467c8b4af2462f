use Rattle.ak_model.proofs.Paging.DescendingCycles.{cycles-descend, tracked-leading}
use Rattle.ak_model.proofs.laws.paging.cycles_descend.Goals as goal

pub returns : goal.returns
returns c = record {
  descend = cycles-descend;
  since = tracked-leading;
}
