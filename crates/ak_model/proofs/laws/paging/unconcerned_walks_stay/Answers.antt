use Rattle.ak_model.proofs.Paging.ConcernedPages.{walkable-unconcerned, tcs-unconcerned}
use Rattle.ak_model.proofs.laws.paging.unconcerned_walks_stay.Goals as goal

pub returns : goal.returns
returns c = record {
  page = walkable-unconcerned;
  tcs = tcs-unconcerned;
}
