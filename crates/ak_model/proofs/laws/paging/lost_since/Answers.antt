use Rattle.ak_model.proofs.Paging.LostAccess.{lost_since, lost_some}
use Rattle.ak_model.proofs.laws.paging.lost_since.Goals as goal

pub returns : goal.returns
returns c = record { since = lost_since; some = lost_some }
