use Rattle.ak_model.proofs.Paging.PagesStay.{page-stays, walked-stays, tcs-stays, reached-stays}
use Rattle.ak_model.proofs.laws.paging.page_stays.Goals as goal

pub returns : goal.returns
returns c = record { held = page-stays; walked = walked-stays; tcs = tcs-stays; reached = reached-stays }
