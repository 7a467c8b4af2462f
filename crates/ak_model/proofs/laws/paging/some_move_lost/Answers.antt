use Rattle.ak_model.proofs.Paging.LostBySomeMove.{lost-own}
use Rattle.ak_model.proofs.laws.paging.some_move_lost.Goals as goal

pub returns : goal.returns
returns c = lost-own
