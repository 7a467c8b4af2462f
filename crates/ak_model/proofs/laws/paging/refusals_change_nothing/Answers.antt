use Rattle.ak_model.proofs.Paging.RefusedMoves.{change-refused, control_after-refused}
use Rattle.ak_model.proofs.laws.paging.refusals_change_nothing.Goals as goal

pub returns : goal.returns
returns c = record { history = change-refused; control = control_after-refused }
