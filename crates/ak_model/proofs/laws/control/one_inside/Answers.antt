use Rattle.ak_model.proofs.Control.OneInsideTrace.{is_present}
use Rattle.ak_model.proofs.laws.control.one_inside.Goals as goal

pub returns : goal.returns
returns c = is_present
