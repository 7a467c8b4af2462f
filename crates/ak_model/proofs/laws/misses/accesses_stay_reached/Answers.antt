use Rattle.ak_model.proofs.Tapes.RunComesToTurns.{stay-reached}
use Rattle.ak_model.proofs.laws.misses.accesses_stay_reached.Goals as goal

pub returns : goal.returns
returns c image layout journal more flat reached = stay-reached image layout journal flat more reached
