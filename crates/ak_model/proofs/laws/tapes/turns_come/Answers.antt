use Rattle.ak_model.proofs.Tapes.RunComesToTurns.{comes-each}
use Rattle.ak_model.proofs.laws.tapes.turns_come.Goals as goal

pub returns : goal.returns
returns c = comes-each
