use Rattle.ak_model.proofs.Tapes.CutTurns.{turns-cut}
use Rattle.ak_model.proofs.laws.tapes.cut_turns.Goals as goal

pub returns : goal.returns
returns c layout tape moves k h = turns-cut layout k tape moves h
