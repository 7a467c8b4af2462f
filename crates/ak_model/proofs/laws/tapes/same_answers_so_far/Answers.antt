use Rattle.ak_model.proofs.Tapes.EqualAnswers.{same_past}
use Rattle.ak_model.proofs.laws.tapes.same_answers_so_far.Goals as goal

pub returns : goal.returns
returns c = same_past
