use Rattle.ak_model.proofs.Tapes.EqualAnswers.{same_answers}
use Rattle.ak_model.proofs.laws.tapes.same_answers.Goals as goal

pub returns : goal.returns
returns c = same_answers
