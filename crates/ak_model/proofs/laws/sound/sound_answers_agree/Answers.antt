use Rattle.std.proofs.Common.{sym, subst}
use Rattle.ak_core.specs.Layout.{Layout}
use Rattle.ak_model.specs.Sound.TracedAnswers.{AnswersAreTraced}
use Rattle.ak_model.proofs.Tapes.EqualAnswers.{same_answers}
use Rattle.ak_model.proofs.laws.sound.sound_answers_agree.Goals as goal

pub returns : goal.returns
returns c image image' layout layout' journal journal' sound sound' same moves events =
    same_answers layout journal journal' sound.answers (subst (λ (l : Layout). AnswersAreTraced l journal') (sym same) sound'.answers) moves events
