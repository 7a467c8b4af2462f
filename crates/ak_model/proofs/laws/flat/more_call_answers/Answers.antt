use Rattle.ak_model.proofs.Flat.MoreCallAnswers.{flat_run-longer}
use Rattle.ak_model.proofs.laws.flat.more_call_answers.Goals as goal

pub returns : goal.returns
returns c layout image answers more i run h = flat_run-longer layout image more answers i run h
