use Rattle.ak_run.proofs.Cuts.{cut_answers, cuts_agree, none_left}
use Rattle.ak_run.proofs.laws.cut_journals_agree.Goals as goal

pub returns : goal.returns
returns c = record {
  traced = cut_answers;
  none_left = none_left;
  agree = cuts_agree;
}
