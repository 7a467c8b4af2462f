use Rattle.ak_model.proofs.Tapes.CountedBreaks.{breaks-taken, at_most_one, exactly_one}
use Rattle.ak_model.proofs.laws.tapes.one_break.Goals as goal

pub returns : goal.returns
returns c = record {
  taken = breaks-taken;
  at_most = at_most_one;
  exactly = exactly_one;
}
