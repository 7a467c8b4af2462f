use Rattle.ak_model.proofs.Tapes.MoreValuesReturned.{completes-longer, faults-longer, break-longer, each-reached-longer, each-broken-longer}
use Rattle.ak_model.proofs.laws.misses.more_call_answers_keep_turns.Goals as goal

pub returns : goal.returns
returns c = record {
  completes = completes-longer;
  faults = faults-longer;
  breaks = break-longer;
  each_reached = each-reached-longer;
  each_broken = each-broken-longer;
}
