use Rattle.ak_model.proofs.Misses.Granted.{granted-none, granted-completes, granted-not, granted-same}
use Rattle.ak_model.proofs.Tapes.EarlierTurns.{turns-earlier}
use Rattle.ak_model.proofs.laws.misses.accesses_granted.Goals as goal

pub returns : goal.returns
returns c = record {
  none = granted-none;
  more = granted-completes;
  no_more = granted-not;
  same = granted-same;
  earlier = turns-earlier;
}
