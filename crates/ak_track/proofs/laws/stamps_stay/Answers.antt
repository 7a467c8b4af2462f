use Rattle.std.proofs.Common.{◌∙◌, arith}
use Rattle.ak_track.proofs.Places.{counted_more}
use Rattle.ak_track.proofs.laws.stamps_stay.Goals as goal

pub returns : goal.returns
returns c = λ stamp lps steps place step h. record {
  within = let before = h.within in omega arith;
  count = counted_more lps place steps step h.within ∙ h.count;
}
