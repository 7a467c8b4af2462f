-- A whole journal of the honest kernel, whose one miss is served: the law on such journals speaks of it, and it comes to its end.
use Rattle.std.proofs.Common.{◌≡◌, [], arith, refl}
use Rattle.std.specs.Prelude.{true}
use Rattle.ak_model.specs.Tapes.LastMoment.{last_moment}
use Rattle.ak_model.proofs.Rows.Samples.{image_a}
use Rattle.ak_model.proofs.Rows.WorkedFlat.{bytes_a}
use Rattle.ak_model.proofs.Rows.ServedMiss.{served, served_sound}
use Rattle.ak_driver.specs.EndingExits.{last_is_result}
use Rattle.ak_driver.specs.HonestRuns.{IsHonestJournal}

honest_journal : IsHonestJournal bytes_a image_a served []
unfolding served
honest_journal = record {
  sound = served_sound;
  roomy = record { room = omega arith };
  driven = (refl, (refl, (refl, (refl, (refl, (refl, (refl, (refl, (refl, (refl, (refl, (refl, tt))))))))))));
}

ended : last_is_result (last_moment image_a served).past ≡ true
unfolding served
ended = refl
