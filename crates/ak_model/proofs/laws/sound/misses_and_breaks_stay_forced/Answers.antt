use Rattle.ak_model.specs.Tapes.LastMoment.{last_moment}
use Rattle.ak_model.specs.Sound.Forced.{turns_of}
use Rattle.ak_model.proofs.Tapes.RunComesToTurns.{comes-each}
use Rattle.ak_model.proofs.Misses.Unkept.{each-missed-longer, each-broken-unkept-longer}
use Rattle.ak_model.proofs.laws.sound.misses_and_breaks_stay_forced.Goals as goal

pub returns : goal.returns
returns c = record {
  misses = λ image. λ layout. λ journal. λ more. λ flat. λ h.
      each-missed-longer layout image (last_moment layout journal).control.returned more (turns_of layout journal) (comes-each image layout journal flat) h.turns_miss;
  breaks = λ image. λ layout. λ journal. λ more. λ flat. λ h.
      each-broken-unkept-longer layout image (last_moment layout journal).control.returned more journal.stop (turns_of layout journal) (comes-each image layout journal flat) h.turns_break;
}
