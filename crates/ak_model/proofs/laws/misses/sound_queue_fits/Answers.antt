use Rattle.ak_model.specs.Tapes.LastMoment.{runs_of}
use Rattle.ak_model.specs.Sound.Forced.{turns_of}
use Rattle.ak_model.proofs.Clusters.QueuesFit.{each_fits}
use Rattle.ak_model.proofs.laws.misses.sound_queue_fits.Goals as goal

pub returns : goal.returns
returns c image layout journal sound =
    each_fits layout sound.valid (runs_of layout image journal) (turns_of layout journal) sound.misses.turns_miss
