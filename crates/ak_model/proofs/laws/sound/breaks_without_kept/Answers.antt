use Rattle.ak_model.specs.Tapes.LastMoment.{runs_of}
use Rattle.ak_model.specs.Sound.Forced.{turns_of}
use Rattle.ak_model.proofs.Misses.Unkept.{each-broken-without}
use Rattle.ak_model.proofs.laws.sound.breaks_without_kept.Goals as goal

pub returns : goal.returns
returns c image layout journal h =
    record { turns_break = each-broken-without layout (runs_of layout image journal) journal.stop (turns_of layout journal) h.breaks.turns_break }
