-- The misses of a sound journal fit: each is of a cluster that is out by the misses before it.
use Rattle.std.proofs.Common.{ℕ, List, [], reverse, ap, sym, ◌∙◌, subst}
use Rattle.ak_core.specs.Layout.{Layout}
use Rattle.ak_core.specs.Journal.{Journal}
use Rattle.ak_model.specs.Laws.Premises.{MissesFit}
use Rattle.ak_model.specs.Tapes.LastMoment.{runs_of}
use Rattle.ak_model.specs.Sound.Forced.{turns_of}
use Rattle.ak_model.specs.Sound.SoundJournal.{Sound}
use Rattle.ak_model.proofs.Tapes.EventsTaken.{taken, trace-taken, misses-fit}

pub sound-misses : (image : List ℕ) (layout : Layout) (journal : Journal) → Sound image layout journal → MissesFit layout [] journal.events
sound-misses image layout journal h =
    let turns = turns_of layout journal in
    subst (MissesFit layout [])
    (ap (taken turns) (sym h.answers.taken) ∙ trace-taken layout journal.events (reverse journal.moves))
    (misses-fit layout h.valid (runs_of layout image journal) turns [] h.misses.turns_miss tt)
