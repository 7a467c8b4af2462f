-- The journal of a faithful run is sound.
use Rattle.std.proofs.Common.{ℕ, List}
use Rattle.ak_model.specs.Sound.SoundJournal.{Sound}
use Rattle.ak_relation.proofs.Runs.TracedMoves.{moves_are_traced}
use Rattle.ak_relation.proofs.Runs.SoundJournals.{sound}
use Rattle.ak_relation.proofs.Runs.TracedStops.{is_stopped}
use Rattle.ak_run.specs.Runs.{Faithful, RunParts}

pub faithful_sound : (image : List ℕ) (run : RunParts) → Faithful image run → Sound image run.machine.layout run.journal
faithful_sound image run f =
    let layout = run.machine.layout in
    let journal = run.journal in
    sound layout image f.past f.state journal f.keeps.has (moves_are_traced layout image f.past f.state journal.events f.keeps.has.moved) f.names
    (is_stopped layout image f.past f.state journal f.keeps.has f.keeps.keeps)
