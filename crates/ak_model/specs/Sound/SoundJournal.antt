-- A sound journal: what an enclave does under any kernel is what its program would do over memory never paged, what the kernel
-- sees is a function of its own moves and of the events, and each event is forced. (The Autarky paper, security analysis: of a
-- program's accesses the kernel learns those events alone.)
use Rattle.std.specs.Prelude.{◌≡◌, ℕ, ◌*◌, List, length}
use Rattle.ak_core.specs.Layout.{Layout, IsValid}
use Rattle.ak_core.specs.Journal.{Journal}
use Rattle.ak_model.specs.Paging.Pages.{pages}
use Rattle.ak_model.specs.Sound.Outputs.{OutputsAreFlat}
use Rattle.ak_model.specs.Sound.Events.{EventsAreFlat}
use Rattle.ak_model.specs.Sound.Forced.{AccessesAreReached}
use Rattle.ak_model.specs.Sound.ForcedMisses.{MissesAreForced}
use Rattle.ak_model.specs.Sound.BreaksAndStop.{BreaksAreForcedUnkept, IsStopped}
use Rattle.ak_model.specs.Sound.TracedAnswers.{AnswersAreTraced}

-- the journal of a run of this image is sound: the layout is valid and the image has 4096 bytes for each of its pages, and the
-- journal is sound in its outputs, its events, the accesses of what completes or traps, misses, breaks, the answers, and the stop
pub record Sound (image : List ℕ) (layout : Layout) (journal : Journal) : Type 0 where
  pub valid : IsValid layout
  pub whole : length image ≡ 4096 * pages layout
  pub outputs : OutputsAreFlat image layout journal
  pub events : EventsAreFlat image layout journal
  pub accesses : AccessesAreReached image layout journal
  pub misses : MissesAreForced image layout journal
  pub breaks : BreaksAreForcedUnkept image layout journal
  pub answers : AnswersAreTraced layout journal
  pub stop : IsStopped layout journal
