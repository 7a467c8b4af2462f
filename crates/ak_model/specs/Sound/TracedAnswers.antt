-- The part of soundness on answers: they are a function of the layout, the moves and the events.
use Rattle.std.specs.Prelude.{◌≡◌, []}
use Rattle.ak_core.specs.Layout.{Layout}
use Rattle.ak_core.specs.Journal.{Journal}
use Rattle.ak_model.specs.Control.Trace.{answers}
use Rattle.ak_model.specs.Tapes.LastMoment.{last_moment}

-- the journal's answers are those of the trace of its moves and events, and all events were taken
pub record AnswersAreTraced (layout : Layout) (journal : Journal) : Type 0 where
  pub answered : journal.answers ≡ answers (last_moment layout journal)
  pub taken : (last_moment layout journal).control.rest ≡ []
