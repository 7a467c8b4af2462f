-- A machine with the journal of its moves and their stop; and what one more move makes of the journal.
use Rattle.std.specs.Prelude.{◌≡◌, ℕ, List, [], ◌∷◌, ◌++◌, Option}
use Rattle.ak_core.specs.Layout.{Layout}
use Rattle.ak_core.specs.Journal.{Journal, with_more, first_stop}
use Rattle.ak_core.specs.declared.event.Event.{Event}
use Rattle.ak_core.specs.declared.moves.Move.{Move}
use Rattle.ak_core.specs.declared.moves.Answer.{Answer}
use Rattle.ak_model.specs.Paging.Histories.{History}
use Rattle.ak_model.specs.Sound.Outputs.{shown_by}
use Rattle.ak_pager.specs.declared.turn.RtTurn.{RtTurn}
use Rattle.ak_relation.specs.State.MachineState.{State}
use Rattle.ak_relation.specs.Relation.Journals.{HasJournal}
use Rattle.ak_relation.specs.Relation.Stopping.{stop_by, KeepsStop}

-- the journal has the moves that led from the build to this machine, and their stop
pub record KeepsJournal (layout : Layout) (image : List ℕ) (past : History) (state : State) (journal : Journal) : Type 0 where
  pub has : HasJournal layout image past state journal
  pub keeps : KeepsStop layout image past state journal

-- the journal with one more move after this history: its answer, its event, the output that it shows, and the stop that its outcome
-- comes to, where there was none
pub record HasOneMore (layout : Layout) (past : History) (m : Move) (a : Answer) (event : Option Event) (outcome : RtTurn) (old new : Journal) : Type 0 where
  pub moves : new.moves ≡ old.moves ++ m ∷ []
  pub answers : new.answers ≡ old.answers ++ a ∷ []
  pub events : new.events ≡ with_more old.events event
  pub outputs : new.outputs ≡ with_more old.outputs (shown_by a)
  pub stop : new.stop ≡ first_stop old.stop (stop_by layout past outcome)
