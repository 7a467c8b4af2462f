-- A machine from its build on, with the journal of its moves; and the break that the journal's stop names.
use Rattle.std.specs.Prelude.{◌≡◌, ℕ, List, reverse, Option, Some, None}
use Rattle.ak_core.specs.Layout.{Layout}
use Rattle.ak_core.specs.Journal.{Journal}
use Rattle.ak_core.specs.declared.event.Stop.{Stop}
use Rattle.ak_core.specs.declared.event.StopCause.{StopCause}
use Rattle.ak_core.specs.declared.event.StopCause.TheVariants.{Unmapped}
use Rattle.ak_model.specs.Paging.Histories.{History}
use Rattle.ak_model.specs.Tapes.LastMoment.{FlatRuns}
use Rattle.ak_model.specs.Tapes.ProgramTurns.{ProgramTurn}
use Rattle.ak_model.specs.Sound.Outputs.{shown_outputs}
use Rattle.ak_relation.specs.State.MachineState.{State}
use Rattle.ak_relation.specs.Program.Reaching.{IsBreakBy}
use Rattle.ak_relation.specs.Relation.MoveByMove.{moves_of, answers_of, HasMoved}

-- the journal has the moves that led from the build to this machine, with their answers and their events, in order, and the outputs that
-- the answers show
pub record HasJournal (layout : Layout) (image : List ℕ) (past : History) (state : State) (journal : Journal) : Type 0 where
  pub moved : HasMoved layout image past state journal.events
  pub moves_are : journal.moves ≡ reverse (moves_of past)
  pub answers_are : journal.answers ≡ answers_of past
  pub outputs_are : journal.outputs ≡ shown_outputs journal.answers

-- a cause that says that the program's page was unmapped names an access that forced a break
abbrev pub CauseNamesBreak : Layout → FlatRuns → List ProgramTurn → StopCause → Type 0
CauseNamesBreak layout runs turns (Unmapped p kind) = IsBreakBy layout runs turns (record { page = p; kind = kind })
CauseNamesBreak layout runs turns _ = Unit {0}

-- so does a stop with such a cause
abbrev pub StopNamesBreak : Layout → FlatRuns → List ProgramTurn → Option Stop → Type 0
StopNamesBreak layout runs turns None = Unit {0}
StopNamesBreak layout runs turns (Some stop) = CauseNamesBreak layout runs turns stop.cause
