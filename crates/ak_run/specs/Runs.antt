-- A machine with the journal of the moves that it was given, and when that journal is the one of an image's enclave.
use Rattle.std.specs.Prelude.{◌≡◌, ℕ, ◌+◌, ◌*◌, ◌^◌, ◌<◌, ◌≤◌, List, length}
use Rattle.ak_core.specs.Journal.{Journal, SameLists}
use Rattle.ak_model.specs.Paging.Histories.{History}
use Rattle.ak_model.specs.Paging.Pages.{all_pages}
use Rattle.ak_model.specs.Sound.Forced.{turns_of}
use Rattle.ak_model.specs.Tapes.LastMoment.{runs_of}
use Rattle.ak_relation.specs.Relation.Journals.{StopNamesBreak}
use Rattle.ak_relation.specs.Relation.Keeping.{KeepsJournal}
use Rattle.ak_relation.specs.State.MachineState.{State}
use Rattle.ak_core.specs.declared.moves.Answer.{Answer}
use Rattle.ak_core.specs.declared.moves.Move.{Move}
use Rattle.ak_machine.specs.Machines.{IsState, Parts, with_spare}
use Rattle.ak_machine.specs.Moves.{Moves}
use Rattle.ak_machine.specs.declared.applied.Applied.{Applied}
use Rattle.ak_run.specs.Blaming.{Marked, Marks}

-- a run: the machine, what happened to it, how many instructions of the program were completed, the clusters that are in by the
-- misses so far, and what is kept to blame a stop
pub record RunParts : Type 0 where
  pub machine : Parts
  pub journal : Journal
  pub count : ℕ
  pub queue : List ℕ
  pub marks : Marks

-- what each run keeps, whatever its machine stands for: its numbers are bounded by how many moves there were, and there is a place for
-- each access of a page
pub record IsBounded (run : RunParts) : Type 0 where
  pub answered : length run.journal.answers ≡ length run.journal.moves
  pub counted : run.count ≤ 2 ^ 32 * length run.journal.moves
  pub given : length run.machine.encls.handles.sealed_pages < 2 ^ 31 + length run.journal.moves
  pub cycled : run.machine.encls.track.cycles < 2 ^ 62 + length run.journal.moves
  pub saved : run.marks.saved ≤ length run.journal.moves
  pub lost : length run.marks.lost ≡ 3 * all_pages run.machine.layout
  pub lost_at_fault : length run.marks.lost_at_fault ≡ 3 * all_pages run.machine.layout

-- the journal has just the moves that led from the build of the image to this machine, with their answers, events, outputs and stop,
-- and what else is kept is that of their history; a stop for an unmapped page of the program names the access that broke it
pub record Faithful (image : List ℕ) (run : RunParts) : Type 0 where
  pub past : History
  pub state : State
  pub machine : IsState run.machine state
  pub keeps : KeepsJournal run.machine.layout image past state run.journal
  pub names : StopNamesBreak run.machine.layout (runs_of run.machine.layout image run.journal) (turns_of run.machine.layout run.journal) run.journal.stop
  pub count : run.count ≡ state.count
  pub queue : run.queue ≡ state.queue
  pub marks : Marked run.machine.layout past run.marks

-- where memory ran out nothing happened, but that there may be more blank pages to spare
pub record SameRun (old new : RunParts) : Type 0 where
  pub machine : new.machine ≡ with_spare old.machine new.machine.encls.handles.spare
  pub journal : SameLists old.journal new.journal
  pub count : new.count ≡ old.count
  pub queue : new.queue ≡ old.queue
  pub marks : new.marks ≡ old.marks

-- the machine made this move, with this answer
pub record MachineMoves (before : Parts) (m : Move) (a : Answer) (after : Parts) : Type 0 where
  pub applied : Applied
  pub answer : applied.answer ≡ a
  pub moves : Moves before m applied after

-- so it did, with perhaps more blank pages to spare than before
abbrev pub MachineMovesOn : Parts → Move → Answer → Parts → Type 0
MachineMovesOn before m a after = (spare : ℕ) × MachineMoves (with_spare before spare) m a after
