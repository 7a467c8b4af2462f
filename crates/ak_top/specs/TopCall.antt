-- The contract of the top call.
use Rattle.std.specs.Prelude.{◌≡◌, ℕ, ◌<◌, ◌⊎◌, IsTrue, Option, true, false, Some, None, Result, Ok, Err}
use Rattle.ak_core.specs.declared.event.Stop.{Stop}
use Rattle.ak_outside.specs.Causes.{Rose}
use Rattle.ak_words.specs.Asked.{AskedTexts, Demo}
use Rattle.ak_top.specs.Seen.{FilesState, SinkState, Contents, contents_of, reads_files, AreSeen}
use Rattle.ak_top.specs.Inputs.{limit, Task, Report, Digest, Summary, task_in}
use Rattle.ak_top.specs.Reads.{CountsBy, AsksBy}
use Rattle.ak_top.specs.Ends.{Ends}
use Rattle.ak_top.specs.Told.{Told}
use Rattle.ak_top.specs.Trouble.{status_of, line_of}
use Rattle.ak_top.specs.declared.left.Left.{Left}
use Rattle.ak_top.specs.declared.left.Left.TheVariants.{Nothing, Run}
use Rattle.ak_top.specs.declared.trouble.Trouble.{Trouble}

-- the status of a text that was written: 10 where the enclave of its journal stopped, and 0 else
abbrev pub status_stopped : Option Stop → ℕ
status_stopped (Some stop) = 10
status_stopped None = 0

-- the same by what is left
abbrev pub status_left : Left → ℕ
status_left (Run run) = status_stopped run.journal.stop
status_left Nothing = 0

-- the status of an ending: that of what it leaves, or that of the trouble
abbrev pub status_by : Result Left Trouble → ℕ
status_by (Ok left) = status_left left
status_by (Err trouble) = status_of trouble

-- what is left by an ending: nothing at a trouble
abbrev pub left_by : Result Left Trouble → Left
left_by (Ok left) = left
left_by (Err trouble) = Nothing

-- what the sink for errors took: it was let alone, or took the line of the trouble, or a front of it at a fault
abbrev pub Tells : Result Left Trouble → Option AskedTexts → SinkState → SinkState → Type 0
Tells (Ok left) command err err' = err' ≡ err
Tells (Err trouble) command err err' = Told err err' (line_of trouble command)

-- the status may be that of this task, or is that of this trouble
abbrev pub IsStatusOf : Result Task Trouble → ℕ → Type 0
IsStatusOf (Ok (Report layout inputs)) status = (status ≡ 0) ⊎ (status ≡ 10)
IsStatusOf (Ok (Digest image)) status = status ≡ 0
IsStatusOf (Ok (Summary number)) status = status ≡ 0
IsStatusOf (Err trouble) status = status ≡ status_of trouble

-- what a call that gave this status did, with the command that its words give
pub record Serves (status : ℕ) (command : Option AskedTexts) (files files' : FilesState) (out out' err err' : SinkState) (left : Left) : Type 0 where
  -- what was seen of the command's files: where they tell it, what they hold, or nothing of a file where a fault rose
  pub seen : Contents
  pub sees : IsTrue files.tells → AreSeen files.faults files'.faults (contents_of files.content command) seen
  -- the call ended with a text that was to be written by what was seen, or with the first trouble in it; or the sink failed,
  -- or memory ran out
  pub ending : Result Left Trouble
  pub ends : Ends ending (task_in command seen) out out'
  pub status_is : status ≡ status_by ending
  pub left_is : left ≡ left_by ending
  pub tells : Tells ending command err err'
  -- the names that were asked are those that were due, in order
  pub asked : IsTrue files.tells → AsksBy ending command seen files.asked files'.asked
  -- 2 comes exactly where the words give no command, or memory ran out at them
  pub usage : status ≡ 2 → command ≡ None
  pub unused : command ≡ None → (status ≡ 2) ⊎ (status ≡ 7)
  -- nothing is read there, nor by a command that reads no files
  pub unread : reads_files command ≡ false → files' ≡ files
  -- the count of the files' faults grew by one where a file could not be read, and else stayed; where memory ran out either
  pub counts : CountsBy ending files.faults files'.faults
  -- 5 comes only where it rose
  pub read : status ≡ 5 → Rose files.faults files'.faults
  -- 8 comes exactly where a command reads files and the last that was asked handed over more than a file may have, or memory ran out
  -- before any was asked
  pub long : status ≡ 8 → (reads_files command ≡ true) × (limit < files'.handed)
  pub too_long : reads_files command ≡ true → limit < files'.handed → (status ≡ 8) ⊎ ((status ≡ 7) × (files' ≡ files))
  -- a demo ends with its summary, or where the sink fails or memory runs out: its enclave never stops
  pub demo : (number : ℕ) → command ≡ Some (Demo number) → ((status ≡ 0) ⊎ (status ≡ 6)) ⊎ (status ≡ 7)
  -- where no fault rises, the status is one of what the files hold, or memory ran out
  pub complete : IsTrue files.tells → (Rose files.faults files'.faults → ⊥) → (Rose out.faults out'.faults → ⊥) →
      IsStatusOf (task_in command (contents_of files.content command)) status ⊎ (status ≡ 7)
