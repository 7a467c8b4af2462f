-- How a command ends: with the text that it was to write, or with a trouble.
use Rattle.std.specs.Prelude.{◌≡◌, ℕ, ◌++◌, ◌⊎◌, IsTrue, true, false, List, Some, Result, Ok, Err, codes, nat_lt}
use Rattle.hex.specs.Hex.{encode_lower}
use Rattle.ak_core.specs.Layout.{Layout}
use Rattle.ak_outside.specs.Causes.{one_more}
use Rattle.ak_outside.specs.Taken.{with_more, TakesFront}
use Rattle.ak_image.specs.Built.{digest_of}
use Rattle.ak_report.specs.Report.{report}
use Rattle.ak_report.specs.Summary.{summary}
use Rattle.ak_run.specs.Runs.{RunParts}
use Rattle.ak_words.specs.Asked.{AskedTexts}
use Rattle.ak_top.specs.Seen.{FilesState, SinkState, Contents, contents_of, reads_files, AreSeen}
use Rattle.ak_top.specs.Inputs.{limit, Task, Report, Digest, Summary, signed, task_in}
use Rattle.ak_top.specs.Reads.{CountsBy, is_too_long, AsksBy}
use Rattle.ak_top.specs.Served.{IsRunOf}
use Rattle.ak_top.specs.Demo.{IsDemoOf}
use Rattle.ak_top.specs.declared.inputs.Inputs.{Inputs}
use Rattle.ak_top.specs.declared.left.Left.{Left}
use Rattle.ak_top.specs.declared.left.Left.TheVariants.{Nothing, Run}
use Rattle.ak_top.specs.declared.trouble.Trouble.{Trouble}
use Rattle.ak_top.specs.declared.trouble.Trouble.TheVariants.{Usage, WriteFailed, OutOfMemory}

-- a digest in 64 lower-case hexadecimal digits, and a newline
abbrev pub digest_text : List ℕ → List ℕ
digest_text digest = encode_lower digest ++ codes "\n"

-- the text is the report of the journal of a run of the inputs, and that run is left; or it is the measurement of the image, and nothing
-- is left; or it is the summary of the run of the number, and that run is left
abbrev pub IsTextOf : Task → Left → List ℕ → Type 0
IsTextOf (Report layout inputs) (Run run) text = IsRunOf layout inputs run × (text ≡ report run.journal)
IsTextOf (Digest image) Nothing text = text ≡ digest_text (digest_of image)
IsTextOf (Summary number) (Run run) text = IsDemoOf number run × (text ≡ summary number run.machine.layout run.journal)
IsTextOf (Report layout inputs) Nothing text = ⊥
IsTextOf (Digest image) (Run run) text = ⊥
IsTextOf (Summary number) Nothing text = ⊥

-- the sink took a whole text that was to be written, without a fault
pub record Writes (wanted : Result Task Trouble) (left : Left) (out out' : SinkState) : Type 0 where
  pub task : Task
  pub due : wanted ≡ Ok task
  pub text : List ℕ
  pub is : IsTextOf task left text
  pub taken : out'.taken ≡ with_more out.taken text
  pub unfailed : out'.faults ≡ out.faults

-- the sink took a front of such a text, and failed
pub record WritesFront (wanted : Result Task Trouble) (out out' : SinkState) : Type 0 where
  pub task : Task
  pub due : wanted ≡ Ok task
  pub left : Left
  pub text : List ℕ
  pub is : IsTextOf task left text
  pub taken : TakesFront out.taken out'.taken text
  pub failed : out'.faults ≡ one_more out.faults

-- the trouble was due, and the sink was let alone
pub record Stops (wanted : Result Task Trouble) (trouble : Trouble) (out out' : SinkState) : Type 0 where
  pub due : wanted ≡ Err trouble
  pub still : out' ≡ out

-- how a trouble ends it: a fault of the sink, want of memory, or the first trouble in what was seen
abbrev pub EndsAt : Trouble → Result Task Trouble → SinkState → SinkState → Type 0
EndsAt WriteFailed wanted out out' = WritesFront wanted out out'
EndsAt OutOfMemory wanted out out' = out' ≡ out
EndsAt trouble wanted out out' = Stops wanted trouble out out'

-- how it ends, and what it leaves
abbrev pub Ends : Result Left Trouble → Result Task Trouble → SinkState → SinkState → Type 0
Ends (Ok left) wanted out out' = Writes wanted left out out'
Ends (Err trouble) wanted out out' = EndsAt trouble wanted out out'

-- what a command does
pub record Does (command : AskedTexts) (files files' : FilesState) (out out' : SinkState) (ending : Result Left Trouble) : Type 0 where
  pub seen : Contents
  pub sees : IsTrue files.tells → AreSeen files.faults files'.faults (contents_of files.content (Some command)) seen
  pub ends : Ends ending (task_in (Some command) seen) out out'
  pub counts : CountsBy ending files.faults files'.faults
  pub worded : ending ≡ Err Usage → ⊥
  pub long : reads_files (Some command) ≡ true → is_too_long ending ≡ nat_lt limit files'.handed
  pub short : reads_files (Some command) ≡ false → is_too_long ending ≡ false
  pub unread : reads_files (Some command) ≡ false → files' ≡ files
  pub asked : IsTrue files.tells → AsksBy ending (Some command) seen files.asked files'.asked

-- ---- Steps

-- a text was written whole and without a fault, or a front of it up to a fault, or nothing where memory ran out
abbrev pub WritesText : Result (Unit {0}) Trouble → List ℕ → SinkState → SinkState → Type 0
WritesText (Ok u) text out out' = (out'.taken ≡ with_more out.taken text) × (out'.faults ≡ out.faults)
WritesText (Err WriteFailed) text out out' = TakesFront out.taken out'.taken text × (out'.faults ≡ one_more out.faults)
WritesText (Err OutOfMemory) text out out' = out' ≡ out
WritesText (Err trouble) text out out' = ⊥

-- what the run of inputs gave: a run in this layout where the image's signer signed it, else why not; or memory ran out
abbrev pub Runs : Result RunParts Trouble → Layout → Inputs → Type 0
Runs (Ok run) layout inputs = (signed inputs ≡ Ok inputs) × IsRunOf layout inputs run
Runs (Err trouble) layout inputs = (signed inputs ≡ Err trouble) ⊎ (trouble ≡ OutOfMemory)

-- what the run of a number gave: a run of its image, or memory ran out
abbrev pub RunsDemo : Result RunParts Trouble → ℕ → Type 0
RunsDemo (Ok run) number = IsDemoOf number run
RunsDemo (Err trouble) number = trouble ≡ OutOfMemory
