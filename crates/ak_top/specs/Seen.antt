-- Files and sinks at a moment, and what a command sees of its files.
use Rattle.std.specs.Prelude.{◌≡◌, ℕ, ◌⊎◌, Bool, true, false, List, Option, Some, None}
use Rattle.ak_outside.specs.Causes.{Rose}
use Rattle.ak_outside.specs.declared.files.Files.{Ghosts as IsFiles}
use Rattle.ak_outside.specs.declared.sink.Sink.{Ghosts as IsSink}
use Rattle.ak_words.specs.Asked.{AskedTexts, Run, Measure, Demo}

-- files at a moment: what is said of content and names counts only where they tell
pub record FilesState : Type 0 where
  pub tells : Bool
  pub content : List ℕ → Option (List ℕ)
  pub asked : List (List ℕ)
  pub faults : ℕ
  pub handed : ℕ  -- by the last read

abbrev pub files_at : {F : Type 0} → IsFiles F → F → FilesState
files_at is files =
    record { tells = is.tells files; content = is.content files; asked = is.asked files; faults = is.faults files; handed = is.handed files }

-- a sink at a moment: what it took so far, where it tells that
pub record SinkState : Type 0 where
  pub taken : Option (List ℕ)
  pub faults : ℕ

abbrev pub sink_at : {S : Type 0} → IsSink S → S → SinkState
sink_at is sink = record { taken = is.taken sink; faults = is.faults sink }

-- ---- A command's files

-- the bytes of each of a command's files, where it has the file and its name holds some
pub record Contents : Type 0 where
  pub image : Option (List ℕ)
  pub signers : Option (List ℕ)
  pub script : Option (List ℕ)

-- what the names of a command hold
abbrev pub contents_of : (List ℕ → Option (List ℕ)) → Option AskedTexts → Contents
contents_of content None = record { image = None; signers = None; script = None }
contents_of content (Some (Run names)) = record { image = content names.image; signers = content names.signers; script = content names.script }
contents_of content (Some (Measure image)) = record { image = content image; signers = None; script = None }
contents_of content (Some (Demo number)) = record { image = None; signers = None; script = None }

-- it is a command that reads files
abbrev pub reads_files : Option AskedTexts → Bool
reads_files None = false
reads_files (Some (Run names)) = true
reads_files (Some (Measure image)) = true
reads_files (Some (Demo number)) = false

-- what was seen of a file, of what its name holds: all of it, or nothing where a fault rose
abbrev pub IsSeen : ℕ → ℕ → Option (List ℕ) → Option (List ℕ) → Type 0
IsSeen before now held seen = (seen ≡ held) ⊎ ((seen ≡ None) × Rose before now)

-- the same of a command's files
pub record AreSeen (before now : ℕ) (held seen : Contents) : Type 0 where
  pub image : IsSeen before now held.image seen.image
  pub signers : IsSeen before now held.signers seen.signers
  pub script : IsSeen before now held.script seen.script
