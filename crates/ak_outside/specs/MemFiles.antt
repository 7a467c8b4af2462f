-- What files in memory tell.
use Rattle.std.specs.Prelude.{ℕ, Bool, ◌||◌, ◌≡◌, ◌≢◌, ◌≤◌, ◌<◌, List, length, map, Option, Some, is_none, string_bytes, Vec, Result, Ok, Err, true, false}
use Rattle.std.specs.Option.{option_map}
use Rattle.std.specs.BTreeMap.{get_by_text}
use Rattle.std.specs.declared.alloc.Global.{Global}
use Rattle.ak_outside.specs.Causes.{one_more}
use Rattle.ak_outside.specs.Calls.{is_failing as is_failing_call}
use Rattle.ak_outside.specs.declared.memory_files.MemFiles.{MemFiles}
use Rattle.ak_outside.specs.declared.files.FilesFault.{FilesFault}
use Rattle.ak_outside.specs.declared.files.FilesFault.TheVariants.{Failed, TooLong, OutOfMemory}
use Rattle.ak_outside.specs.Reads.{held_length}

-- the bytes that a name holds
abbrev pub content_of : MemFiles → List ℕ → Option (List ℕ)
content_of files name = option_map (λ bytes. bytes.items) (get_by_text files.held name)

-- the names asked so far
abbrev pub asked_of : MemFiles → List (List ℕ)
asked_of files = map string_bytes files.asked.items

-- how many reads were made
abbrev pub calls_of : MemFiles → ℕ
calls_of files = files.calls.made

-- whether the read of this number was made to fail
abbrev pub is_failing : MemFiles → ℕ → Bool
is_failing files call = is_failing_call files.calls call

-- how often a read failed
abbrev pub faults_of : MemFiles → ℕ
faults_of files = files.faults

-- how many bytes the last read handed over
abbrev pub handed_of : MemFiles → ℕ
handed_of files = files.handed

-- whether the next read fails, if it names this: its call was made to fail, or the name is missing
abbrev pub next_fails : MemFiles → List ℕ → Bool
next_fails files name = is_failing files (one_more (calls_of files)) || is_none (content_of files name)

-- the name holds these bytes, and each other name what it held
pub record PutsFile (old new : MemFiles) (name bytes : List ℕ) : Type 0 where
  pub put : content_of new name ≡ Some bytes
  pub others : (other : List ℕ) → other ≢ name → content_of new other ≡ content_of old other

-- no read was made
pub record KeepsAccount (old new : MemFiles) : Type 0 where
  pub asked : asked_of new ≡ asked_of old
  pub calls : calls_of new ≡ calls_of old
  pub faults : faults_of new ≡ faults_of old
  pub handed : handed_of new ≡ handed_of old

-- what an answer says of whether the read was to fail, and of what the name holds; memory may run out at any read
abbrev pub Answers : Bool → Option (List ℕ) → ℕ → Result (Vec ℕ Global) FilesFault → Type 0
Answers fails held limit (Ok bytes) = (fails ≡ false) × (held ≡ Some bytes.items) × (length bytes.items ≤ limit)
Answers fails held limit (Err Failed) = fails ≡ true
Answers fails held limit (Err TooLong) = (fails ≡ false) × (limit < held_length held)
Answers fails held limit (Err OutOfMemory) = Unit {0}
