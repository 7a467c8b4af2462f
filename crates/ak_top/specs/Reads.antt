-- What the reading of a file, or of a command's files, came to.
use Rattle.std.specs.Prelude.{◌≡◌, ◌⊎◌, ℕ, Bool, true, false, IsTrue, List, [], ◌∷◌, ◌++◌, Option, Some, Result, Ok, Err, nat_lt}
use Rattle.ak_outside.specs.Causes.{one_more}
use Rattle.ak_words.specs.Asked.{AskedTexts}
use Rattle.ak_top.specs.Seen.{FilesState, Contents, contents_of, IsSeen, AreSeen}
use Rattle.ak_top.specs.Inputs.{limit, asked_in}
use Rattle.ak_top.specs.declared.trouble.Trouble.{Trouble}
use Rattle.ak_top.specs.declared.trouble.Trouble.TheVariants.{Usage, ReadFailed, TooLong, WriteFailed, OutOfMemory}

-- what was due was given, or memory ran out
abbrev pub IsDue : {A : Type 0} → Result A Trouble → Result A Trouble → Type 0
IsDue wanted given = (given ≡ wanted) ⊎ (given ≡ Err OutOfMemory)

-- a file that is too long
abbrev pub is_long : Trouble → Bool
is_long (TooLong place) = true
is_long _ = false

-- it ended at such a file
abbrev pub is_too_long : {A : Type 0} → Result A Trouble → Bool
is_too_long (Ok x) = false
is_too_long (Err trouble) = is_long trouble

-- a trouble of the words or of the sink, and not of files
abbrev pub is_foreign : Trouble → Bool
is_foreign Usage = true
is_foreign WriteFailed = true
is_foreign _ = false

-- it ended at such a trouble
abbrev pub is_of_others : {A : Type 0} → Result A Trouble → Bool
is_of_others (Ok x) = false
is_of_others (Err trouble) = is_foreign trouble

-- by a trouble, the count of the files' faults grew by one where a file could not be read, and else stayed; where memory
-- ran out, one or the other
abbrev pub CountsAt : Trouble → ℕ → ℕ → Type 0
CountsAt (ReadFailed place) before now = now ≡ one_more before
CountsAt OutOfMemory before now = (now ≡ before) ⊎ (now ≡ one_more before)
CountsAt _ before now = now ≡ before

-- the same by what was given
abbrev pub CountsBy : {A : Type 0} → Result A Trouble → ℕ → ℕ → Type 0
CountsBy (Ok x) before now = now ≡ before
CountsBy (Err trouble) before now = CountsAt trouble before now

-- ---- One file

-- the name was asked for
abbrev pub Asked : List ℕ → List (List ℕ) → List (List ℕ) → Type 0
Asked name asked asked' = asked' ≡ asked ++ name ∷ []

-- the same up to a trouble; where memory ran out perhaps not
abbrev pub AskedAt : Trouble → List ℕ → List (List ℕ) → List (List ℕ) → Type 0
AskedAt OutOfMemory name asked asked' = Asked name asked asked' ⊎ (asked' ≡ asked)
AskedAt _ name asked asked' = Asked name asked asked'

abbrev pub AsksFor : {A : Type 0} → Result A Trouble → List ℕ → List (List ℕ) → List (List ℕ) → Type 0
AsksFor (Ok x) name asked asked' = Asked name asked asked'
AsksFor (Err trouble) name asked asked' = AskedAt trouble name asked asked'

-- a file was asked for: what it says was given
pub record ReadsFile {A : Type 0} (said : Option (List ℕ) → Result A Trouble) (name : List ℕ) (files files' : FilesState) (given : Result A Trouble) : Type 0 where
  pub seen : Option (List ℕ)
  pub sees : IsTrue files.tells → IsSeen files.faults files'.faults (files.content name) seen
  pub due : IsDue (said seen) given
  pub counts : CountsBy given files.faults files'.faults
  pub long : is_too_long given ≡ nat_lt limit files'.handed
  pub own : is_of_others given ≡ false
  pub asked : IsTrue files.tells → AsksFor given name files.asked files'.asked
  pub content : files'.content ≡ files.content
  pub tells : files'.tells ≡ files.tells

-- ---- A command's files

-- the first of the names that were due were asked for, and no others
pub record AsksFront (due asked asked' : List (List ℕ)) : Type 0 where
  pub front : List (List ℕ)
  pub rest : List (List ℕ)
  pub whole : front ++ rest ≡ due
  pub more : asked' ≡ asked ++ front

-- the names that were due were asked for
abbrev pub AsksDue : Option AskedTexts → Contents → List (List ℕ) → List (List ℕ) → Type 0
AsksDue command seen asked asked' = asked' ≡ asked ++ asked_in command seen

-- the same up to a trouble; where memory ran out, perhaps only the first of them
abbrev pub AsksUpTo : Trouble → Option AskedTexts → Contents → List (List ℕ) → List (List ℕ) → Type 0
AsksUpTo OutOfMemory command seen asked asked' = AsksFront (asked_in command seen) asked asked'
AsksUpTo _ command seen asked asked' = AsksDue command seen asked asked'

abbrev pub AsksBy : {A : Type 0} → Result A Trouble → Option AskedTexts → Contents → List (List ℕ) → List (List ℕ) → Type 0
AsksBy (Ok x) command seen asked asked' = AsksDue command seen asked asked'
AsksBy (Err trouble) command seen asked asked' = AsksUpTo trouble command seen asked asked'

-- a command's files were asked for: what they say was given
pub record Reads {A : Type 0} (said : Contents → Result A Trouble) (command : AskedTexts) (files files' : FilesState) (given : Result A Trouble) : Type 0 where
  pub seen : Contents
  pub sees : IsTrue files.tells → AreSeen files.faults files'.faults (contents_of files.content (Some command)) seen
  pub due : IsDue (said seen) given
  pub counts : CountsBy given files.faults files'.faults
  pub long : is_too_long given ≡ nat_lt limit files'.handed
  pub own : is_of_others given ≡ false
  pub asked : IsTrue files.tells → AsksBy given (Some command) seen files.asked files'.asked
