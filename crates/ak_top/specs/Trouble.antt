-- Why a command ends without its text: its status, and the line that tells it.
use Rattle.std.specs.Prelude.{ℕ, List, [], ◌++◌, codes, Option, Some, None}
use Rattle.std.specs.Option.{option_map_or}
use Rattle.std.specs.Fmt.{decimal}
use Rattle.ak_core.specs.declared.failure.BuildFault.{BuildFault}
use Rattle.ak_core.specs.declared.failure.BuildFault.TheVariants.{UnknownSigner as NoSuchSigner, MeasurementNotSigned, OutOfMemory as OutOfMemoryBuild}
use Rattle.ak_outside.specs.declared.files.FilesFault.{FilesFault}
use Rattle.ak_outside.specs.declared.files.FilesFault.TheVariants.{Failed, TooLong as TooLongFile, OutOfMemory as OutOfMemoryFile}
use Rattle.ak_image.specs.declared.fault.ImageFault.{ImageFault}
use Rattle.ak_image.specs.declared.fault.ImageFault.TheVariants.{OutOfMemory as OutOfMemoryImage}
use Rattle.ak_measure.specs.declared.fault.SignersFault.{SignersFault}
use Rattle.ak_measure.specs.declared.fault.SignersFault.TheVariants.{OutOfMemory as OutOfMemorySigners}
use Rattle.ak_script.specs.declared.fault.ScriptFault.{ScriptFault}
use Rattle.ak_script.specs.declared.fault.ScriptFault.TheVariants.{Refused, OutOfMemory as OutOfMemoryScript}
use Rattle.ak_words.specs.Asked.{RunTexts, AskedTexts, Run, Measure, Demo}
use Rattle.ak_top.specs.Refusals.{image_refusal, page_of, signers_refusal, script_refusal}
use Rattle.ak_top.specs.declared.trouble.Place.{Place}
use Rattle.ak_top.specs.declared.trouble.Place.TheVariants.{Image, Signers, Script}
use Rattle.ak_top.specs.declared.trouble.Trouble.{Trouble}
use Rattle.ak_top.specs.declared.trouble.Trouble.TheVariants.{Usage, ReadFailed, TooLong, ImageRefused, SignersRefused, ScriptRefused, UnknownSigner, NotSigned, WriteFailed, OutOfMemory}

-- ---- The trouble of a fault

-- at the reading of a file
abbrev pub trouble_of_read : FilesFault → Place → Trouble
trouble_of_read Failed place = ReadFailed place
trouble_of_read TooLongFile place = TooLong place
trouble_of_read OutOfMemoryFile place = OutOfMemory

-- at the reading of an image, of signers and of a script
abbrev pub trouble_of_image : ImageFault → Trouble
trouble_of_image OutOfMemoryImage = OutOfMemory
trouble_of_image fault = ImageRefused fault

abbrev pub trouble_of_signers : SignersFault → Trouble
trouble_of_signers OutOfMemorySigners = OutOfMemory
trouble_of_signers fault = SignersRefused fault

abbrev pub trouble_of_script : ScriptFault → Trouble
trouble_of_script OutOfMemoryScript = OutOfMemory
trouble_of_script (Refused line why) = ScriptRefused line why

-- at the build
abbrev pub trouble_of_build : BuildFault → Trouble
trouble_of_build OutOfMemoryBuild = OutOfMemory
trouble_of_build NoSuchSigner = UnknownSigner
trouble_of_build MeasurementNotSigned = NotSigned

-- ---- Its status and its line

-- the status of a trouble
abbrev pub status_of : Trouble → ℕ
status_of Usage = 2
status_of (ImageRefused fault) = 3
status_of (SignersRefused fault) = 3
status_of UnknownSigner = 3
status_of NotSigned = 3
status_of (ScriptRefused line why) = 4
status_of (ReadFailed place) = 5
status_of WriteFailed = 6
status_of OutOfMemory = 7
status_of (TooLong place) = 8

-- the name of a run's file
abbrev pub name_in : Place → RunTexts → List ℕ
name_in Image run = run.image
name_in Signers run = run.signers
name_in Script run = run.script

-- the name of a command's file; without a command there is none, and a demo has none
abbrev pub name_at : Place → Option AskedTexts → List ℕ
name_at place None = []
name_at place (Some (Run run)) = name_in place run
name_at place (Some (Measure image)) = image
name_at place (Some (Demo number)) = []

-- the line's words before the place
abbrev pub head_of : Trouble → List ℕ
head_of Usage = codes "usage: autarky run IMAGE SIGNERS SCRIPT [--frames N] [--processors N] or measure IMAGE or demo NUMBER"
head_of (ReadFailed place) = codes "read failed: "
head_of (TooLong place) = codes "file too long: "
head_of (ImageRefused fault) = image_refusal fault
head_of (SignersRefused fault) = signers_refusal fault
head_of (ScriptRefused line why) = codes "script refused: line "
head_of UnknownSigner = codes "image refused: 12 unknownsigner"
head_of NotSigned = codes "image refused: 13 notsigned"
head_of WriteFailed = codes "write failed"
head_of OutOfMemory = codes "out of memory"

-- the place: a file, a page of the image, or a line of the script
abbrev pub place_of : Trouble → Option AskedTexts → List ℕ
place_of (ReadFailed place) command = name_at place command
place_of (TooLong place) command = name_at place command
place_of (ImageRefused fault) command = option_map_or (λ page. decimal page.0) (page_of fault) []
place_of (ScriptRefused line why) command = decimal line
place_of _ command = []

-- the line's words after the place
abbrev pub tail_of : Trouble → List ℕ
tail_of (ScriptRefused line why) = script_refusal why
tail_of _ = codes "\n"

-- the line that tells a trouble
unfoldable pub line_of : Trouble → Option AskedTexts → List ℕ
line_of trouble command = head_of trouble ++ place_of trouble command ++ tail_of trouble
