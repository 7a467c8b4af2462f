-- What a command's files say: the task that they give, or the first trouble.
use Rattle.std.specs.Prelude.{ℕ, List, [], ◌∷◌, length, not, Option, Some, None, Result, Ok, Err, nat_le, if◌then◌else◌}
use Rattle.std.specs.Result.{result_map_both}
use Rattle.ak_core.specs.Layout.{Layout}
use Rattle.ak_measure.specs.Stages.{◌>>=◌}
use Rattle.ak_measure.specs.Signers.{Signed, signers_of, knows, allows}
use Rattle.ak_image.specs.Image.{Image}
use Rattle.ak_image.specs.Reading.{image_of}
use Rattle.ak_image.specs.Built.{digest_of}
use Rattle.ak_script.specs.Script.{RefusedLine, Script, script_of}
use Rattle.ak_words.specs.Asked.{AskedTexts, Run, Measure, Demo}
use Rattle.ak_top.specs.Layouts.{layout_for}
use Rattle.ak_top.specs.Seen.{Contents}
use Rattle.ak_top.specs.declared.inputs.Inputs.{Inputs}
use Rattle.ak_top.specs.declared.trouble.Place.{Place}
use Rattle.ak_top.specs.declared.trouble.Place.TheVariants as place
use Rattle.ak_top.specs.declared.trouble.Trouble.{Trouble}
use Rattle.ak_top.specs.declared.trouble.Trouble.TheVariants.{Usage, ReadFailed, TooLong, ImageRefused, SignersRefused, ScriptRefused, UnknownSigner, NotSigned}

-- the most bytes that a file may have
abbrev pub limit : ℕ
limit = 8388608

-- what was read, or the trouble that a refusal is
abbrev pub or_trouble : {A E : Type 0} → (E → Trouble) → Result A E → Result A Trouble
or_trouble trouble result = result_map_both (λ x. x) trouble result

-- ---- Each file

-- the trouble of a refused script
abbrev pub script_trouble : RefusedLine → Trouble
script_trouble refused = ScriptRefused refused.line refused.why

-- the bytes of a file, where they are there and not too many
abbrev pub bytes_in : Place → Option (List ℕ) → Result (List ℕ) Trouble
bytes_in file None = Err (ReadFailed file)
bytes_in file (Some bytes) = if nat_le (length bytes) limit then Ok bytes else Err (TooLong file)

-- the image, the signers and the script of a file
unfoldable pub image_in : Option (List ℕ) → Result Image Trouble
image_in file = do
  bytes ← bytes_in place.Image file
  or_trouble ImageRefused (image_of bytes)

unfoldable pub signers_in : Option (List ℕ) → Result (Signed) Trouble
signers_in file = do
  bytes ← bytes_in place.Signers file
  or_trouble SignersRefused (signers_of bytes)

unfoldable pub script_in : Option (List ℕ) → Result Script Trouble
script_in file = do
  bytes ← bytes_in place.Script file
  or_trouble script_trouble (script_of bytes)

-- ---- All files

-- the inputs of a run's files
abbrev pub inputs_in : Contents → Result Inputs Trouble
inputs_in files = do
  image ← image_in files.image
  signers ← signers_in files.signers
  script ← script_in files.script
  Ok (record { image = image; signers = signers; script = script })

-- the inputs, where the image's signer is known and signed its measurement (SDM volume 3D, "EINIT")
abbrev pub signed : Inputs → Result Inputs Trouble
signed inputs =
    if not (knows inputs.signers inputs.image.signer) then Err UnknownSigner
    else if not (allows inputs.signers inputs.image.signer (digest_of inputs.image)) then Err NotSigned
    else Ok inputs

-- what a command is to write: the report of a run of these inputs in this layout, the measurement of an image, or the summary of the
-- run of a number's image
pub data Task : Type 0 where
  Report : (layout : Layout) (inputs : Inputs) → Task
  Digest : (image : Image) → Task
  Summary : (number : ℕ) → Task

-- what a command is to write by what its files say, or the first trouble
abbrev pub task_in : Option AskedTexts → Contents → Result Task Trouble
task_in None files = Err Usage
task_in (Some (Run asked)) files = do
  inputs ← inputs_in files
  built ← signed inputs
  Ok (Report (layout_for built.image asked) built)
task_in (Some (Measure name)) files = do
  image ← image_in files.image
  Ok (Digest image)
task_in (Some (Demo number)) files = Ok (Summary number)

-- ---- The names that are asked for

-- these names come next, where all is well so far
abbrev pub where_well : {A : Type 0} → Result A Trouble → List (List ℕ) → List (List ℕ)
where_well (Ok x) names = names
where_well (Err trouble) names = []

-- the names that a command asks for, in order: each where the files before it are accepted
abbrev pub asked_in : Option AskedTexts → Contents → List (List ℕ)
asked_in None files = []
asked_in (Some (Run names)) files =
    names.image ∷ where_well (image_in files.image)
    (names.signers ∷ where_well (signers_in files.signers) (names.script ∷ []))
asked_in (Some (Measure image)) files = image ∷ []
asked_in (Some (Demo number)) files = []
