-- What the words of a command line ask for. This project's own.
use Rattle.std.specs.Prelude.{ℕ, ◌-◌, ◌^◌, List, [], ◌∷◌, nat_le, ◌&&◌, if◌then◌else◌, codes, Option, Some, None, option_map, option_and_then}
use Rattle.std.specs.Str.{bytes_eq}
use Rattle.ak_script.specs.Words.{number_of}
use Rattle.ak_words.specs.Scan.{Text, Given, given_by}

-- what a run is asked for: its files, how many frames if that is said, and how many processors
pub record RunTexts : Type 0 where
  pub image : Text
  pub signers : Text
  pub script : Text
  pub frames : Option ℕ
  pub processors : ℕ

-- what words ask for: the report of a run, the measurement of an image, or the summary of the run of a number's image
pub data AskedTexts : Type 0 where
  Run : (run : RunTexts) → AskedTexts
  Measure : (image : Text) → AskedTexts
  Demo : (number : ℕ) → AskedTexts

-- a number that is between two others, or one of them
abbrev pub between : ℕ → ℕ → ℕ → Option ℕ
between least most n = if nat_le least n && nat_le n most then Some n else None

-- the number that a word spells, where it is within these bounds
abbrev pub number_between : ℕ → ℕ → Text → Option ℕ
number_between least most word = option_and_then (between least most) (number_of word)

-- the number of frames, by the text of `--frames`: 9 to 8192, or none said
abbrev pub frames_of : Option Text → Option (Option ℕ)
frames_of None = Some None
frames_of (Some text) = option_map Some (number_between 9 8192 text)

-- the number of processors, by the text of `--processors`: 1 to 4, and 1 where there is none
abbrev pub processors_of : Option Text → Option ℕ
processors_of None = Some 1
processors_of (Some text) = number_between 1 4 text

-- a run of three files
abbrev pub run_of : List Text → Option (Option ℕ) → Option ℕ → Option AskedTexts
run_of (image ∷ signers ∷ script ∷ []) (Some frames) (Some processors) = Some (Run (record {
  image = image;
  signers = signers;
  script = script;
  frames = frames;
  processors = processors;
}))
run_of _ _ _ = None

-- what `run` asks for, by what it was given
abbrev pub run_given : Given → Option AskedTexts
run_given given = run_of given.values (frames_of given.frames) (processors_of given.processors)

-- what one value asks for, with no option
abbrev pub single_of : (Text → Option AskedTexts) → List Text → Option Text → Option Text → Option AskedTexts
single_of meaning (value ∷ []) None None = meaning value
single_of _ _ _ _ = None

-- what `measure` asks for, by what it was given
abbrev pub measure_given : Given → Option AskedTexts
measure_given given = single_of (λ image. Some (Measure image)) given.values given.frames given.processors

-- a number below 2 ^ 64
abbrev pub demo_of : Text → Option AskedTexts
demo_of text = option_map Demo (number_between 0 (2 ^ 64 - 1) text)

-- what `demo` asks for, by what it was given
abbrev pub demo_given : Given → Option AskedTexts
demo_given given = single_of demo_of given.values given.frames given.processors

-- what a command asks for, by what it was given
abbrev pub asked_with : Text → Given → Option AskedTexts
asked_with command given =
    if bytes_eq command (codes "run") then run_given given
    else (if bytes_eq command (codes "measure") then measure_given given
    else (if bytes_eq command (codes "demo") then demo_given given else None))

-- what the words ask for, the first of which is the command; none where they give no command
abbrev pub words_of : List Text → Option AskedTexts
words_of [] = None
words_of (command ∷ words) = option_and_then (asked_with command) (given_by words)
