-- Words and what they ask for, computed from the definitions.
use Rattle.std.proofs.Common.{◌≡◌, ℕ, refl, List, [], ◌∷◌, Option, Some, None, codes}
use Rattle.ak_words.specs.Asked.{AskedTexts, Demo, Measure, Run, words_of}
use Rattle.ak_words.specs.Scan.{Text}

-- words ask for this
abbrev Asks : List Text → AskedTexts → Type 0
Asks words asked = words_of words ≡ Some asked

-- words ask for nothing
abbrev Nothing : List Text → Type 0
Nothing words = words_of words ≡ None

-- a run of the files a, b and c
abbrev run : Option ℕ → ℕ → AskedTexts
run frames processors = Run (record { image = codes "a"; signers = codes "b"; script = codes "c"; frames = frames; processors = processors })

plain_row : Asks (codes "run" ∷ codes "a" ∷ codes "b" ∷ codes "c" ∷ []) (run None 1)
plain_row = refl

measure_row : Asks (codes "measure" ∷ codes "-" ∷ []) (Measure (codes "-"))
measure_row = refl

-- options stand anywhere, in both forms
options_row : Asks (codes "run" ∷ codes "--frames" ∷ codes "9" ∷ codes "a" ∷ codes "b" ∷ codes "--processors=4" ∷ codes "c" ∷ []) (run (Some 9) 4)
options_row = refl

most_row : Asks (codes "run" ∷ codes "a" ∷ codes "--processors" ∷ codes "1" ∷ codes "b" ∷ codes "c" ∷ codes "--frames=8192" ∷ []) (run (Some 8192) 1)
most_row = refl

-- after `--` each word is a file
dashes_row : Asks (codes "measure" ∷ codes "--" ∷ codes "--frames=9" ∷ []) (Measure (codes "--frames=9"))
dashes_row = refl

second_dashes_row : Asks (codes "measure" ∷ codes "--" ∷ codes "--" ∷ []) (Measure (codes "--"))
second_dashes_row = refl

empty_word_row : Asks (codes "measure" ∷ [] ∷ []) (Measure [])
empty_word_row = refl

no_word_row : Nothing []
no_word_row = refl

other_command_row : Nothing (codes "Run" ∷ codes "a" ∷ codes "b" ∷ codes "c" ∷ [])
other_command_row = refl

help_row : Nothing (codes "run" ∷ codes "a" ∷ codes "b" ∷ codes "c" ∷ codes "--help" ∷ [])
help_row = refl

-- an option has one text, and a prefix of it is none
twice_row : Nothing (codes "run" ∷ codes "--frames" ∷ codes "9" ∷ codes "a" ∷ codes "b" ∷ codes "c" ∷ codes "--frames=9" ∷ [])
twice_row = refl

prefix_row : Nothing (codes "run" ∷ codes "a" ∷ codes "b" ∷ codes "c" ∷ codes "--frame=9" ∷ [])
prefix_row = refl

lacking_row : Nothing (codes "run" ∷ codes "a" ∷ codes "b" ∷ codes "c" ∷ codes "--frames" ∷ [])
lacking_row = refl

ended_row : Nothing (codes "run" ∷ codes "a" ∷ codes "b" ∷ codes "c" ∷ codes "--frames" ∷ codes "--" ∷ codes "9" ∷ [])
ended_row = refl

empty_text_row : Nothing (codes "run" ∷ codes "a" ∷ codes "b" ∷ codes "c" ∷ codes "--frames=" ∷ [])
empty_text_row = refl

-- the ends of the ranges, and a 0 before another digit
fewer_frames_row : Nothing (codes "run" ∷ codes "a" ∷ codes "b" ∷ codes "c" ∷ codes "--frames" ∷ codes "8" ∷ [])
fewer_frames_row = refl

more_frames_row : Nothing (codes "run" ∷ codes "a" ∷ codes "b" ∷ codes "c" ∷ codes "--frames" ∷ codes "8193" ∷ [])
more_frames_row = refl

leading_zero_row : Nothing (codes "run" ∷ codes "a" ∷ codes "b" ∷ codes "c" ∷ codes "--frames" ∷ codes "09" ∷ [])
leading_zero_row = refl

no_processor_row : Nothing (codes "run" ∷ codes "a" ∷ codes "b" ∷ codes "c" ∷ codes "--processors" ∷ codes "0" ∷ [])
no_processor_row = refl

five_processors_row : Nothing (codes "run" ∷ codes "a" ∷ codes "b" ∷ codes "c" ∷ codes "--processors" ∷ codes "5" ∷ [])
five_processors_row = refl

-- `measure` has no option
measure_option_row : Nothing (codes "measure" ∷ codes "a" ∷ codes "--processors" ∷ codes "1" ∷ [])
measure_option_row = refl

-- a number below 2 ^ 64
demo_row : Asks (codes "demo" ∷ codes "18446744073709551615" ∷ []) (Demo 18446744073709551615)
demo_row = refl

demo_zero_row : Asks (codes "demo" ∷ codes "--" ∷ codes "0" ∷ []) (Demo 0)
demo_zero_row = refl

demo_more_row : Nothing (codes "demo" ∷ codes "18446744073709551616" ∷ [])
demo_more_row = refl

demo_option_row : Nothing (codes "demo" ∷ codes "1" ∷ codes "--frames=9" ∷ [])
demo_option_row = refl
