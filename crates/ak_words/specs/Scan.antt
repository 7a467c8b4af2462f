-- How the words after a command's name are read: values in their order, and options with a text each. This project's own.
use Rattle.std.specs.Prelude.{ℕ, List, [], ◌∷◌, ◌++◌, Bool, false, ◌==◌, if◌then◌else◌, codes, Option, Some, None, option_map, option_and_then}
use Rattle.std.specs.List.{after_first, before_first, list_any}
use Rattle.std.specs.Str.{bytes_eq}

-- the bytes of a word
abbrev pub Text : Type 0
Text = List ℕ

-- the options
pub data Choice : Type 0 where
  frames : Choice
  processors : Choice

-- what was given: values in their order, and the text of each option
pub record Given : Type 0 where
  pub values : List Text
  pub frames : Option Text
  pub processors : Option Text

-- what a word before `--` is: a value, `--`, an option with the text after its `=` if it has one, or none of these
pub data Kind : Type 0 where
  value : Kind
  dashes : Kind
  option : (choice : Choice) → (text : Option Text) → Kind
  unknown : Kind

-- what may come next: any word, the text of an option, or only values
pub data Place : Type 0 where
  any : Place
  text_of : (choice : Choice) → Place
  only_values : Place

-- the sign `=`
abbrev pub is_equals : ℕ → Bool
is_equals b = b == 61

-- what stands before the first `=` of a word
abbrev pub name_in : Text → Text
name_in word = before_first is_equals word

-- what stands after the first `=` of a word, if it has one
abbrev pub text_in : Text → Option Text
text_in word = if list_any is_equals word then Some (after_first is_equals word) else None

-- a word that begins with a dash and is longer than it
abbrev pub is_dashed : Text → Bool
is_dashed [] = false
is_dashed (b ∷ []) = false
is_dashed (b ∷ c ∷ rest) = b == 45

-- an option by its name
abbrev pub option_named : Text → Option Text → Kind
option_named name text =
    if bytes_eq (codes "--frames") name then option frames text
    else (if bytes_eq (codes "--processors") name then option processors text else unknown)

-- what a word before `--` is
abbrev pub kind_of : Text → Kind
kind_of word =
    if bytes_eq word (codes "--") then dashes
    else (if is_dashed word then option_named (name_in word) (text_in word) else value)

-- one more value
abbrev pub with_value : Text → Given → Given
with_value word given = record given { values = given.values ++ word ∷ [] }

-- the text of `--frames`, which it may have once
abbrev pub with_frames : Option Text → Text → Given → Option Given
with_frames None text given = Some (record given { frames = Some text })
with_frames (Some before) text given = None

-- the text of `--processors`, which it may have once
abbrev pub with_processors : Option Text → Text → Given → Option Given
with_processors None text given = Some (record given { processors = Some text })
with_processors (Some before) text given = None

-- the text of an option
abbrev pub with_text : Choice → Text → Given → Option Given
with_text frames text given = with_frames given.frames text given
with_text processors text given = with_processors given.processors text given

-- what follows a word of this kind
abbrev pub after_kind : Kind → Text → Given → Option (Place × Given)
after_kind value word given = Some (any, with_value word given)
after_kind dashes word given = Some (only_values, given)
after_kind (option choice None) word given = Some (text_of choice, given)
after_kind (option choice (Some text)) word given = option_map (λ more. (any, more)) (with_text choice text given)
after_kind unknown word given = None

-- what follows one more word
abbrev pub after_word : Place → Text → Given → Option (Place × Given)
after_word any word given = after_kind (kind_of word) word given
after_word (text_of choice) word given =
    if is_dashed word then None else option_map (λ more. (any, more)) (with_text choice word given)
after_word only_values word given = Some (only_values, with_value word given)

-- what is given at the end of the words, where no option lacks its text
abbrev pub at_end : Place → Given → Option Given
at_end (text_of choice) given = None
at_end _ given = Some given

-- what these words give, from a place on, after what was given before
abbrev pub given_from : Place → Given → List Text → Option Given
given_from place given [] = at_end place given
given_from place given (word ∷ words) =
    option_and_then (λ next. given_from next.0 next.1 words) (after_word place word given)

-- nothing yet
abbrev pub nothing_given : Given
nothing_given = record { values = []; frames = None; processors = None }

-- what the words after a command's name give
abbrev pub given_by : List Text → Option Given
given_by words = given_from any nothing_given words
