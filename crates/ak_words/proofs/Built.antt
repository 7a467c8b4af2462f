-- The commands as clap builds them.
use Rattle.std.proofs.Common.{◌≡◌, ℕ, true, List, [], ◌∷◌, Some, codes, refl}
use Rattle.clap.specs.Words.{Rule, Shape, Text, built, is_simple, is_simple_and_free, new_rule}
use Rattle.clap.specs.Simple.{new_shape}
use Rattle.clap.specs.declared.builder.action.ArgAction.TheVariants.{Set}
use Rattle.clap.specs.declared.builder.value_parser.ValueParser.TheVariants as parser
use Rattle.clap.proofs.OnLiterals.{clap_on_literals}
use Rattle.ak_words.specs.Clap.{demo_app, measure_app, run_app}

-- what building fills in
abbrev filled : Rule → Rule
filled rule = record rule { action = Some Set; parser = Some parser.String; range = Some (record { start_inclusive = 1; end_inclusive = 1 }) }

-- a value at its place
abbrev pub file_at : Text → ℕ → Rule
file_at id place = record (filled (new_rule id)) { required = true; index = Some place }

abbrev pub option_of : Text → Rule
option_of id = record (filled (new_rule id)) { long = Some id }

-- a command with these rules
abbrev pub shape : Text → List Rule → Shape
shape name rules = record (new_shape name) { rules = rules; disable_help_flag = true; disable_help_subcommand = true; is_built = true }

abbrev pub IMAGE : Text
IMAGE = codes "IMAGE"

abbrev pub SIGNERS : Text
SIGNERS = codes "SIGNERS"

abbrev pub SCRIPT : Text
SCRIPT = codes "SCRIPT"

abbrev pub NUMBER : Text
NUMBER = codes "NUMBER"

abbrev pub FRAMES : Text
FRAMES = codes "frames"

abbrev pub PROCESSORS : Text
PROCESSORS = codes "processors"

abbrev pub run_rules : List Rule
run_rules = file_at IMAGE 1 ∷ file_at SIGNERS 2 ∷ file_at SCRIPT 3 ∷ option_of FRAMES ∷ option_of PROCESSORS ∷ []

-- one value
abbrev pub single_rules : Text → List Rule
single_rules id = file_at id 1 ∷ []

pub run_built : (built run_app).top ≡ shape (codes "run") run_rules
run_built = refl

pub measure_built : (built measure_app).top ≡ shape (codes "measure") (single_rules IMAGE)
measure_built = refl

pub demo_built : (built demo_app).top ≡ shape (codes "demo") (single_rules NUMBER)
demo_built = refl

pub run_simple_and_free : is_simple_and_free run_app ≡ true
unfolding clap_on_literals
run_simple_and_free = refl

pub measure_simple_and_free : is_simple_and_free measure_app ≡ true
unfolding clap_on_literals
measure_simple_and_free = refl

pub demo_simple_and_free : is_simple_and_free demo_app ≡ true
unfolding clap_on_literals
demo_simple_and_free = refl

pub run_simple : is_simple run_app ≡ true
unfolding clap_on_literals
run_simple = refl

pub measure_simple : is_simple measure_app ≡ true
unfolding clap_on_literals
measure_simple = refl

pub demo_simple : is_simple demo_app ≡ true
unfolding clap_on_literals
demo_simple = refl
