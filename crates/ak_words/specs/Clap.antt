-- The commands as clap has them, and what it finds in words. They state nothing of their own: `Scan` says how words are read.
use Rattle.std.specs.Prelude.{List, [], ◌∷◌, true, ◌==◌, if◌then◌else◌, codes, length, Option, Some, None}
use Rattle.clap.specs.Words.{App, Row, Rule, fault_of, first_of, matches_of, new_app, new_rule, with_rule}
use Rattle.clap.specs.Simple.{on_top}
use Rattle.ak_words.specs.Scan.{Text, Given}

-- a command without `--help`
abbrev pub command : Text → App
command name = on_top (λ shape. record shape { disable_help_flag = true }) (new_app name)

-- a value that must be given
abbrev pub value : Text → Rule
value id = record (new_rule id) { required = true }

-- an option with one text
abbrev pub option : Text → Rule
option id = record (new_rule id) { long = Some id }

-- IMAGE SIGNERS SCRIPT [--frames N] [--processors N]
abbrev pub run_app : App
run_app =
    with_rule (with_rule (with_rule (with_rule (with_rule (command (codes "run"))
    (value (codes "IMAGE"))) (value (codes "SIGNERS"))) (value (codes "SCRIPT")))
    (option (codes "frames"))) (option (codes "processors"))

-- IMAGE
abbrev pub measure_app : App
measure_app = with_rule (command (codes "measure")) (value (codes "IMAGE"))

-- NUMBER
abbrev pub demo_app : App
demo_app = with_rule (command (codes "demo")) (value (codes "NUMBER"))

-- the texts that are there
abbrev pub those : Option Text → List Text → List Text
those None more = more
those (Some text) more = text ∷ more

-- what clap's rows say of `run`
abbrev pub found_in : List Row → Given
found_in rows = record {
  values = those (first_of (codes "IMAGE") rows) (those (first_of (codes "SIGNERS") rows) (those (first_of (codes "SCRIPT") rows) []));
  frames = first_of (codes "frames") rows;
  processors = first_of (codes "processors") rows;
}

-- the rows that clap finds in the words after the first, where it takes them
unfoldable pub found_by : App → List Text → Option (List Row)
found_by app words = if length (fault_of app words) == 0 then Some (matches_of app words) else None
