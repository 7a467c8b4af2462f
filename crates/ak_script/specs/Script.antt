-- What a script says. This project's own.
use Rattle.std.specs.Prelude.{ℕ, ◌+◌, ◌*◌, ◌≤◌, IsTrue, List, [], ◌∷◌, Bool, ◌||◌, if◌then◌else◌, length, map, take, slice_get, Option, Some, None, Result, Ok, Err, nat_lt}
use Rattle.std.specs.List.{filter_map, list_all, range_with_len, sum_by}
use Rattle.std.specs.Option.{option_and_then, option_flatten, option_map, option_or}
use Rattle.std.specs.Result.{result_err, result_ok}
use Rattle.std.specs.Str.Lines.{lines}
use Rattle.ak_core.specs.declared.moves.Move.{Move}
use Rattle.ak_core.specs.declared.moves.Move.TheVariants.{Run}
use Rattle.ak_script.specs.declared.fault.Refusal.{Refusal}
use Rattle.ak_script.specs.declared.fault.Refusal.TheVariants as why
use Rattle.ak_script.specs.declared.items.Item.{Item}
use Rattle.ak_script.specs.declared.items.Item.TheVariants as item
use Rattle.ak_script.specs.declared.items.Line.{Line}
use Rattle.ak_script.specs.declared.items.Line.TheVariants as says
use Rattle.ak_script.specs.Line.{Spelled, item_fits, spelled}
use Rattle.ak_script.specs.Operand.{VALUE, fits}

-- a script: what the kernel does, and the inputs, each in order
pub record Script : Type 0 where
  pub items : List Item
  pub inputs : List ℕ

abbrev pub script : List Item → List ℕ → Script
script items inputs = record { items = items; inputs = inputs }

-- a refused line, counted from 1, and why it is refused
pub record RefusedLine : Type 0 where
  pub line : ℕ
  pub why : Refusal

abbrev pub refused_line : ℕ → Refusal → RefusedLine
refused_line line why = record { line = line; why = why }

-- as how many moves an item counts
abbrev pub moves_in : Item → ℕ
moves_in (item.Move m) = 1
moves_in (item.Auto moves) = moves

-- how many turns a move asks for
abbrev pub turns_of : Move → ℕ
turns_of (Run lp turns) = turns
turns_of _ = 0

-- as how many turns an item counts
abbrev pub turns_in : Item → ℕ
turns_in (item.Move m) = turns_of m
turns_in (item.Auto moves) = 1000 * moves

-- more than 20,000 moves, or more than 20,000,000 turns
abbrev pub are_too_many : List Item → Bool
are_too_many items = nat_lt 20000 (sum_by moves_in items) || nat_lt 20000000 (sum_by turns_in items)

-- what holds of each script that is read
pub record KeepsLimits (s : Script) : Type 0 where
  pub few_moves : sum_by moves_in s.items ≤ 20000
  pub few_turns : sum_by turns_in s.items ≤ 20000000
  pub items_fit : IsTrue (list_all item_fits s.items)
  pub inputs_fit : IsTrue (list_all (fits VALUE) s.inputs)

-- the item of a line
abbrev pub item_of : Line → Option Item
item_of (says.Item i) = Some i
item_of (says.Input value) = None

-- the input of a line
abbrev pub input_of : Line → Option ℕ
input_of (says.Item i) = None
input_of (says.Input value) = Some value

-- what a line says, where it says something
abbrev pub said_by : Spelled → Option Line
said_by spelled = option_flatten (result_ok spelled)

-- the items of lines
abbrev pub items_of : List Spelled → List Item
items_of said = filter_map (λ line. option_and_then item_of (said_by line)) said

-- the inputs of lines
abbrev pub inputs_of : List Spelled → List ℕ
inputs_of said = filter_map (λ line. option_and_then input_of (said_by line)) said

-- why the line after the first i is refused: by itself, or since with it the moves are too many
abbrev pub refused_at : List Spelled → ℕ → Option Refusal
refused_at said i =
    option_or (option_and_then result_err (slice_get said i)) (if are_too_many (items_of (take (i + 1) said)) then Some why.TooMany else None)

-- the refused lines, in order
abbrev pub refused_lines : List Spelled → List RefusedLine
refused_lines said = filter_map (λ i. option_map (refused_line (i + 1)) (refused_at said i)) (range_with_len 0 (length said))

-- the first refused line, or this script
abbrev pub first_or : List RefusedLine → Script → Result Script RefusedLine
first_or [] s = Ok s
first_or (refused ∷ more) s = Err refused

-- what lines say: their script, or the first of them that is refused
abbrev pub told_by : List Spelled → Result Script RefusedLine
told_by said = first_or (refused_lines said) (script (items_of said) (inputs_of said))

-- what a script says; of a line its newline is left out, and one carriage return before it
unfoldable pub script_of : List ℕ → Result Script RefusedLine
script_of bytes = told_by (map spelled (lines bytes))
