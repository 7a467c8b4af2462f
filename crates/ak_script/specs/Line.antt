-- What a line of a script spells. This project's own.
use Rattle.std.specs.Prelude.{ℕ, List, [], ◌∷◌, Bool, true, not, ◌==◌, ◌&&◌, if◌then◌else◌, length, Option, Some, None, Result, Ok, Err, nat_eq, nat_lt, codes}
use Rattle.std.specs.List.{find, list_all, starts_with}
use Rattle.std.specs.Option.{option_map, option_or}
use Rattle.std.specs.Str.{bytes_eq}
use Rattle.ak_core.specs.declared.moves.Move.{Move}
use Rattle.ak_core.specs.declared.moves.Move.TheVariants.{SetPte, ReadPte, Eblock, Etrack, Ewb, Eldu, Eldb, Eremove, Epa, Discard, Eenter, Eresume, Run, Interrupt}
use Rattle.ak_script.specs.declared.fault.Refusal.{Refusal}
use Rattle.ak_script.specs.declared.fault.Refusal.TheVariants as why
use Rattle.ak_script.specs.declared.items.Item.{Item}
use Rattle.ak_script.specs.declared.items.Item.TheVariants as item
use Rattle.ak_script.specs.declared.items.Line.{Line}
use Rattle.ak_script.specs.declared.items.Line.TheVariants as says
use Rattle.ak_script.specs.Operand.{Operand, PAGE, FRAME, HANDLE, SLOT, LP, VALUE, TURNS, MOVES, FLAGS, Meaning, meaning_of, fits, ◌>>=◌}
use Rattle.ak_script.specs.Words.{words_of}

-- what makes a line's meaning of the meanings of its operands, in order
abbrev pub Makes : List Operand → Type 0
Makes [] = Line
Makes (kind ∷ kinds) = Meaning kind → Makes kinds

-- a first word, the kinds of its operands, and what they say
pub record Row : Type 0 where
  pub word : List ℕ
  pub operands : List Operand
  pub says : Makes operands

abbrev pub row : List ℕ → (operands : List Operand) → Makes operands → Row
row word operands says = record { word = word; operands = operands; says = says }

-- a line that is one move
abbrev pub one_move : Move → Line
one_move m = says.Item (item.Move m)

-- the words that a line may begin with
abbrev pub setpte : Row
setpte = row (codes "setpte") (PAGE ∷ FRAME ∷ FLAGS ∷ []) (λ page frame flags. one_move (SetPte page frame flags))

abbrev pub readpte : Row
readpte = row (codes "readpte") (PAGE ∷ []) (λ page. one_move (ReadPte page))

abbrev pub eblock : Row
eblock = row (codes "eblock") (FRAME ∷ []) (λ frame. one_move (Eblock frame))

abbrev pub etrack : Row
etrack = row (codes "etrack") [] (one_move Etrack)

abbrev pub ewb : Row
ewb = row (codes "ewb") (FRAME ∷ FRAME ∷ SLOT ∷ []) (λ frame va slot. one_move (Ewb frame va slot))

abbrev pub eldu : Row
eldu = row (codes "eldu") (FRAME ∷ HANDLE ∷ PAGE ∷ FRAME ∷ SLOT ∷ []) (λ frame handle page va slot. one_move (Eldu frame handle page va slot))

abbrev pub eldb : Row
eldb = row (codes "eldb") (FRAME ∷ HANDLE ∷ PAGE ∷ FRAME ∷ SLOT ∷ []) (λ frame handle page va slot. one_move (Eldb frame handle page va slot))

abbrev pub eremove : Row
eremove = row (codes "eremove") (FRAME ∷ []) (λ frame. one_move (Eremove frame))

abbrev pub epa : Row
epa = row (codes "epa") (FRAME ∷ []) (λ frame. one_move (Epa frame))

abbrev pub discard : Row
discard = row (codes "drop") (HANDLE ∷ []) (λ handle. one_move (Discard handle))

abbrev pub eenter : Row
eenter = row (codes "eenter") (LP ∷ VALUE ∷ []) (λ lp value. one_move (Eenter lp value))

abbrev pub eresume : Row
eresume = row (codes "eresume") (LP ∷ []) (λ lp. one_move (Eresume lp))

abbrev pub run : Row
run = row (codes "run") (LP ∷ TURNS ∷ []) (λ lp turns. one_move (Run lp turns))

abbrev pub interrupt : Row
interrupt = row (codes "interrupt") (LP ∷ []) (λ lp. one_move (Interrupt lp))

abbrev pub honest : Row
honest = row (codes "auto") (MOVES ∷ []) (λ moves. says.Item (item.Auto moves))

abbrev pub input : Row
input = row (codes "input") (VALUE ∷ []) says.Input

-- the rows of the kernel's instructions on the page cache (SDM volume 3D, "Privileged Enclave Instructions")
abbrev pub cache_rows : List Row
cache_rows = eblock ∷ etrack ∷ ewb ∷ eldu ∷ eldb ∷ eremove ∷ epa ∷ []

-- the other rows
abbrev pub other_rows : List Row
other_rows = setpte ∷ readpte ∷ discard ∷ eenter ∷ eresume ∷ run ∷ interrupt ∷ honest ∷ input ∷ []

-- the row of a first word among some
abbrev pub row_among : List Row → List ℕ → Option Row
row_among rows first = find (λ r. bytes_eq r.word first) rows

-- the row of a first word
abbrev pub row_of : List ℕ → Option Row
row_of first = option_or (row_among cache_rows first) (row_among other_rows first)

-- what these words say, or what the first of them that is wrong lacks
abbrev pub made_of : (operands : List Operand) → Makes operands → List (List ℕ) → Result Line Refusal
made_of [] says words = Ok says
made_of (kind ∷ kinds) says [] = Err why.Words
made_of (kind ∷ kinds) says (word ∷ words) = meaning_of kind word >>= λ x. made_of kinds (says x) words

-- what a row says with the words after its own
abbrev pub line_of : Option Row → List (List ℕ) → Result Line Refusal
line_of None words = Err why.Unknown
line_of (Some r) words = if length words == length r.operands then made_of r.operands r.says words else Err why.Words

-- what a row says with the words after its own, where there is a row
abbrev pub line_at : Option Row → List (List ℕ) → Option (Result Line Refusal)
line_at found words = option_map (λ r. line_of (Some r) words) found

-- what a line spells: nothing where it is skipped, else what it says; or why it is refused
abbrev pub Spelled : Type 0
Spelled = Result (Option Line) Refusal

-- what a line of these words spells
abbrev pub spelled_by : List ℕ → List (List ℕ) → Spelled
spelled_by line [] = Ok None
spelled_by line (first ∷ words) =
    if starts_with nat_eq first (codes "#") then Ok None
    else if not (list_all (λ b. nat_lt b 128) line) then Err why.NotAscii
    else (line_of (row_of first) words >>= λ said. Ok (Some said))

-- what a line spells
abbrev pub spelled : List ℕ → Spelled
spelled line = spelled_by line (words_of line)

-- whether the numbers of a move are in their ranges
abbrev pub move_fits : Move → Bool
move_fits (SetPte page frame flags) = fits PAGE page.0 && fits FRAME frame.0
move_fits (ReadPte page) = fits PAGE page.0
move_fits (Eblock frame) = fits FRAME frame.0
move_fits Etrack = true
move_fits (Ewb frame va slot) = fits FRAME frame.0 && (fits FRAME va.0 && fits SLOT slot)
move_fits (Eldu frame handle page va slot) = fits FRAME frame.0 && (fits HANDLE handle.0 && (fits PAGE page.0 && (fits FRAME va.0 && fits SLOT slot)))
move_fits (Eldb frame handle page va slot) = fits FRAME frame.0 && (fits HANDLE handle.0 && (fits PAGE page.0 && (fits FRAME va.0 && fits SLOT slot)))
move_fits (Eremove frame) = fits FRAME frame.0
move_fits (Epa frame) = fits FRAME frame.0
move_fits (Discard handle) = fits HANDLE handle.0
move_fits (Eenter lp value) = fits LP lp.0 && fits VALUE value
move_fits (Eresume lp) = fits LP lp.0
move_fits (Run lp turns) = fits LP lp.0 && fits TURNS turns
move_fits (Interrupt lp) = fits LP lp.0

-- the same of an item
abbrev pub item_fits : Item → Bool
item_fits (item.Move m) = move_fits m
item_fits (item.Auto moves) = fits MOVES moves

-- the same of a line
abbrev pub line_fits : Line → Bool
line_fits (says.Item i) = item_fits i
line_fits (says.Input value) = fits VALUE value
