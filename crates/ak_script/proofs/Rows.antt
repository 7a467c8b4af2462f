-- Scripts and what they say, computed from the definitions.
use Rattle.std.proofs.Common.{◌≡◌, ℕ, refl, List, [], ◌∷◌, ◌++◌, true, false, Ok, Err, codes}
use Rattle.ak_core.specs.declared.moves.Move.TheVariants.{SetPte, ReadPte, Etrack, Eldb, Eenter, Run}
use Rattle.ak_script.specs.declared.fault.Refusal.{Refusal}
use Rattle.ak_script.specs.declared.fault.Refusal.TheVariants as why
use Rattle.ak_script.specs.declared.items.Item.{Item}
use Rattle.ak_script.specs.declared.items.Item.TheVariants as item
use Rattle.ak_script.specs.Script.{refused_line, script, script_of}

-- the text says these items, and gives these inputs
abbrev Says : List ℕ → List Item → List ℕ → Type 0
Says text items inputs = script_of text ≡ Ok (script items inputs)

-- the text is refused at this line, for this reason
abbrev Refuses : List ℕ → ℕ → Refusal → Type 0
Refuses text line reason = script_of text ≡ Err (refused_line line reason)

empty_row : Says [] [] []
unfolding script_of
empty_row = refl

-- blanks at both ends, skipped lines, both endings, the last newline missing
every_form : Says (codes "eenter 1 0\n\n# eblock 8\nrun 3 1000000\r\n\tsetpte  1 2 pd \n \t\n  #\nreadpte 4294967295")
    (item.Move (Eenter (record { 0 = 1 }) 0) ∷ item.Move (Run (record { 0 = 3 }) 1000000) ∷ item.Move (SetPte (record { 0 = 1 }) (record { 0 = 2 }) (record { p = true; w = false; x = false; a = false; d = true })) ∷ item.Move (ReadPte (record { 0 = 4294967295 })) ∷ []) []
unfolding script_of
every_form = refl

-- inputs stand anywhere, and are no moves
inputs_row : Says (codes "input 7\nauto 20000\ninput 18446744073709551615") (item.Auto 20000 ∷ []) (7 ∷ 18446744073709551615 ∷ [])
unfolding script_of
inputs_row = refl

-- the operands of a loading instruction, in order
load_row : Says (codes "etrack\neldb 1 2 3 4 511") (item.Move Etrack ∷ item.Move (Eldb (record { 0 = 1 }) (record { 0 = 2 }) (record { 0 = 3 }) (record { 0 = 4 }) 511) ∷ []) []
unfolding script_of
load_row = refl

-- a comment may have any bytes
comment_row : Says (35 ∷ 255 ∷ 0 ∷ 13 ∷ 200 ∷ 10 ∷ codes "run 0 1") (item.Move (Run (record { 0 = 0 }) 1) ∷ []) []
unfolding script_of
comment_row = refl

-- `auto` counts as so many moves
auto_row : Refuses (codes "auto 20000\ninput 1\netrack") 3 why.TooMany
unfolding script_of
auto_row = refl

-- and as a thousand turns for each
auto_turns_row : Refuses (codes "run 0 1\nauto 20000") 2 why.TooMany
unfolding script_of
auto_turns_row = refl

-- another line may not, and this comes before all else
ascii_row : Refuses (codes "eblock " ++ 128 ∷ []) 1 why.NotAscii
unfolding script_of
ascii_row = refl

-- only a carriage return before a newline is left out, and one alone
return_row : Refuses (codes "run 0 1\r\nrun 0 1\r\r\n") 2 why.Number
unfolding script_of
return_row = refl

last_return_row : Refuses (codes "etrack\r") 1 why.Unknown
unfolding script_of
last_return_row = refl

-- the number of words comes before what they are
words_row : Refuses (codes "run x") 1 why.Words
unfolding script_of
words_row = refl

-- word by word
range_row : Refuses (codes "run 4 x") 1 why.Range
unfolding script_of
range_row = refl

number_row : Refuses (codes "run 0 01") 1 why.Number
unfolding script_of
number_row = refl

-- a number of any length is a number
long_row : Refuses (codes "eenter 0 0\neenter 0 100000000000000000000000000000") 2 why.Range
unfolding script_of
long_row = refl

flags_row : Refuses (codes "\nsetpte 1 2 dp\nrun 0 0") 2 why.Flags
unfolding script_of
flags_row = refl

-- twenty million turns and one more; the line after it is not told
turns_row : Refuses
    (codes "run 0 1000000\nrun 0 1000000\nrun 0 1000000\nrun 0 1000000\nrun 0 1000000\nrun 0 1000000\nrun 0 1000000\nrun 0 1000000\nrun 0 1000000\nrun 0 1000000\n" ++ codes "run 0 1000000\nrun 0 1000000\nrun 0 1000000\nrun 0 1000000\nrun 0 1000000\nrun 0 1000000\nrun 0 1000000\nrun 0 1000000\nrun 0 1000000\nrun 0 1000000\n\nrun 0 1\nrun 0 0")
    22 why.TooMany
unfolding script_of
turns_row = refl
