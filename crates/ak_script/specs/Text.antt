-- How moves and scripts are written. This project's own.
use Rattle.std.specs.Prelude.{ℕ, List, [], ◌∷◌, ◌++◌, Bool, true, false, ◌||◌, if◌then◌else◌, codes, decimal}
use Rattle.std.specs.List.{flat_map}
use Rattle.ak_core.specs.FlagLetters.{PRESENT, WRITABLE, EXECUTABLE, ACCESSED, DIRTY}
use Rattle.ak_core.specs.declared.page.Flags.{Flags}
use Rattle.ak_core.specs.declared.moves.Move.{Move}
use Rattle.ak_core.specs.declared.moves.Move.TheVariants.{SetPte, ReadPte, Eblock, Etrack, Ewb, Eldu, Eldb, Eremove, Epa, Discard, Eenter, Eresume, Run, Interrupt}
use Rattle.ak_script.specs.declared.items.Item.{Item}
use Rattle.ak_script.specs.declared.items.Item.TheVariants as item
use Rattle.ak_script.specs.Line.{discard, eblock, eenter, eldb, eldu, epa, eremove, eresume, etrack, ewb, honest, input, interrupt, readpte, run, setpte}
use Rattle.ak_script.specs.Script.{Script}

-- each number in decimal digits, after a space
abbrev pub numbers_text : List ℕ → List ℕ
numbers_text [] = []
numbers_text (n ∷ ns) = codes " " ++ decimal n ++ numbers_text ns

-- the name of a flag that is set
abbrev pub letter : Bool → List ℕ → List ℕ
letter true name = name
letter false name = []

-- the letters of the flags that are set, or a dash for none
abbrev pub flags_text : Flags → List ℕ
flags_text flags =
    if flags.p || flags.w || flags.x || flags.a || flags.d
    then letter flags.p (PRESENT ∷ []) ++ letter flags.w (WRITABLE ∷ []) ++ letter flags.x (EXECUTABLE ∷ []) ++ letter flags.a (ACCESSED ∷ []) ++ letter flags.d (DIRTY ∷ [])
    else codes "-"

-- a move: its word and its operands
abbrev pub move_text : Move → List ℕ
move_text (SetPte page frame flags) = setpte.word ++ numbers_text (page.0 ∷ frame.0 ∷ []) ++ codes " " ++ flags_text flags
move_text (ReadPte page) = readpte.word ++ numbers_text (page.0 ∷ [])
move_text (Eblock frame) = eblock.word ++ numbers_text (frame.0 ∷ [])
move_text Etrack = etrack.word
move_text (Ewb frame va slot) = ewb.word ++ numbers_text (frame.0 ∷ va.0 ∷ slot ∷ [])
move_text (Eldu frame handle page va slot) = eldu.word ++ numbers_text (frame.0 ∷ handle.0 ∷ page.0 ∷ va.0 ∷ slot ∷ [])
move_text (Eldb frame handle page va slot) = eldb.word ++ numbers_text (frame.0 ∷ handle.0 ∷ page.0 ∷ va.0 ∷ slot ∷ [])
move_text (Eremove frame) = eremove.word ++ numbers_text (frame.0 ∷ [])
move_text (Epa frame) = epa.word ++ numbers_text (frame.0 ∷ [])
move_text (Discard handle) = discard.word ++ numbers_text (handle.0 ∷ [])
move_text (Eenter lp value) = eenter.word ++ numbers_text (lp.0 ∷ value ∷ [])
move_text (Eresume lp) = eresume.word ++ numbers_text (lp.0 ∷ [])
move_text (Run lp turns) = run.word ++ numbers_text (lp.0 ∷ turns ∷ [])
move_text (Interrupt lp) = interrupt.word ++ numbers_text (lp.0 ∷ [])

-- an item
abbrev pub item_text : Item → List ℕ
item_text (item.Move m) = move_text m
item_text (item.Auto moves) = honest.word ++ numbers_text (moves ∷ [])

-- an input
abbrev pub input_text : ℕ → List ℕ
input_text value = input.word ++ numbers_text (value ∷ [])

-- lines of these texts
abbrev pub in_lines : {A : Type 0} → (A → List ℕ) → List A → List ℕ
in_lines text things = flat_map (λ thing. text thing ++ codes "\n") things

-- the canonical text of a script: a line for each input, then one for each item
unfoldable pub printed : Script → List ℕ
printed s = in_lines input_text s.inputs ++ in_lines item_text s.items
