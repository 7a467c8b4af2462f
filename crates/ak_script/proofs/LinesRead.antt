-- What a line of a move, an item or an input spells.
use Rattle.std.proofs.Common.{◌≡◌, ℕ, ◌^◌, ◌<◌, ◌≤◌, List, [], ◌∷◌, ◌++◌, refl, ap, sym, subst, arith, Bool, true, false, ◌&&◌, Some, Ok, append_assoc, codes}
use Rattle.std.specs.Prelude.{decimal, nat_eq, nat_lt}
use Rattle.std.specs.List.{list_all, starts_with}
use Rattle.std.proofs.lemmas.Bool.{and_parts}
use Rattle.std.proofs.lemmas.Bool.Decides.{nat_tests}
use Rattle.ak_core.specs.declared.page.Flags.{Flags}
use Rattle.ak_core.specs.declared.page.Frame.{Frame}
use Rattle.ak_core.specs.declared.page.Handle.{Handle}
use Rattle.ak_core.specs.declared.page.Lp.{Lp}
use Rattle.ak_core.specs.declared.page.Page.{Page}
use Rattle.ak_core.specs.declared.moves.Move.{Move}
use Rattle.ak_core.specs.declared.moves.Move.TheVariants.{SetPte, ReadPte, Eblock, Etrack, Ewb, Eldu, Eldb, Eremove, Epa, Discard, Eenter, Eresume, Run, Interrupt}
use Rattle.ak_script.specs.declared.items.Item.{Item}
use Rattle.ak_script.specs.declared.items.Item.TheVariants as item
use Rattle.ak_script.specs.declared.items.Line.{Line}
use Rattle.ak_script.specs.declared.items.Line.TheVariants as says
use Rattle.ak_script.specs.Line.{Makes, Row, discard, eblock, eenter, eldb, eldu, epa, eremove, eresume, etrack, ewb, honest, input, interrupt, item_fits, line_of, made_of, move_fits, one_move, readpte, row_of, run, setpte, spelled}
use Rattle.ak_script.specs.Operand.{Operand, PAGE, FRAME, HANDLE, SLOT, LP, VALUE, TURNS, MOVES, FLAGS, Meaning, fits, meaning_of, most, number_in, ◌>>=◌}
use Rattle.ak_script.specs.Text.{flags_text, input_text, item_text, move_text}
use Rattle.ak_script.specs.Words.{flags_of}
use Rattle.ak_script.proofs.Plain.{ArePlain, IsPlain, all_more, inner_spaced, is_inner, number_of-decimal, plain_by, plain_decimal, spaced, spaced_push, words_of-spaced}

-- a text spells what this line says, and has no byte but those of words and spaces
pub record Spells (text : List ℕ) (said : Line) : Type 0 where
  pub spells : spelled text ≡ Ok (Some said)
  pub inner : list_all is_inner text ≡ true

-- each number of a kind is below 2^64
most-le : (kind : Operand) → most kind < 2 ^ 64
most-le PAGE = omega arith
most-le FRAME = omega arith
most-le HANDLE = omega arith
most-le SLOT = omega arith
most-le LP = omega arith
most-le VALUE = omega arith
most-le TURNS = omega arith
most-le MOVES = omega arith
most-le FLAGS = omega arith

fits-lt : (kind : Operand) (n : ℕ) → fits kind n ≡ true → n < 2 ^ 64
fits-lt kind n fit = let le : n ≤ most kind = grind (arith, nat_tests, fit) in omega (arith, most-le kind, le)

-- the decimal digits of a number in its range are read as it
number_read : (kind : Operand) (n : ℕ) → fits kind n ≡ true → number_in kind (decimal n) ≡ Ok n
number_read kind n fit = rw (number_of-decimal n (fits-lt kind n fit), fit) refl

page_read : (page : Page) → fits PAGE page.0 ≡ true → meaning_of PAGE (decimal page.0) ≡ Ok page
page_read page fit = ap (λ r. r >>= λ n. Ok (record { 0 = n })) (number_read PAGE page.0 fit)

frame_read : (frame : Frame) → fits FRAME frame.0 ≡ true → meaning_of FRAME (decimal frame.0) ≡ Ok frame
frame_read frame fit = ap (λ r. r >>= λ n. Ok (record { 0 = n })) (number_read FRAME frame.0 fit)

handle_read : (handle : Handle) → fits HANDLE handle.0 ≡ true → meaning_of HANDLE (decimal handle.0) ≡ Ok handle
handle_read handle fit = ap (λ r. r >>= λ n. Ok (record { 0 = n })) (number_read HANDLE handle.0 fit)

lp_read : (lp : Lp) → fits LP lp.0 ≡ true → meaning_of LP (decimal lp.0) ≡ Ok lp
lp_read lp fit = ap (λ r. r >>= λ n. Ok (record { 0 = n })) (number_read LP lp.0 fit)

-- a text that is read as these flags, and is a plain word
pub record IsOfFlags (flags : Flags) (text : List ℕ) : Type 0 where
  pub read : flags_of text ≡ Some flags
  pub plain : IsPlain text

abbrev flags_by : (p w x a d : Bool) → Flags
flags_by p w x a d = record { p = p; w = w; x = x; a = a; d = d }

flags_told : (p w x a d : Bool) → IsOfFlags (flags_by p w x a d) (flags_text (flags_by p w x a d))
flags_told true true true true true = record { read = refl; plain = plain_by _ refl refl }
flags_told true true true true false = record { read = refl; plain = plain_by _ refl refl }
flags_told true true true false true = record { read = refl; plain = plain_by _ refl refl }
flags_told true true true false false = record { read = refl; plain = plain_by _ refl refl }
flags_told true true false true true = record { read = refl; plain = plain_by _ refl refl }
flags_told true true false true false = record { read = refl; plain = plain_by _ refl refl }
flags_told true true false false true = record { read = refl; plain = plain_by _ refl refl }
flags_told true true false false false = record { read = refl; plain = plain_by _ refl refl }
flags_told true false true true true = record { read = refl; plain = plain_by _ refl refl }
flags_told true false true true false = record { read = refl; plain = plain_by _ refl refl }
flags_told true false true false true = record { read = refl; plain = plain_by _ refl refl }
flags_told true false true false false = record { read = refl; plain = plain_by _ refl refl }
flags_told true false false true true = record { read = refl; plain = plain_by _ refl refl }
flags_told true false false true false = record { read = refl; plain = plain_by _ refl refl }
flags_told true false false false true = record { read = refl; plain = plain_by _ refl refl }
flags_told true false false false false = record { read = refl; plain = plain_by _ refl refl }
flags_told false true true true true = record { read = refl; plain = plain_by _ refl refl }
flags_told false true true true false = record { read = refl; plain = plain_by _ refl refl }
flags_told false true true false true = record { read = refl; plain = plain_by _ refl refl }
flags_told false true true false false = record { read = refl; plain = plain_by _ refl refl }
flags_told false true false true true = record { read = refl; plain = plain_by _ refl refl }
flags_told false true false true false = record { read = refl; plain = plain_by _ refl refl }
flags_told false true false false true = record { read = refl; plain = plain_by _ refl refl }
flags_told false true false false false = record { read = refl; plain = plain_by _ refl refl }
flags_told false false true true true = record { read = refl; plain = plain_by _ refl refl }
flags_told false false true true false = record { read = refl; plain = plain_by _ refl refl }
flags_told false false true false true = record { read = refl; plain = plain_by _ refl refl }
flags_told false false true false false = record { read = refl; plain = plain_by _ refl refl }
flags_told false false false true true = record { read = refl; plain = plain_by _ refl refl }
flags_told false false false true false = record { read = refl; plain = plain_by _ refl refl }
flags_told false false false false true = record { read = refl; plain = plain_by _ refl refl }
flags_told false false false false false = record { read = refl; plain = plain_by _ refl refl }

pub told : (flags : Flags) → IsOfFlags flags (flags_text flags)
told flags = flags_told flags.p flags.w flags.x flags.a flags.d

flags_read : (flags : Flags) → meaning_of FLAGS (flags_text flags) ≡ Ok flags
flags_read flags = rw (told flags).read refl

plain_number : (kind : Operand) (n : ℕ) → fits kind n ≡ true → IsPlain (decimal n)
plain_number kind n fit = plain_decimal n (fits-lt kind n fit)

-- one operand more is read
made_of-cons : (kind : Operand) (kinds : List Operand) (makes : Makes (kind ∷ kinds)) (word : List ℕ) (words : List (List ℕ)) (x : Meaning kind) → meaning_of kind word ≡ Ok x → made_of (kind ∷ kinds) makes (word ∷ words) ≡ made_of kinds (makes x) words
made_of-cons kind kinds makes word words x is = ap (λ r. r >>= λ y. made_of kinds (makes y) words) is

inner_is_ascii : (b : ℕ) → is_inner b ≡ true → nat_lt b 128 ≡ true
inner_is_ascii b inner = (and_parts (nat_lt 31 b) (nat_lt b 128) inner).1

-- a row's word and words that it takes spell what it makes of them
pub of_row : (r : Row) (words : List (List ℕ)) (said : Line) → IsPlain r.word → ArePlain words → starts_with nat_eq r.word (codes "#") ≡ false → row_of r.word ≡ Some r → line_of (Some r) words ≡ Ok said → Spells (r.word ++ spaced words) said
of_row r words said plain others no_comment found made =
    let text : List ℕ = r.word ++ spaced words in
    let inner : list_all is_inner text ≡ true = inner_spaced r.word words plain others in
    let ascii : list_all (λ b. nat_lt b 128) text ≡ true = all_more is_inner (λ b. nat_lt b 128) inner_is_ascii text inner in
    record { spells = rw (words_of-spaced r.word words plain others, no_comment, ascii, found, made) refl; inner = inner }

-- what is written of a move spells it
pub move_spells : (m : Move) → move_fits m ≡ true → Spells (move_text m) (one_move m)
move_spells (SetPte page frame flags) fit =
    let parts0 = and_parts (fits PAGE page.0) (fits FRAME frame.0) fit in
    let numbers : List (List ℕ) = decimal page.0 ∷ decimal frame.0 ∷ [] in
    let said : Line = one_move (SetPte page frame flags) in
    let one = of_row setpte (decimal page.0 ∷ decimal frame.0 ∷ flags_text flags ∷ []) said (plain_by _ refl refl) (plain_number PAGE page.0 parts0.0, (plain_number FRAME frame.0 parts0.1, ((told flags).plain, tt))) refl refl (rw (page_read page parts0.0, frame_read frame parts0.1, flags_read flags) refl) in
    let parts = subst (λ rest. Spells (setpte.word ++ rest) said) (spaced_push numbers (flags_text flags)) one in
    subst (λ text. Spells text said) (sym (append_assoc (setpte.word ++ spaced numbers) (codes " ") (flags_text flags))) parts
move_spells (ReadPte page) fit =
    of_row readpte (decimal page.0 ∷ []) _ (plain_by _ refl refl) (plain_number PAGE page.0 fit, tt) refl refl (rw (page_read page fit) refl)
move_spells (Eblock frame) fit =
    of_row eblock (decimal frame.0 ∷ []) _ (plain_by _ refl refl) (plain_number FRAME frame.0 fit, tt) refl refl (rw (frame_read frame fit) refl)
move_spells Etrack fit =
    of_row etrack ([]) _ (plain_by _ refl refl) tt refl refl refl
move_spells (Ewb frame va slot) fit =
    let parts0 = and_parts (fits FRAME frame.0) (fits FRAME va.0 && fits SLOT slot) fit in
    let parts1 = and_parts (fits FRAME va.0) (fits SLOT slot) parts0.1 in
    of_row ewb (decimal frame.0 ∷ decimal va.0 ∷ decimal slot ∷ []) _ (plain_by _ refl refl) (plain_number FRAME frame.0 parts0.0, (plain_number FRAME va.0 parts1.0, (plain_number SLOT slot parts1.1, tt))) refl refl (rw (frame_read frame parts0.0, frame_read va parts1.0, number_read SLOT slot parts1.1) refl)
move_spells (Eldu frame handle page va slot) fit =
    let parts0 = and_parts (fits FRAME frame.0) (fits HANDLE handle.0 && (fits PAGE page.0 && (fits FRAME va.0 && fits SLOT slot))) fit in
    let parts1 = and_parts (fits HANDLE handle.0) (fits PAGE page.0 && (fits FRAME va.0 && fits SLOT slot)) parts0.1 in
    let parts2 = and_parts (fits PAGE page.0) (fits FRAME va.0 && fits SLOT slot) parts1.1 in
    let parts3 = and_parts (fits FRAME va.0) (fits SLOT slot) parts2.1 in
    of_row eldu (decimal frame.0 ∷ decimal handle.0 ∷ decimal page.0 ∷ decimal va.0 ∷ decimal slot ∷ []) _ (plain_by _ refl refl) (plain_number FRAME frame.0 parts0.0, (plain_number HANDLE handle.0 parts1.0, (plain_number PAGE page.0 parts2.0, (plain_number FRAME va.0 parts3.0, (plain_number SLOT slot parts3.1, tt))))) refl refl (rw (frame_read frame parts0.0, handle_read handle parts1.0, page_read page parts2.0, frame_read va parts3.0, number_read SLOT slot parts3.1) refl)
move_spells (Eldb frame handle page va slot) fit =
    let parts0 = and_parts (fits FRAME frame.0) (fits HANDLE handle.0 && (fits PAGE page.0 && (fits FRAME va.0 && fits SLOT slot))) fit in
    let parts1 = and_parts (fits HANDLE handle.0) (fits PAGE page.0 && (fits FRAME va.0 && fits SLOT slot)) parts0.1 in
    let parts2 = and_parts (fits PAGE page.0) (fits FRAME va.0 && fits SLOT slot) parts1.1 in
    let parts3 = and_parts (fits FRAME va.0) (fits SLOT slot) parts2.1 in
    of_row eldb (decimal frame.0 ∷ decimal handle.0 ∷ decimal page.0 ∷ decimal va.0 ∷ decimal slot ∷ []) _ (plain_by _ refl refl) (plain_number FRAME frame.0 parts0.0, (plain_number HANDLE handle.0 parts1.0, (plain_number PAGE page.0 parts2.0, (plain_number FRAME va.0 parts3.0, (plain_number SLOT slot parts3.1, tt))))) refl refl (rw (frame_read frame parts0.0, handle_read handle parts1.0, page_read page parts2.0, frame_read va parts3.0, number_read SLOT slot parts3.1) refl)
move_spells (Eremove frame) fit =
    of_row eremove (decimal frame.0 ∷ []) _ (plain_by _ refl refl) (plain_number FRAME frame.0 fit, tt) refl refl (rw (frame_read frame fit) refl)
move_spells (Epa frame) fit =
    of_row epa (decimal frame.0 ∷ []) _ (plain_by _ refl refl) (plain_number FRAME frame.0 fit, tt) refl refl (rw (frame_read frame fit) refl)
move_spells (Discard handle) fit =
    of_row discard (decimal handle.0 ∷ []) _ (plain_by _ refl refl) (plain_number HANDLE handle.0 fit, tt) refl refl (rw (handle_read handle fit) refl)
move_spells (Eenter lp value) fit =
    let parts0 = and_parts (fits LP lp.0) (fits VALUE value) fit in
    of_row eenter (decimal lp.0 ∷ decimal value ∷ []) _ (plain_by _ refl refl) (plain_number LP lp.0 parts0.0, (plain_number VALUE value parts0.1, tt)) refl refl (rw (lp_read lp parts0.0, number_read VALUE value parts0.1) refl)
move_spells (Eresume lp) fit =
    of_row eresume (decimal lp.0 ∷ []) _ (plain_by _ refl refl) (plain_number LP lp.0 fit, tt) refl refl (rw (lp_read lp fit) refl)
move_spells (Run lp turns) fit =
    let parts0 = and_parts (fits LP lp.0) (fits TURNS turns) fit in
    of_row run (decimal lp.0 ∷ decimal turns ∷ []) _ (plain_by _ refl refl) (plain_number LP lp.0 parts0.0, (plain_number TURNS turns parts0.1, tt)) refl refl (rw (lp_read lp parts0.0, number_read TURNS turns parts0.1) refl)
move_spells (Interrupt lp) fit =
    of_row interrupt (decimal lp.0 ∷ []) _ (plain_by _ refl refl) (plain_number LP lp.0 fit, tt) refl refl (rw (lp_read lp fit) refl)

-- the same of an item, and of an input
pub item_spells : (i : Item) → item_fits i ≡ true → Spells (item_text i) (says.Item i)
item_spells (item.Move m) fit = move_spells m fit
item_spells (item.Auto moves) fit =
    of_row honest (decimal moves ∷ []) _ (plain_by _ refl refl) (plain_number MOVES moves fit, tt) refl refl (rw (number_read MOVES moves fit) refl)

pub input_spells : (value : ℕ) → fits VALUE value ≡ true → Spells (input_text value) (says.Input value)
input_spells value fit =
    of_row input (decimal value ∷ []) _ (plain_by _ refl refl) (plain_number VALUE value fit, tt) refl refl (rw (number_read VALUE value fit) refl)
