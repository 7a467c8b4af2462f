-- What may follow the first word of a line, and what it means. This project's own.
use Rattle.std.specs.Prelude.{ℕ, ◌^◌, ◌-◌, List, Bool, nat_le, ◌&&◌, if◌then◌else◌, Option, Some, None, Result, Ok, Err}
use Rattle.std.specs.Option.{ok_or}
use Rattle.ak_core.specs.declared.page.Flags.{Flags}
use Rattle.ak_core.specs.declared.page.Frame.{Frame}
use Rattle.ak_core.specs.declared.page.Handle.{Handle}
use Rattle.ak_core.specs.declared.page.Lp.{Lp}
use Rattle.ak_core.specs.declared.page.Page.{Page}
use Rattle.ak_script.specs.declared.fault.Refusal.{Refusal}
use Rattle.ak_script.specs.declared.fault.Refusal.TheVariants as why
use Rattle.ak_script.specs.Words.{number_of, flags_of}

-- the kinds of operands
pub data Operand : Type 0 where
  PAGE : Operand
  FRAME : Operand
  HANDLE : Operand
  SLOT : Operand
  LP : Operand
  VALUE : Operand
  TURNS : Operand
  MOVES : Operand
  FLAGS : Operand

-- what an operand is in a move
abbrev pub Meaning : Operand → Type 0
Meaning PAGE = Page
Meaning FRAME = Frame
Meaning HANDLE = Handle
Meaning SLOT = ℕ
Meaning LP = Lp
Meaning VALUE = ℕ
Meaning TURNS = ℕ
Meaning MOVES = ℕ
Meaning FLAGS = Flags

-- the least number of a kind
abbrev pub least : Operand → ℕ
least TURNS = 1
least MOVES = 1
least _ = 0

-- the largest number of a kind
abbrev pub most : Operand → ℕ
most PAGE = 2 ^ 32 - 1
most FRAME = 2 ^ 32 - 1
most HANDLE = 2 ^ 32 - 1
most SLOT = 511
most LP = 3
most VALUE = 2 ^ 64 - 1
most TURNS = 1000000
most MOVES = 20000
most FLAGS = 0

-- whether a number is between two others, or one of them
abbrev pub is_within : ℕ → ℕ → ℕ → Bool
is_within first last n = nat_le first n && nat_le n last

-- whether a number is in the range of a kind
abbrev pub fits : Operand → ℕ → Bool
fits kind n = is_within (least kind) (most kind) n

-- what comes next, where nothing was refused yet
infixl 10 ◌>>=◌
abbrev pub ◌>>=◌ : {A B : Type 0} → Result A Refusal → (A → Result B Refusal) → Result B Refusal
(Ok x) >>= f = f x
(Err why) >>= f = Err why

-- a number that is there, and in its range
abbrev pub in_range : ℕ → ℕ → Option ℕ → Result ℕ Refusal
in_range first last None = Err why.Number
in_range first last (Some n) = if is_within first last n then Ok n else Err why.Range

-- the number that a word spells, in a range
abbrev pub number_within : ℕ → ℕ → List ℕ → Result ℕ Refusal
number_within first last word = in_range first last (number_of word)

-- the number of a kind that a word spells
abbrev pub number_in : Operand → List ℕ → Result ℕ Refusal
number_in kind word = number_within (least kind) (most kind) word

-- what a word means, with its range
abbrev pub meaning_of : (kind : Operand) → List ℕ → Result (Meaning kind) Refusal
meaning_of PAGE word = number_in PAGE word >>= λ n. Ok (record { 0 = n })
meaning_of FRAME word = number_in FRAME word >>= λ n. Ok (record { 0 = n })
meaning_of HANDLE word = number_in HANDLE word >>= λ n. Ok (record { 0 = n })
meaning_of SLOT word = number_in SLOT word
meaning_of LP word = number_in LP word >>= λ n. Ok (record { 0 = n })
meaning_of VALUE word = number_in VALUE word
meaning_of TURNS word = number_in TURNS word
meaning_of MOVES word = number_in MOVES word
meaning_of FLAGS word = ok_or (flags_of word) why.Flags
