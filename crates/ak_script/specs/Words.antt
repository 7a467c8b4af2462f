-- The words of a line, and what one word spells: a number, or flags. This project's own.
use Rattle.std.specs.Prelude.{ℕ, ◌+◌, ◌-◌, ◌*◌, List, Bool, not, ◌&&◌, ◌||◌, ◌==◌, if◌then◌else◌, length, slice_index, Option, Some, None, codes}
use Rattle.std.specs.Char.{is_ascii_digit}
use Rattle.std.specs.List.{filter, fold, list_all, list_any, slice_split}
use Rattle.std.specs.Str.{bytes_eq}
use Rattle.ak_core.specs.FlagLetters.{PRESENT, WRITABLE, EXECUTABLE, ACCESSED, DIRTY, letters}
use Rattle.ak_core.specs.declared.page.Flags.{Flags}

-- a space (32) or a tab (9)
abbrev pub is_blank : ℕ → Bool
is_blank b = b == 32 || b == 9

-- the words of a line: what stands between its blanks
abbrev pub words_of : List ℕ → List (List ℕ)
words_of line = filter (λ word. not (length word == 0)) (slice_split is_blank line)

-- decimal digits, at least one, and no 0 before others
abbrev pub is_number : List ℕ → Bool
is_number word = not (length word == 0) && list_all is_ascii_digit word && (length word == 1 || not (slice_index word 0 == 48))

-- the number that digits make; 48 is the digit 0
abbrev pub decimal : List ℕ → ℕ
decimal digits = fold (λ n digit. 10 * n + (digit - 48)) 0 digits

-- the number that the word spells, if it spells one
abbrev pub number_of : List ℕ → Option ℕ
number_of word = if is_number word then Some (decimal word) else None

-- whether this letter stands in the word
abbrev pub has : List ℕ → ℕ → Bool
has word letter = list_any (λ b. b == letter) word

-- the flags that the word spells, if it spells some: letters of flags, each once and in their order, or a dash for none
abbrev pub flags_of : List ℕ → Option Flags
flags_of word =
    if bytes_eq word (codes "-") || (not (length word == 0) && bytes_eq word (filter (has word) letters))
    then Some (record { p = has word PRESENT; w = has word WRITABLE; x = has word EXECUTABLE; a = has word ACCESSED; d = has word DIRTY })
    else None
