-- Why a line is refused: the number and the word that say so. This project's own.
use Rattle.std.specs.Prelude.{ℕ, List, codes}
use Rattle.ak_script.specs.declared.fault.Refusal.{Refusal}
use Rattle.ak_script.specs.declared.fault.Refusal.TheVariants.{NotAscii, Unknown, Words, Number, Range, TooMany, Flags}

-- the number
abbrev pub number_of : Refusal → ℕ
number_of NotAscii = 1
number_of Unknown = 2
number_of Words = 3
number_of Number = 4
number_of Range = 5
number_of TooMany = 6
number_of Flags = 7

-- the word
abbrev pub word_of : Refusal → List ℕ
word_of NotAscii = codes "notascii"
word_of Unknown = codes "unknown"
word_of Words = codes "words"
word_of Number = codes "number"
word_of Range = codes "range"
word_of TooMany = codes "toomany"
word_of Flags = codes "flags"
