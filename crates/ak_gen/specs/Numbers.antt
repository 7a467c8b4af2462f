-- The numbers that a number begins, each made from the one before it, and the words that they give.
use Rattle.std.specs.Prelude.{ℕ, ◌+◌, ◌*◌, ◌/◌, ◌%◌, ◌^◌, List}
use Rattle.std.specs.Fn.{iterate}
use Rattle.std.specs.Int.{w64, to_le_bytes}
use Rattle.std.specs.List.{flat_map, range_with_len}

-- the number after a number
unfoldable pub next : ℕ → ℕ
next x = (6364136223846793005 * x + 1442695040888963407) % 2 ^ 64

-- the number after so many steps
unfoldable pub number_after : ℕ → ℕ → ℕ
number_after steps x = iterate next steps x

-- how many words there are in the pages of data: 512 in each of 511 pages
abbrev pub all_words : ℕ
all_words = 511 * 512

-- the word that a number gives: the place of a word in the pages of data
unfoldable pub word_of : ℕ → ℕ
word_of x = x / 2 ^ 20 % all_words

-- the word at a place, counted from 0
abbrev pub word_at : ℕ → ℕ → ℕ
word_at x place = word_of (number_after (place + 1) x)

-- the bytes of so many words, eight of each, the lowest first
unfoldable pub word_bytes : ℕ → ℕ → List ℕ
word_bytes count x = flat_map (λ place. to_le_bytes w64 (word_at x place)) (range_with_len 0 count)
