-- The letters by which the flags of a page-table entry are written. This project's own.
use Rattle.std.specs.Prelude.{ℕ, List, [], ◌∷◌}

-- p
abbrev pub PRESENT : ℕ
PRESENT = 112

-- w
abbrev pub WRITABLE : ℕ
WRITABLE = 119

-- x
abbrev pub EXECUTABLE : ℕ
EXECUTABLE = 120

-- a
abbrev pub ACCESSED : ℕ
ACCESSED = 97

-- d
abbrev pub DIRTY : ℕ
DIRTY = 100

-- all, in the order in which they are written
abbrev pub letters : List ℕ
letters = PRESENT ∷ WRITABLE ∷ EXECUTABLE ∷ ACCESSED ∷ DIRTY ∷ []
