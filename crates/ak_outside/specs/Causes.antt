-- A fault of the outside is counted by the call that answers it.
use Rattle.std.specs.Prelude.{ℕ, ◌+◌, ◌-◌, ◌^◌, ◌≡◌, ◌≤◌, min, max, Result, Ok, Err}

-- one more, in a count of 64 bits that stays where it ends
abbrev pub one_more : ℕ → ℕ
one_more count = max count (min (count + 1) (2 ^ 64 - 1))

-- the count rose; one that stands at its end counts as risen
abbrev pub Rose : ℕ → ℕ → Type 0
Rose before now = one_more before ≤ now

-- the count grew by one at a fault, and else stayed
abbrev pub Counts : {T E : Type 0} → ℕ → ℕ → Result T E → Type 0
Counts before now (Ok x) = now ≡ before
Counts before now (Err fault) = now ≡ one_more before
