-- The place of a block is one of the history.
use Rattle.std.proofs.Common.{ℕ, suc, ◌+◌, ◌≤◌, [], ◌∷◌, length, arith}
use Rattle.std.specs.Prelude.{Bool, true, false, Option, Some, None, ◌==◌, if◌then◌else◌}
use Rattle.ak_model.specs.Paging.Histories.{History, Change, Unchanged, Maps, Blocks, Cycles, WritesOut, Loads, Removes, MakesVa, Discards, Enters, Resumes, Exits, Interrupts, change_of}
use Rattle.ak_model.specs.Paging.Frames.{blocked_at, blocked_after}

-- a place, if there is one, is at most this
abbrev pub Bounded : ℕ → Option ℕ → Type 0
Bounded n None = Unit {0}
Bounded n (Some x) = x ≤ n

-- of a larger bound too
pub bounded_more : (n m : ℕ) (o : Option ℕ) → n ≤ m → Bounded n o → Bounded m o
bounded_more n m None le h = tt
bounded_more n m (Some x) le h = omega arith

bounded_if : (b : Bool) (n : ℕ) (x y : Option ℕ) → Bounded n x → Bounded n y → Bounded n (if b then x else y)
bounded_if true n x y h k = h
bounded_if false n x y h k = k

-- so is the block of a frame after one more change
pub bounded_after : (c : Change) (f clock n : ℕ) (o : Option ℕ) → clock ≤ n → Bounded n o → Bounded n (blocked_after c f clock o)
bounded_after (Blocks g) f clock n None le h = bounded_if (f == g) n (Some clock) None le tt
bounded_after (Blocks g) f clock n (Some x) le h = bounded_if (f == g) n (Some x) (Some x) h h
bounded_after (Loads g k p va i true) f clock n o le h = bounded_if (f == g) n (Some clock) o le h
bounded_after (Loads g k p va i false) f clock n o le h = bounded_if (f == g) n None o tt h
bounded_after (MakesVa g) f clock n o le h = bounded_if (f == g) n None o tt h
bounded_after (WritesOut g va i k) f clock n o le h = bounded_if (f == g) n None o tt h
bounded_after (Removes g) f clock n o le h = bounded_if (f == g) n None o tt h
bounded_after Unchanged f clock n o le h = h
bounded_after (Maps p g flags) f clock n o le h = h
bounded_after Cycles f clock n o le h = h
bounded_after (Discards k) f clock n o le h = h
bounded_after (Enters lp v) f clock n o le h = h
bounded_after (Resumes lp) f clock n o le h = h
bounded_after (Exits lp exit) f clock n o le h = h
bounded_after (Interrupts lp) f clock n o le h = h

-- a block is not to come
pub block_bounded : (past : History) (f : ℕ) → Bounded (length past) (blocked_at past f)
block_bounded [] f = tt
block_bounded (pair ∷ past) f =
    bounded_after (change_of pair) f (length past + 1) (suc (length past)) (blocked_at past f) (omega arith)
    (bounded_more (length past) (suc (length past)) _ (omega arith) (block_bounded past f))
