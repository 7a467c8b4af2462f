-- Words for what laws ask and say of a tape.
use Rattle.std.specs.Prelude.{ℕ, ◌≤◌, ◌<◌, List, [], ◌∷◌, length, Option, Some, None, nat_le, ◌==◌, if◌then◌else◌}
use Rattle.ak_core.specs.Layout.{Layout}
use Rattle.ak_core.specs.declared.event.Event.{Event}
use Rattle.ak_core.specs.declared.event.Event.TheVariants.{Call, Miss, Trap, Break}
use Rattle.ak_model.specs.Laws.MissedClusters.{missed_on, AreOut}
use Rattle.ak_model.specs.Control.EventTurn.{count_of}

-- all events but the last k
abbrev pub all_but_last : ℕ → List Event → List Event
all_but_last k [] = []
all_but_last k (event ∷ rest) =
    if nat_le k (length rest) then event ∷ all_but_last k rest else []

-- the first of these events, if there is one, is not due before this count
abbrev pub IsLater : List Event → ℕ → Type 0
IsLater [] count = Unit {0}
IsLater (event ∷ rest) count = count ≤ count_of event

-- each miss is of a cluster of the layout that is out by the misses before it, from this queue on
abbrev pub MissesFit : Layout → List ℕ → List Event → Type 0
MissesFit layout queue tape = AreOut layout queue (missed_on tape)

-- a miss of this count, before others
abbrev pub with_miss : ℕ → Event → List ℕ → List ℕ
with_miss i (Miss j c) others = if j == i then c ∷ others else others
with_miss i _ others = others

-- the clusters that were missed at this count, in order
abbrev pub misses_at : List Event → ℕ → List ℕ
misses_at [] i = []
misses_at (event ∷ tape) i = with_miss i event (misses_at tape i)

-- a turn of this count and event, where instructions are complete up to a bound: one that completes is below the bound
abbrev pub IsCounted : ℕ → ℕ → Option Event → Type 0
IsCounted bound count None = count < bound
IsCounted bound count (Some (Call i b a)) = count < bound
IsCounted bound count (Some (Miss i c)) = count ≤ bound
IsCounted bound count (Some (Trap i v)) = count ≤ bound
IsCounted bound count (Some (Break i)) = count ≤ bound
