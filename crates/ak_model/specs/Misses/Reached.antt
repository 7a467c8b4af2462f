-- Which accesses of the program were reached: a walk has found them since the processor entered.
use Rattle.std.specs.Prelude.{◌≡◌, ℕ, ◌+◌, Bool, false, ◌&&◌, ◌||◌, not, IsTrue, List, [], ◌∷◌, length, take_while, Option, Some, None, unwrap_or, nat_le}
use Rattle.std.specs.List.{list_all}
use Rattle.ak_core.specs.Layout.{Layout}
use Rattle.ak_core.specs.Mem.{Access}
use Rattle.ak_model.specs.Paging.Histories.{History}
use Rattle.ak_model.specs.Paging.Inside.{since}
use Rattle.ak_model.specs.Paging.Walk.{access_walkable}
use Rattle.ak_model.specs.Flat.FlatRuns.{FlatRun, line, is_forbidden}
use Rattle.ak_model.specs.Tapes.LastMoment.{FlatRuns}
use Rattle.ak_model.specs.Tapes.ProgramTurns.{ProgramTurn}

-- ---- Walks since the entering

-- the place of the entering of this turn's processor; a place that is still to come where it is not inside
abbrev pub entered_at : ProgramTurn → ℕ
entered_at turn = unwrap_or (since turn.past turn.lp) (length turn.past + 1)

-- a walk finds the access at some moment from that place on
abbrev pub reached_since : Layout → ℕ → History → Access → Bool
reached_since layout place [] t = false
reached_since layout place (pair ∷ past) t =
    nat_le place (length past + 1) && (access_walkable layout (pair ∷ past) t || reached_since layout place past t)

-- a walk has found the access since the entering of this turn's processor
abbrev pub reached : Layout → ProgramTurn → Access → Bool
reached layout turn t = reached_since layout (entered_at turn) turn.past t

-- ---- The accesses of a turn

-- the accesses of a run's next instruction
abbrev pub accesses_next : Layout → Option FlatRun → List Access
accesses_next layout None = []
accesses_next layout (Some run) = (line layout run.flat).accesses

-- the accesses of this turn's instruction
abbrev pub accesses_at : Layout → FlatRuns → ProgramTurn → List Access
accesses_at layout runs turn = accesses_next layout (runs turn.count)

-- the flat run comes to this turn's instruction
abbrev pub ComesTo : FlatRuns → ProgramTurn → Type 0
ComesTo runs turn = (run : FlatRun) × (runs turn.count ≡ Some run)

-- the accesses before the first forbidden one
abbrev pub permitted_accesses : Layout → List Access → List Access
permitted_accesses layout accesses = take_while (λ t. not (is_forbidden layout t)) accesses

-- this turn's instruction may complete or trap: each access before the first forbidden one was reached
abbrev pub MayComplete : Layout → FlatRuns → ProgramTurn → Type 0
MayComplete layout runs turn =
    IsTrue (list_all (reached layout turn) (permitted_accesses layout (accesses_at layout runs turn)))
