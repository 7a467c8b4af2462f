-- Which accesses of the program may fault.
use Rattle.std.specs.Prelude.{◌≡◌, ℕ, Bool, false, ◌&&◌, not, IsTrue, take, slice_get, Some}
use Rattle.std.specs.List.{list_all}
use Rattle.ak_core.specs.Layout.{Layout}
use Rattle.ak_core.specs.Mem.{Access}
use Rattle.ak_model.specs.Paging.Walk.{access_walkable}
use Rattle.ak_model.specs.Flat.FlatRuns.{is_forbidden}
use Rattle.ak_model.specs.Tapes.LastMoment.{FlatRuns}
use Rattle.ak_model.specs.Tapes.ProgramTurns.{ProgramTurn}
use Rattle.ak_model.specs.Misses.Reached.{reached, accesses_at}

-- the access may succeed: it is permitted, and was reached
abbrev pub may_succeed : Layout → ProgramTurn → Access → Bool
may_succeed layout turn t = not (is_forbidden layout t) && reached layout turn t

-- this access of the turn's instruction may fault: it is permitted, no walk finds it at the turn, and each access of the
-- instruction before it may succeed
pub record MayFault (layout : Layout) (runs : FlatRuns) (turn : ProgramTurn) (t : Access) : Type 0 where
  pub place : ℕ
  pub stands : slice_get (accesses_at layout runs turn) place ≡ Some t
  pub permitted : is_forbidden layout t ≡ false
  pub unmapped : access_walkable layout turn.past t ≡ false
  pub earlier : IsTrue (list_all (may_succeed layout turn) (take place (accesses_at layout runs turn)))
