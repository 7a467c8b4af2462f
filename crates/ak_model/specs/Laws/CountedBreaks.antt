-- How many breaks there are.
use Rattle.std.specs.Prelude.{ℕ, ◌+◌, List, [], ◌∷◌, Option, Some}
use Rattle.ak_core.specs.declared.event.Event.{Event}
use Rattle.ak_core.specs.declared.event.Event.TheVariants.{Break}
use Rattle.ak_model.specs.Tapes.ProgramTurns.{ProgramTurn}

-- one, for a break
abbrev pub break_in : Option Event → ℕ
break_in (Some (Break i)) = 1
break_in _ = 0

-- among these turns
abbrev pub breaks_by : List ProgramTurn → ℕ
breaks_by [] = 0
breaks_by (turn ∷ older) = break_in turn.event + breaks_by older

-- on a tape
abbrev pub breaks_on : List Event → ℕ
breaks_on [] = 0
breaks_on (event ∷ tape) = break_in (Some event) + breaks_on tape
