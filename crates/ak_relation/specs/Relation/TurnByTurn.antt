-- A run from its turns, one after another; and what is answered where there is none.
use Rattle.std.specs.Prelude.{◌≡◌, ℕ, zero, suc, not, ◌++◌, Option, None, nat_lt, if◌then◌else◌}
use Rattle.ak_core.specs.Layout.{Layout}
use Rattle.ak_core.specs.declared.event.Event.{Event}
use Rattle.ak_core.specs.declared.moves.Answer.{Answer}
use Rattle.ak_core.specs.declared.moves.Answer.TheVariants.{NoLp, Outside}
use Rattle.ak_relation.specs.State.MachineState.{State}
use Rattle.ak_relation.specs.Program.Turns.{listed}
use Rattle.ak_relation.specs.Relation.Does.{IsTurn}

-- so many turns that go on lead from one state to the other, with one event at most
abbrev pub AreTurns : Layout → ℕ → ℕ → State → State → Option Event → Type 0
AreTurns layout lp zero old new event = (old ≡ new) × (event ≡ None)
AreTurns layout lp (suc n) old new event =
    (mid : State) × (first : Option Event) × (second : Option Event) × AreTurns layout lp n old mid first × IsTurn layout lp mid new None second
    × (listed first ++ listed second ≡ listed event)

-- the answer to a run or an interrupt of a processor that is not inside
abbrev pub outside_answer : Layout → ℕ → Answer
outside_answer layout lp = if not (nat_lt lp layout.lps) then NoLp else Outside
