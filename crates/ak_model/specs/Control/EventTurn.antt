-- One turn of the program, as far as the kernel can see it: an instruction completes, unless the next event is due.
use Rattle.std.specs.Prelude.{ℕ, ◌+◌, true, List, [], ◌∷◌, Option, Some, None, ◌==◌, if◌then◌else◌}
use Rattle.std.specs.Bool.{then_some}
use Rattle.ak_core.specs.Layout.{Layout}
use Rattle.ak_core.specs.declared.moves.Exit.{Exit}
use Rattle.ak_core.specs.declared.event.Event.{Event}
use Rattle.ak_core.specs.declared.event.Event.TheVariants.{Call, Miss, Trap, Break}
use Rattle.ak_model.specs.Control.ControlState.{Program, Leave, Reason, Raised, Denied, Missed, Broke, Control}
use Rattle.ak_model.specs.Control.OneTurn.{Turn, Goes, Leaves}
use Rattle.ak_model.specs.Control.RuntimeTurn.{save, shown_fault}

-- how many instructions were complete before the event
abbrev pub count_of : Event → ℕ
count_of (Call i b a) = i
count_of (Miss i c) = i
count_of (Trap i v) = i
count_of (Break i) = i

-- the event that this turn gives, if one is due
abbrev pub due : ℕ → List Event → Option Event
due count [] = None
due count (event ∷ rest) = then_some (count_of event == count) event

-- the events after the first
abbrev pub without_first : List Event → List Event
without_first [] = []
without_first (event ∷ rest) = rest

-- the program is left by a fault or a vector, for this reason
abbrev pub leave_program : Exit → Reason → Control → Turn
leave_program exit reason control =
    Leaves exit (record (save control Program reason) { pending = true; rest = without_first control.rest })

-- a vector: number 14 is a denied access, shown as a page fault
abbrev pub vector_turn : Layout → Control → ℕ → Turn
vector_turn layout control v =
    if v == 14 then leave_program (shown_fault layout) Denied control else leave_program (Exit.Vector v) (Raised v) control

-- the turn with this event, or an ordinary one
abbrev pub event_turn : Layout → Control → Option Event → Turn
event_turn layout control None = Goes (record control { count = control.count + 1 })
event_turn layout control (Some (Call i b a)) =
    Goes (record control { count = control.count + 1; rest = without_first control.rest; now = Some (Leave b a) })
event_turn layout control (Some (Miss i c)) = leave_program (shown_fault layout) (Missed c) control
event_turn layout control (Some (Break i)) = leave_program (shown_fault layout) Broke control
event_turn layout control (Some (Trap i v)) = vector_turn layout control v

-- one turn of the program
abbrev pub program_turn : Layout → Control → Turn
program_turn layout control = event_turn layout control (due control.count control.rest)
