-- The tape: the events of a program, in order.
use Rattle.std.specs.Prelude.{ℕ, zero, suc, Bool, true, false, ◌&&◌, List, [], ◌∷◌, nat_lt, nat_le}
use Rattle.ak_core.specs.declared.event.Event.{Event}
use Rattle.ak_core.specs.declared.event.Event.TheVariants.{Call, Miss, Trap, Break}
use Rattle.ak_model.specs.Control.EventTurn.{count_of}

-- counts do not fall, and grow past a call; nothing comes after the program's end
abbrev pub may_precede : Event → ℕ → Bool
may_precede (Miss i c) j = nat_le i j
may_precede (Call i zero a) j = false
may_precede (Call i (suc b) a) j = nat_lt i j
may_precede (Trap i v) j = false
may_precede (Break i) j = false

-- the rest may follow an event
abbrev pub may_follow : Event → List Event → Bool
may_follow event [] = true
may_follow event (next ∷ rest) = may_precede event (count_of next)

-- the events of one program, in order
abbrev pub is_tape : List Event → Bool
is_tape [] = true
is_tape (event ∷ rest) = may_follow event rest && is_tape rest
