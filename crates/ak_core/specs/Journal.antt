-- What contracts see of a journal: what happened, each list in order, and the room that was made for more.
use Rattle.std.specs.Prelude.{◌≡◌, ℕ, List, [], ◌∷◌, ◌++◌, Option, Some, None}
use Rattle.ak_core.specs.declared.moves.Move.{Move}
use Rattle.ak_core.specs.declared.moves.Answer.{Answer}
use Rattle.ak_core.specs.declared.event.Event.{Event}
use Rattle.ak_core.specs.declared.event.Stop.{Stop}

-- what happened: moves and answers, outputs, events, the stop, and the room
pub record Journal : Type 0 where
  pub moves : List Move
  pub answers : List Answer
  pub outputs : List ℕ
  pub events : List Event
  pub stop : Option Stop
  pub room : ℕ  -- so many more of each list take no memory

-- a list with one more at its end, if there is one
abbrev pub with_more : {A : Type 0} → List A → Option A → List A
with_more xs None = xs
with_more xs (Some x) = xs ++ x ∷ []

-- the first stop stays
abbrev pub first_stop : Option Stop → Option Stop → Option Stop
first_stop None stop = stop
first_stop (Some earlier) stop = Some earlier

-- the same happened; the room may differ
pub record SameLists (old new : Journal) : Type 0 where
  pub moves : new.moves ≡ old.moves
  pub answers : new.answers ≡ old.answers
  pub outputs : new.outputs ≡ old.outputs
  pub events : new.events ≡ old.events
  pub stop : new.stop ≡ old.stop
