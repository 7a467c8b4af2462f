-- The clusters that are in, as the events of the program's turns say.
use Rattle.std.specs.Prelude.{◌≡◌, ℕ, ◌<◌, false, List, Option, Some}
use Rattle.ak_core.specs.Layout.{Layout}
use Rattle.ak_core.specs.declared.event.Event.{Event}
use Rattle.ak_core.specs.declared.event.Event.TheVariants.{Miss}
use Rattle.ak_model.specs.Clusters.Queue.{after_miss, is_in}

-- the queue after an event, if there is one
abbrev pub queue_by_event : Layout → List ℕ → Option Event → List ℕ
queue_by_event layout queue (Some (Miss i c)) = after_miss layout queue c
queue_by_event layout queue _ = queue

-- a miss is of a cluster that is out, one of the 512 that there may be
abbrev pub IsServable : List ℕ → Option Event → Type 0
IsServable queue (Some (Miss i c)) = (c < 512) × (is_in queue c ≡ false)
IsServable queue _ = Unit {0}
