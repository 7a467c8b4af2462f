-- The moves before the one in which the enclave stopped, and before the one that left by the last page fault. Moves stand with
-- the newest first.
use Rattle.std.specs.Prelude.{not, List, is_some}
use Rattle.ak_core.specs.Layout.{Layout}
use Rattle.ak_core.specs.declared.event.Event.{Event}
use Rattle.ak_core.specs.declared.moves.Move.{Move}
use Rattle.ak_model.specs.Paging.Histories.{Change, change}
use Rattle.ak_model.specs.Control.Answers.{answer}
use Rattle.ak_model.specs.Control.Trace.{Moment, trace}
use Rattle.ak_model.specs.Stops.Blame.{faults, before_last}

-- what a move changes at a moment
abbrev pub changed : Layout → Moment → Move → Change
changed layout moment m = change m (answer layout moment.past moment.control m)

-- the moves before the one in which the enclave stopped: before that move there was no cause yet
abbrev pub before_stop : Layout → List Event → List Move → List Move
before_stop layout tape moves = before_last (λ m. λ older. not (is_some (trace layout tape older).control.cause)) moves

-- the moves before the one that left by the last page fault; their history is past_before_fault of the whole one
abbrev pub moves_before_fault : Layout → List Event → List Move → List Move
moves_before_fault layout tape moves = before_last (λ m. λ older. faults (changed layout (trace layout tape older) m)) moves
