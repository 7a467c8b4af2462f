-- The part of soundness on events: they agree with the program over memory never paged.
use Rattle.std.specs.Prelude.{◌≡◌, ◌==◌, ℕ, ◌<◌, IsTrue, List, [], ◌∷◌, Option, Some, None, option_map, option_and_then, if◌then◌else◌}
use Rattle.ak_core.specs.Layout.{Layout}
use Rattle.ak_core.specs.Journal.{Journal}
use Rattle.ak_core.specs.declared.event.Event.{Event}
use Rattle.ak_core.specs.declared.event.Event.TheVariants.{Call, Trap}
use Rattle.ak_model.specs.Flat.FlatRuns.{End, ending}
use Rattle.ak_model.specs.Tapes.Tape.{is_tape}
use Rattle.ak_model.specs.Tapes.LastMoment.{last_moment, FlatRuns, runs_of}

-- a completed instruction with its call, if it is one; a vector completes nothing
abbrev pub completed_by : End → Option (Option (ℕ × ℕ))
completed_by (End.Next flat) = Some None
completed_by (End.Call b a flat) = Some (Some (b, a))
completed_by (End.Vector v) = None

-- the vector of an end
abbrev pub vector_by : End → Option ℕ
vector_by (End.Vector v) = Some v
vector_by _ = None

-- how instruction i ends, if the run comes to it
abbrev pub ending_at : Layout → FlatRuns → ℕ → Option End
ending_at layout runs i = option_map (λ run. ending layout run.flat) (runs i)

-- the call of an event at a count, or else another
abbrev pub call_of : ℕ → Event → Option (ℕ × ℕ) → Option (ℕ × ℕ)
call_of i (Call j b a) others = if j == i then Some (b, a) else others
call_of i _ others = others

-- the call that the tape has at a count
abbrev pub call_at : List Event → ℕ → Option (ℕ × ℕ)
call_at [] i = None
call_at (event ∷ tape) i = call_of i event (call_at tape i)

-- a trap is the vector of its instruction
abbrev pub TrapIsForced : Layout → FlatRuns → Event → Type 0
TrapIsForced layout runs (Trap i v) = option_and_then vector_by (ending_at layout runs i) ≡ Some v
TrapIsForced layout runs _ = Unit {0}

-- each trap on the tape is
abbrev pub TrapsAreForced : Layout → FlatRuns → List Event → Type 0
TrapsAreForced layout runs [] = Unit {0}
TrapsAreForced layout runs (event ∷ tape) = TrapIsForced layout runs event × TrapsAreForced layout runs tape

-- the journal's events are a tape; each completed instruction is one of the flat run, and a call just where the tape has it;
-- and each trap is a vector of the flat run
pub record EventsAreFlat (image : List ℕ) (layout : Layout) (journal : Journal) : Type 0 where
  pub tape : IsTrue (is_tape journal.events)
  pub completed : (i : ℕ) → i < (last_moment layout journal).control.count →
      option_and_then completed_by (ending_at layout (runs_of layout image journal) i) ≡ Some (call_at journal.events i)
  pub traps : TrapsAreForced layout (runs_of layout image journal) journal.events
