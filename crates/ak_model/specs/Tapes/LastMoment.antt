-- Where a journal ends: the last moment of its trace, and the flat run with the answers that its calls had.
use Rattle.std.specs.Prelude.{ℕ, List, reverse, Option}
use Rattle.ak_core.specs.Layout.{Layout}
use Rattle.ak_core.specs.Journal.{Journal}
use Rattle.ak_model.specs.Control.Trace.{Moment, trace}
use Rattle.ak_model.specs.Flat.FlatRuns.{FlatRun, flat_run}

-- the last moment of the trace of a journal's moves and events
abbrev pub last_moment : Layout → Journal → Moment
last_moment layout journal = trace layout journal.events (reverse journal.moves)

-- a flat run, by the number of completed instructions
abbrev pub FlatRuns : Type 0
FlatRuns = ℕ → Option FlatRun

-- the flat run of an image, with the values that the journal's calls returned
abbrev pub runs_of : Layout → List ℕ → Journal → FlatRuns
runs_of layout image journal = flat_run layout image (last_moment layout journal).control.returned
