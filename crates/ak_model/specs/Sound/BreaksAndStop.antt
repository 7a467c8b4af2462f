-- Two parts of the soundness of a journal, on how an enclave ends for ever: breaks are forced where translations are kept, and
-- name the page of the stop; and the stop is that of the control state, with the move to blame. (The Autarky paper,
-- self-paging runtime: a fault on a page that should be there ends the enclave.)
use Rattle.std.specs.Prelude.{◌≡◌, ℕ, List, reverse, Option, Some, None}
use Rattle.ak_core.specs.Layout.{Layout}
use Rattle.ak_core.specs.Journal.{Journal}
use Rattle.ak_core.specs.Mem.{Access}
use Rattle.ak_core.specs.declared.page.Page.{Page}
use Rattle.ak_core.specs.declared.page.Kind.{Kind}
use Rattle.ak_core.specs.declared.event.Event.{Event}
use Rattle.ak_core.specs.declared.event.Stop.{Stop}
use Rattle.ak_core.specs.declared.event.StopCause.{StopCause}
use Rattle.ak_core.specs.declared.event.StopCause.TheVariants.{Unmapped}
use Rattle.ak_model.specs.Paging.Histories.{History}
use Rattle.ak_model.specs.Control.ControlState.{Cause, ByBreak, Named}
use Rattle.ak_model.specs.Control.Trace.{trace}
use Rattle.ak_model.specs.Tapes.LastMoment.{FlatRuns, last_moment, runs_of}
use Rattle.ak_model.specs.Tapes.ProgramTurns.{ProgramTurn}
use Rattle.ak_model.specs.Sound.Forced.{queue_by, FaultsIn, IfBroken, EachBreak}
use Rattle.ak_model.specs.Misses.KeptTranslations.{MayFaultUnkept}
use Rattle.ak_model.specs.Stops.Blame.{blame}
use Rattle.ak_model.specs.Stops.MovesBefore.{before_stop}

-- ---- Breaks

-- a cause that says that the program's page was unmapped names this access
abbrev pub NamedBy : StopCause → Access → Type 0
NamedBy (Unmapped p kind) t = (t.page ≡ p) × (t.kind ≡ kind)
NamedBy _ t = Unit {0}

-- so does a stop with such a cause
abbrev pub NamesAccess : Option Stop → Access → Type 0
NamesAccess None t = Unit {0}
NamesAccess (Some stop) t = NamedBy stop.cause t

-- this access of the turn may break it: it may fault, its translation is not kept, and a stop for an unmapped page of the
-- program names it
pub record MayBreak (layout : Layout) (runs : FlatRuns) (stop : Option Stop) (turn : ProgramTurn) (older : List ProgramTurn) (t : Access) : Type 0 where
  pub unkept : MayFaultUnkept layout runs turn older t
  pub named : NamesAccess stop t

-- a break is forced: an access may break the turn though its cluster is in by the misses before
abbrev pub BreakIsForcedUnkept : Layout → FlatRuns → Option Stop → ProgramTurn → List ProgramTurn → Type 0
BreakIsForcedUnkept layout runs stop turn older = FaultsIn layout (queue_by layout older) (MayBreak layout runs stop turn older)

-- a turn with this event: where it breaks, that is forced
abbrev pub BrokenUnkeptBy : Layout → FlatRuns → Option Stop → ProgramTurn → List ProgramTurn → Option Event → Type 0
BrokenUnkeptBy layout runs stop turn older event = IfBroken event (BreakIsForcedUnkept layout runs stop turn older)

-- each turn of the journal that breaks is forced to
abbrev pub BreaksAreForcedUnkept : List ℕ → Layout → Journal → Type 0
BreaksAreForcedUnkept image layout journal = EachBreak layout journal (BreakIsForcedUnkept layout (runs_of layout image journal) journal.stop)

-- ---- The stop

-- the stop for a cause, with the move to blame
abbrev pub stop_for : Layout → History → StopCause → Stop
stop_for layout past cause = record { cause = cause; blame = blame layout past cause }

-- the stop that a cause in the control state comes to. That the program broke says no page: the stop says which
abbrev pub IsStop : Layout → History → Option Cause → Option Stop → Type 0
IsStop layout past None stop = stop ≡ None
IsStop layout past (Some (Named cause)) stop = stop ≡ Some (stop_for layout past cause)
IsStop layout past (Some ByBreak) stop = (p : Page) × (kind : Kind) × (stop ≡ Some (stop_for layout past (Unmapped p kind)))

-- the journal's stop is that of its last moment, blamed by the history before the move in which the enclave stopped
pub record IsStopped (layout : Layout) (journal : Journal) : Type 0 where
  pub stopped : IsStop layout (trace layout journal.events (before_stop layout journal.events (reverse journal.moves))).past
      (last_moment layout journal).control.cause journal.stop
