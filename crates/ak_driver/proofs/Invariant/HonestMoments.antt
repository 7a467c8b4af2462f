-- What holds at each moment of an honest run.
use Rattle.std.specs.Prelude.{◌≡◌, ℕ, ◌<◌, Bool, true, false, ◌&&◌, ◌||◌, List, [], Option, Some, None, ◌==◌}
use Rattle.ak_core.specs.Layout.{Layout}
use Rattle.ak_core.specs.declared.moves.Move.{Move}
use Rattle.ak_model.specs.Paging.Pages.{pages, cluster_at}
use Rattle.ak_model.specs.Paging.Histories.{History}
use Rattle.ak_model.specs.Paging.Inside.{inside}
use Rattle.ak_model.specs.Clusters.Queue.{is_in}
use Rattle.ak_model.specs.Control.ControlState.{Control}
use Rattle.ak_model.specs.Kernels.Counted.{Request, service}
use Rattle.ak_model.specs.Kernels.Repeats.{was_refused}
use Rattle.ak_model.specs.Stops.ShownStop.{has_break, shows_stop}
use Rattle.ak_model.specs.Kernels.HonestKernel.{is_ended}
use Rattle.ak_model.specs.Kernels.KernelRules.{entered_since_ask}
use Rattle.ak_model.specs.Control.Trace.{Moment}
use Rattle.ak_model.specs.Laws.OneLiveCopy.{OneCopy}
use Rattle.ak_driver.proofs.Invariant.PageStates.{PageState, Out, Blocked, In}
use Rattle.ak_driver.proofs.Invariant.PagesStand.{PagesStand}
use Rattle.ak_driver.proofs.Invariant.Spots.{Spot, Requested, Answering, Over, Progress, control_at, is_within, asks, is_requested}

-- the clusters that are dropped for an open request
abbrev pub dropped_for : Option Request → List ℕ
dropped_for None = []
dropped_for (Some request) = request.dropped

-- while nothing is asked for a page is in where its cluster is, and out else
abbrev pub IsPlain : Bool → PageState → Type 0
IsPlain true state = state ≡ In
IsPlain false state = state ≡ Out

-- a page that is fetched is not blocked; a page of another cluster is out
abbrev pub IsFetched : Bool → PageState → Type 0
IsFetched true state = state ≡ Blocked → ⊥
IsFetched false state = state ≡ Out

-- while a cluster is asked for, the pages of the clusters that are dropped are on their way out, and its own on their way in
abbrev pub IsMoving : Bool → Bool → Bool → PageState → Type 0
IsMoving true dropped fetched state = state ≡ In
IsMoving false true fetched state = Unit {0}
IsMoving false false fetched state = IsFetched fetched state

-- what a page of this cluster may be at a spot, where its cluster is in or dropped
abbrev pub MayBe : Spot → Bool → Bool → ℕ → PageState → Type 0
MayBe (Requested c) there dropped x state = IsMoving there dropped (x == c) state
MayBe (Answering c step) there dropped x state = IsPlain (there || (x == c)) state
MayBe _ there dropped x state = IsPlain there state

-- the clusters that are in, dropped and asked for are apart
abbrev pub AreApart : Spot → List ℕ → List ℕ → Type 0
AreApart (Requested c) queue dropped = (is_in queue c ≡ false) × (is_in dropped c ≡ false) × ((x : ℕ) → is_in dropped x ≡ true → is_in queue x ≡ false)
AreApart (Answering c step) queue dropped = is_in queue c ≡ false
AreApart _ queue dropped = Unit {0}

-- the run is over at this spot
abbrev pub is_over_at : Spot → Bool
is_over_at (Over end stack) = true
is_over_at _ = false

-- the invariant: the control state is that of a spot, processor 0 alone goes inside, the pages are in states that fit the
-- queue and the request, and no move was refused
pub record IsHonest (layout : Layout) (past : History) (control : Control) (spot : Spot) (rest : Progress) (states : ℕ → PageState) : Type 0 where
  pub control_is : control ≡ control_at spot rest
  pub inside_is : (lp : ℕ) → inside past lp ≡ is_within spot && (lp == 0)
  pub stands : PagesStand layout past states
  pub fits : (p : ℕ) → p < pages layout → MayBe spot (is_in rest.queue (cluster_at layout p)) (is_in (dropped_for (service past).request) (cluster_at layout p)) (cluster_at layout p) (states p)
  pub apart : AreApart spot rest.queue (dropped_for (service past).request)
  pub closed : asks spot ≡ false → (service past).request ≡ None
  pub waits : is_requested spot ≡ true → entered_since_ask past ≡ false
  pub unstopped : shows_stop past ≡ false
  pub going : is_ended past ≡ is_over_at spot
  pub unbroken : has_break rest.rest ≡ false
  pub granted : (m : Move) → was_refused past m ≡ false

-- a moment of an honest run
pub record HonestMoment (layout : Layout) (moment : Moment) : Type 0 where
  pub spot : Spot
  pub rest : Progress
  pub states : ℕ → PageState
  pub holds : IsHonest layout moment.past moment.control spot rest states

-- and its sealed copies are in order
abbrev pub HonestAt : Layout → Moment → Type 0
HonestAt layout moment = HonestMoment layout moment × OneCopy layout moment.past
