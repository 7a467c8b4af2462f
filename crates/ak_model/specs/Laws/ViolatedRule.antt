-- What the move to blame did, and which rule of a well-behaved kernel is broken at the fault that a stop comes from. (The Autarky
-- paper, self-paging runtime: what the runtime asks of the kernel.)
use Rattle.std.specs.Prelude.{◌≡◌, ◌⊎◌, ℕ, ◌+◌, ◌<◌, ◌≤◌, Bool, true, false, ◌&&◌, List, [], ◌∷◌, ◌++◌, length, drop, reverse, Option, Some, None, ◌==◌, if◌then◌else◌}
use Rattle.ak_core.specs.Layout.{Layout}
use Rattle.ak_core.specs.Journal.{Journal}
use Rattle.ak_core.specs.Mem.{Access}
use Rattle.ak_core.specs.declared.event.Event.{Event}
use Rattle.ak_core.specs.declared.event.Stop.{Stop}
use Rattle.ak_core.specs.declared.event.StopCause.{StopCause}
use Rattle.ak_core.specs.declared.event.StopCause.TheVariants.{Unmapped, RuntimeUnmapped, FetchNotHonoured, ResumedEarly, Stuck}
use Rattle.ak_core.specs.declared.moves.Move.{Move}
use Rattle.ak_model.specs.Paging.Pages.{pages, cluster_at, permits, strong_kind}
use Rattle.ak_model.specs.Paging.Histories.{History, Change, Enters}
use Rattle.ak_model.specs.Paging.Inside.{someone_inside}
use Rattle.ak_model.specs.Paging.Walk.{access_walkable}
use Rattle.ak_model.specs.Clusters.Queue.{is_in}
use Rattle.ak_model.specs.Control.ControlState.{Phase, Asked, Reason, Broke, Faulted, cssa, is_asked}
use Rattle.ak_model.specs.Control.Trace.{Moment, after_move, trace}
use Rattle.ak_model.specs.Stops.Blame.{faults, returned_at}
use Rattle.ak_model.specs.Stops.MovesBefore.{changed, before_stop, moves_before_fault}
use Rattle.ak_model.specs.Laws.ToldFault.{newest_refusal}
use Rattle.ak_model.specs.Kernels.KernelRules.{keeps_mapped, keeps_fetched, resumes_early}
use Rattle.ak_model.specs.Laws.Orderly.{IsOwnAccess}

-- ---- The fault that a stop comes from

-- the moves before that of the fault that a cause names; for Stuck, that in which the enclave stopped
abbrev pub before_fault_of : Layout → List Event → List Move → StopCause → List Move
before_fault_of layout tape moves (Stuck p kind) = moves
before_fault_of layout tape moves cause = moves_before_fault layout tape moves

-- the newest refusal to resume, right after the last page fault
abbrev pub told_at : Layout → List Event → List Move → Option Reason
told_at layout tape [] = None
told_at layout tape (m ∷ moves) =
    if faults (changed layout (trace layout tape moves) m) then newest_refusal (trace layout tape (m ∷ moves)).control.stack
    else told_at layout tape moves

-- it tells of the break, or of the access of the step, that a cause names. For Stuck that is the stop's own fault
abbrev pub IsTold : Option Reason → StopCause → Type 0
IsTold told (Unmapped p kind) = told ≡ Some Broke
IsTold told (RuntimeUnmapped p kind) = told ≡ Some (Faulted (record { page = p; kind = kind }))
IsTold told (FetchNotHonoured p kind) = told ≡ Some (Faulted (record { page = p; kind = kind }))
IsTold told _ = Unit {0}

-- ---- What the move did

-- from a place to the fault, given the history before the fault's move, no walk finds the access
pub record IsLost (layout : Layout) (place : ℕ) (fault : History) (t : Access) : Type 0 where
  pub early : place ≤ length fault
  pub since : (d : ℕ) → place ≤ length (drop d fault) → access_walkable layout (drop d fault) t ≡ false

-- the move, after this history, took the access away: a walk found it before, and none finds it from then to the fault. At
-- the fault a processor is inside, and what is to be mapped then is not
pub record TookAway (layout : Layout) (before : History) (fault : Moment) (t : Access) : Type 0 where
  pub found : access_walkable layout before t ≡ true
  pub lost : IsLost layout (length before + 1) fault.past t
  pub inside : someone_inside layout fault.past ≡ true
  pub broken : keeps_mapped layout fault ≡ false

-- it was a permitted access of the program to a page of a cluster that is in at the fault
pub record TookProgramPage (layout : Layout) (before : History) (fault : Moment) (t : Access) : Type 0 where
  pub page : t.page.0 < pages layout
  pub permitted : permits layout t.page.0 t.kind ≡ true
  pub cluster : is_in fault.control.queue (cluster_at layout t.page.0) ≡ true
  pub took : TookAway layout before fault t

-- it was an access of the runtime's own
pub record TookRuntimePage (layout : Layout) (before : History) (fault : Moment) (t : Access) : Type 0 where
  pub page : IsOwnAccess layout t
  pub took : TookAway layout before fault t

-- the access is one of those by which the asked cluster is probed
abbrev pub IsAskedFor : Layout → Phase → Access → Type 0
IsAskedFor layout (Asked c) t = (cluster_at layout t.page.0 ≡ c) × (t.kind ≡ strong_kind layout t.page.0)
IsAskedFor layout _ t = ⊥

-- an entering
abbrev pub enters : Change → Bool
enters (Enters lp v) = true
enters _ = false

-- this move comes back while a cluster is asked for
abbrev pub comes_back : Layout → Moment → Move → Bool
comes_back layout moment m = enters (changed layout moment m) && ((cssa moment.control == 1) && is_asked moment.control.phase)

-- the move came back for what was asked for, or took the page away after one did; none comes back later. From then to the fault
-- no walk finds the page. After the move, as at the fault, what was asked for is to be mapped, and is not
pub record LeftUnfetched (layout : Layout) (before : Moment) (move : Move) (fault : Moment) (t : Access) : Type 0 where
  pub page : t.page.0 < pages layout
  pub asked : IsAskedFor layout fault.control.phase t
  pub did : (comes_back layout before move ≡ true) ⊎ (access_walkable layout before.past t ≡ true)
  pub came : 1 ≤ returned_at fault.past
  pub newest : returned_at fault.past ≤ length before.past + 1
  pub lost : IsLost layout (length before.past + 1) fault.past t
  pub broke : keeps_fetched layout (after_move layout before move) ≡ false
  pub broken : keeps_fetched layout fault ≡ false

-- the rule that a move broke, by the cause of the stop: for ResumedEarly, the guard was resumed while a cluster is asked for
abbrev pub ViolatesRule : Layout → Moment → Move → Moment → StopCause → Type 0
ViolatesRule layout before move fault (Unmapped p kind) =
    TookProgramPage layout before.past fault (record { page = p; kind = kind })
ViolatesRule layout before move fault (RuntimeUnmapped p kind) =
    TookRuntimePage layout before.past fault (record { page = p; kind = kind })
ViolatesRule layout before move fault (FetchNotHonoured p kind) =
    LeftUnfetched layout before move fault (record { page = p; kind = kind })
ViolatesRule layout before move fault ResumedEarly = resumes_early layout before move ≡ true
ViolatesRule layout before move fault (Stuck p kind) =
    TookRuntimePage layout before.past fault (record { page = p; kind = kind })

-- the last fault before the stop is the one that the cause names; and the blamed move stands at its place, before the move in
-- which the enclave stopped, and broke a rule
pub record IsBlamed (layout : Layout) (tape : List Event) (stopping : List Move) (stop : Stop) : Type 0 where
  pub told : IsTold (told_at layout tape stopping) stop.cause
  pub newer : List Move
  pub move : Move
  pub older : List Move
  pub stands : stopping ≡ newer ++ move ∷ older
  pub place : stop.blame ≡ length older + 1
  pub broke : ViolatesRule layout (trace layout tape older) move (trace layout tape (before_fault_of layout tape stopping stop.cause)) stop.cause

-- so it is for a journal's stop
abbrev pub BlamedIn : Layout → Journal → Stop → Type 0
BlamedIn layout journal stop =
    IsBlamed layout journal.events (before_stop layout journal.events (reverse journal.moves)) stop
