-- The laws of the control state. They hold at each moment, whatever the kernel does, and whatever the program shows, as long
-- as each miss is of a cluster that is out.
use Rattle.std.specs.Prelude.{◌≡◌, ◌⊎◌, ℕ, ◌+◌, ◌<◌, ◌≤◌, Bool, true, false, List, [], ◌∷◌, ◌++◌, length, All, Option, Some, None, is_some}
use Rattle.ak_core.specs.Layout.{Layout, size_of}
use Rattle.ak_core.specs.Mem.{Access}
use Rattle.ak_core.specs.declared.event.Event.{Event}
use Rattle.ak_model.specs.Paging.Pages.{pages, all_pages, strong_kind}
use Rattle.ak_model.specs.Clusters.Queue.{total_size, after_miss, is_in}
use Rattle.ak_model.specs.Control.ControlState.{Phase, New, Running, Calling, Asked, Ended, Trapped, Dead, Context, Program, Enter, Probe, Finish, Guard, Leave, Reason, Interrupted, Cleared, Raised, Denied, Missed, Broke, Faulted, Saved, Cause, Control, is_asked}
use Rattle.ak_model.specs.Control.OneTurn.{Turn, Goes, Leaves}
use Rattle.ak_core.specs.declared.event.Event.TheVariants.{Miss}
use Rattle.ak_model.specs.Control.EventTurn.{due}
use Rattle.ak_model.specs.Control.RuntimeTurn.{asked_pages, probed}
use Rattle.ak_model.specs.Paging.Inside.{someone_inside}
use Rattle.ak_model.specs.Control.Trace.{Moment}
use Rattle.ak_model.specs.Tapes.ProgramTurns.{ProgramTurn}
use Rattle.ak_model.specs.Sound.Forced.{queue_by}
use Rattle.ak_model.specs.Laws.Premises.{MissesFit}
use Rattle.ak_model.specs.Laws.StepRows.{opens, guards}

-- ---- Contexts

-- what a context may be that has d saved contexts below it. So the oldest one is the program or its call in phase Running,
-- and the guard while a cluster is asked for; and at most three are saved, the third an entry
abbrev pub ContextFits : Layout → Phase → ℕ → Context → Type 0
ContextFits layout phase d Program = (d ≡ 0) × (phase ≡ Running)
ContextFits layout phase d (Leave b a) = (d ≡ 0) × (phase ≡ Running)
ContextFits layout phase d (Enter k v) = (k ≡ d) × (d ≤ 2) × (d ≡ 0 → opens phase ≡ true)
ContextFits layout phase d (Probe i) = (d ≡ 1) × (i < length (asked_pages layout phase))
ContextFits layout phase d Finish = (d ≡ 1) × (is_asked phase ≡ true)
ContextFits layout phase d Guard = (d ≤ 1) × (guards phase ≡ true) × (d ≡ 1 → phase ≡ Dead)

-- the context inside; where there is none and none is saved, an entry would have a row
abbrev pub NowFits : Layout → Phase → List Saved → Option Context → Type 0
NowFits layout phase stack None = length stack ≡ 0 → opens phase ≡ true
NowFits layout phase stack (Some context) = ContextFits layout phase (length stack) context

-- ---- Reasons

-- the program, to be resumed, or the guard
abbrev pub is_clearable : Context → Bool
is_clearable Program = true
is_clearable Guard = true
is_clearable _ = false

-- an access of the runtime's own: a page of the runtime but the TCS, for all that the page allows
abbrev pub IsOwnAccess : Layout → Access → Type 0
IsOwnAccess layout t =
    (pages layout < t.page.0) × (t.page.0 < all_pages layout) × (t.kind ≡ strong_kind layout t.page.0)

-- the access at which a step faulted: one of the runtime's own, or a probe's page. The program has no such reason
abbrev pub FaultFits : Layout → Phase → Context → Access → Type 0
FaultFits layout phase Program t = ⊥
FaultFits layout phase (Probe i) t = (t ≡ probed layout phase i) ⊎ IsOwnAccess layout t
FaultFits layout phase _ t = IsOwnAccess layout t

-- why a context was saved: a vector, a denied access, a miss and a break are the program's; a missed cluster is out
abbrev pub ReasonFits : Layout → Phase → List ℕ → Context → Reason → Type 0
ReasonFits layout phase queue context Interrupted = Unit {0}
ReasonFits layout phase queue context Cleared = is_clearable context ≡ true
ReasonFits layout phase queue context (Raised v) = context ≡ Program
ReasonFits layout phase queue context Denied = context ≡ Program
ReasonFits layout phase queue context Broke = context ≡ Program
ReasonFits layout phase queue context (Missed c) = (context ≡ Program) × (c < layout.clusters) × (is_in queue c ≡ false)
ReasonFits layout phase queue context (Faulted t) = FaultFits layout phase context t

-- a saved context with d others below it
pub record SavedFits (layout : Layout) (phase : Phase) (queue : List ℕ) (d : ℕ) (saved : Saved) : Type 0 where
  pub context : ContextFits layout phase d saved.context
  pub reason : ReasonFits layout phase queue saved.context saved.reason

-- all saved contexts
abbrev pub StackFits : Layout → Phase → List ℕ → List Saved → Type 0
StackFits layout phase queue [] = Unit {0}
StackFits layout phase queue (saved ∷ older) =
    SavedFits layout phase queue (length older) saved × StackFits layout phase queue older

-- ---- Pending

-- a fault or a vector, after which resuming is refused
abbrev pub refuses_by : Reason → Bool
refuses_by Interrupted = false
refuses_by Cleared = false
refuses_by _ = true

-- the newest saved context was left by one
abbrev pub is_refused : List Saved → Bool
is_refused [] = false
is_refused (saved ∷ older) = refuses_by saved.reason

-- the program may still go on
abbrev pub is_live : Phase → Bool
is_live (Ended s) = false
is_live (Trapped v) = false
is_live Dead = false
is_live _ = true

-- ---- The queue and the tape

-- no cluster twice
abbrev pub IsDistinct : List ℕ → Type 0
IsDistinct [] = Unit {0}
IsDistinct (c ∷ queue) = (is_in queue c ≡ false) × IsDistinct queue

-- distinct clusters of the layout that fit the budget
pub record QueueFits (layout : Layout) (queue : List ℕ) : Type 0 where
  pub distinct : IsDistinct queue
  pub known : All (λ c. c < layout.clusters) queue
  pub small : total_size layout queue ≤ layout.budget

-- a cluster that is asked for is out, and fits the budget with those that are in; a dead enclave has a cause
abbrev pub PhaseFits : Layout → List ℕ → Option Cause → Phase → Type 0
PhaseFits layout queue cause (Asked c) =
    (c < layout.clusters) × (is_in queue c ≡ false) × (total_size layout queue + size_of layout.cluster_of c ≤ layout.budget)
PhaseFits layout queue cause Dead = is_some cause ≡ true
PhaseFits layout queue cause _ = Unit {0}

-- the cluster of a miss
abbrev pub miss_of : Reason → Option ℕ
miss_of (Missed c) = Some c
miss_of _ = None

-- the cluster that the oldest saved context missed
abbrev pub oldest_miss : List Saved → Option ℕ
oldest_miss [] = None
oldest_miss (saved ∷ []) = miss_of saved.reason
oldest_miss (saved ∷ next ∷ older) = oldest_miss (next ∷ older)

-- the queue after a miss, if there is one
abbrev pub after_miss_if : Layout → List ℕ → Option ℕ → List ℕ
after_miss_if layout queue None = queue
after_miss_if layout queue (Some c) = after_miss layout queue c

-- what is in by the misses so far is the queue, with the cluster that is asked for, or after the miss that was not asked for
-- yet. After the program's end it does not matter
abbrev pub ServedBy : Layout → List ℕ → Phase → List ℕ → List Saved → Type 0
ServedBy layout so_far New queue stack = queue ≡ so_far
ServedBy layout so_far Calling queue stack = queue ≡ so_far
ServedBy layout so_far Running queue stack = after_miss_if layout queue (oldest_miss stack) ≡ so_far
ServedBy layout so_far (Asked c) queue stack = queue ++ c ∷ [] ≡ so_far
ServedBy layout so_far _ queue stack = Unit {0}

-- ---- All laws

-- a control state keeps all laws, where these clusters are in by the misses so far, and somebody is inside or not
pub record IsOrderly (layout : Layout) (so_far : List ℕ) (someone : Bool) (control : Control) : Type 0 where
  pub stack : StackFits layout control.phase control.queue control.stack
  pub now : NowFits layout control.phase control.stack control.now
  pub inside : is_some control.now ≡ true → someone ≡ true
  pub phase : PhaseFits layout control.queue control.cause control.phase
  pub queue : QueueFits layout control.queue
  pub served : ServedBy layout so_far control.phase control.queue control.stack
  pub tape : MissesFit layout so_far control.rest
  pub pending_only : control.pending ≡ true → (is_some control.now ≡ false) × (is_refused control.stack ≡ true)
  pub pending_if : is_some control.now ≡ false → is_refused control.stack ≡ true → is_live control.phase ≡ true → control.pending ≡ true
  pub stuck : length control.stack ≡ 3 → control.pending ≡ true → is_some control.cause ≡ true

-- what a turn came to keeps all laws; nobody is inside after it left
abbrev pub TurnIsOrderly : Layout → List ℕ → Turn → Type 0
TurnIsOrderly layout so_far (Goes control) = IsOrderly layout so_far true control
TurnIsOrderly layout so_far (Leaves exit control) = IsOrderly layout so_far false control

-- the clusters that are in by the misses so far, after one more event
abbrev pub after_event : Layout → List ℕ → Option Event → List ℕ
after_event layout so_far (Some (Miss i c)) = after_miss layout so_far c
after_event layout so_far _ = so_far

-- and after a turn in this context: the program alone misses
abbrev pub after_turn : Layout → List ℕ → Control → Option Context → List ℕ
after_turn layout so_far control (Some Program) = after_event layout so_far (due control.count control.rest)
after_turn layout so_far control _ = so_far

-- a moment keeps all laws
abbrev pub MomentIsOrderly : Layout → List ℕ → Moment → Type 0
MomentIsOrderly layout so_far moment = IsOrderly layout so_far (someone_inside layout moment.past) moment.control

-- and so it does with the misses of the program turns so far, the newest first
abbrev pub OrderlyAfter : Layout → List ProgramTurn → Moment → Type 0
OrderlyAfter layout turns moment = MomentIsOrderly layout (queue_by layout turns) moment

-- a moment keeps all laws with the misses of some turns
abbrev pub KeepsLaws : Layout → Moment → Type 0
KeepsLaws layout moment = (so_far : List ℕ) × MomentIsOrderly layout so_far moment
