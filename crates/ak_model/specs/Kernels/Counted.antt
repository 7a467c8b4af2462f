-- What the kernel can count from the moves and answers alone: saved contexts, whether resuming is refused, and which
-- clusters it has fetched.
use Rattle.std.specs.Prelude.{◌≡◌, ℕ, ◌+◌, ◌-◌, Bool, true, false, ◌||◌, List, [], ◌∷◌, ◌++◌, take, drop, Option, Some, None}
use Rattle.ak_core.specs.declared.moves.Exit.{Exit}
use Rattle.ak_core.specs.declared.moves.Exit.TheVariants.{Pf, Vector, Ask, Ready}
use Rattle.ak_model.specs.Control.ControlState.{Phase, Asked, Control, cssa}
use Rattle.ak_model.specs.Control.Trace.{Moment}
use Rattle.ak_model.specs.Paging.Histories.{History, Change, change_of, Enters, Resumes, Exits, Interrupts}

-- an asynchronous exit saves the processor's context
abbrev pub is_asynchronous : Exit → Bool
is_asynchronous (Pf base code) = true
is_asynchronous (Vector v) = true
is_asynchronous _ = false

-- one more saved context after an asynchronous exit
abbrev pub more_if : Bool → ℕ → ℕ
more_if true saved = saved + 1
more_if false saved = saved

-- how many contexts are saved after one more change
abbrev pub saved_after : Change → ℕ → ℕ
saved_after (Exits lp exit) before = more_if (is_asynchronous exit) before
saved_after (Interrupts lp) before = before + 1
saved_after (Resumes lp) before = before - 1
saved_after _ before = before

-- how many contexts are saved: CSSA
abbrev pub saved_count : History → ℕ
saved_count [] = 0
saved_count (pair ∷ past) = saved_after (change_of pair) (saved_count past)

-- whether resuming is refused after one more change
abbrev pub pending_after : Change → Bool → Bool
pending_after (Enters lp v) before = false
pending_after (Exits lp exit) before = is_asynchronous exit || before
pending_after _ before = before

-- a fault or a vector came after the last entering, so resuming is refused
abbrev pub is_pending : History → Bool
is_pending [] = false
is_pending (pair ∷ past) = pending_after (change_of pair) (is_pending past)

-- a cluster that is asked for, with those that are dropped for it
pub record Request : Type 0 where
  pub dropped : List ℕ
  pub cluster : ℕ

-- the clusters that are in, and the request that is still open
pub record Service : Type 0 where
  pub queue : List ℕ
  pub request : Option Request

-- the open request was served
abbrev pub with_served : Service → Option Request → Service
with_served service None = service
with_served service (Some request) = record { queue = service.queue ++ request.cluster ∷ []; request = None }

-- the queue and the request after an exit
abbrev pub service_by : Exit → Service → Service
service_by (Ask d c) before =
    record { queue = drop d before.queue; request = Some (record { dropped = take d before.queue; cluster = c }) }
service_by Ready before = with_served before before.request
service_by _ before = before

-- the queue and the request after one more change
abbrev pub service_after : Change → Service → Service
service_after (Exits lp exit) before = service_by exit before
service_after _ before = before

-- the clusters that are in and the open request, as the exits told them
abbrev pub service : History → Service
service [] = record { queue = []; request = None }
service (pair ∷ past) = service_after (change_of pair) (service past)

-- the open request is for the cluster that is asked for
abbrev pub IsRequested : Phase → Option Request → Type 0
IsRequested (Asked c) request = (dropped : List ℕ) × (request ≡ Some (record { dropped = dropped; cluster = c }))
IsRequested _ request = Unit {0}

-- so many contexts are saved, resuming is refused or not, and these clusters are in or asked for
pub record Counts (saved : ℕ) (pending : Bool) (service : Service) (control : Control) : Type 0 where
  pub saved_is : saved ≡ cssa control
  pub pending_is : pending ≡ control.pending
  pub queue_is : service.queue ≡ control.queue
  pub requested : IsRequested control.phase service.request

-- the kernel counts right
abbrev pub CountsRight : Moment → Type 0
CountsRight moment = Counts (saved_count moment.past) (is_pending moment.past) (service moment.past) moment.control
