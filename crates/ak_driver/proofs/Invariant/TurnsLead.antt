-- What a turn of an honest run comes to.
use Rattle.std.specs.Prelude.{◌≡◌, ◌⊎◌, ℕ, Bool, true, false, List, None}
use Rattle.ak_core.specs.declared.moves.Exit.{Exit}
use Rattle.ak_core.specs.declared.moves.Exit.TheVariants.{Still}
use Rattle.ak_model.specs.Clusters.Queue.{is_in}
use Rattle.ak_model.specs.Control.ControlState.{Control}
use Rattle.ak_model.specs.Kernels.Counted.{Service, service_by}
use Rattle.ak_model.specs.Paging.Histories.{Exits}
use Rattle.ak_model.specs.Kernels.KernelRules.{entered_after}
use Rattle.ak_model.specs.Stops.ShownStop.{has_break, is_stopped}
use Rattle.ak_model.specs.Kernels.HonestKernel.{is_end}
use Rattle.ak_model.specs.Control.OneTurn.{Turn, Goes, Leaves}
use Rattle.ak_model.specs.Control.Runs.{Ran}
use Rattle.ak_driver.proofs.Invariant.PageStates.{PageState}
use Rattle.ak_driver.proofs.Invariant.Spots.{Spot, Progress, control_at, is_within, asks, is_requested}
use Rattle.ak_driver.proofs.Invariant.HonestMoments.{MayBe, AreApart, dropped_for, is_over_at}

-- the turn goes on to a spot inside, with the same clusters in and each page where it may be
pub record GoesOn (spot : Spot) (rest : Progress) (control : Control) : Type 0 where
  pub next : Spot
  pub after : Progress
  pub control_is : control ≡ control_at next after
  pub within : is_within next ≡ true
  pub asking : asks next ≡ asks spot
  pub queue : after.queue ≡ rest.queue
  pub unbroken : has_break after.rest ≡ false
  pub fits : (there dropped : Bool) (x : ℕ) (state : PageState) → MayBe spot there dropped x state → MayBe next there dropped x state
  pub apart : (queue dropped : List ℕ) → AreApart spot queue dropped → AreApart next queue dropped

-- the turn leaves for a spot outside, where each page is where it may be, by what the kernel then counts
pub record LeavesFor (service : Service) (spot : Spot) (rest : Progress) (exit : Exit) (control : Control) : Type 0 where
  pub next : Spot
  pub after : Progress
  pub control_is : control ≡ control_at next after
  pub outside : is_within next ≡ false
  pub left : exit ≡ Still → ⊥
  pub unstopped : is_stopped exit ≡ false
  pub ends : is_end exit ≡ is_over_at next
  pub closed : asks next ≡ false → (asks spot ≡ false → service.request ≡ None) → (service_by exit service).request ≡ None
  pub waits : (before : Bool) → is_requested next ≡ true → entered_after (Exits 0 exit) before ≡ false
  pub unbroken : has_break after.rest ≡ false
  pub fits : (x : ℕ) (state : PageState) → MayBe spot (is_in rest.queue x) (is_in (dropped_for service.request) x) x state
      → MayBe next (is_in after.queue x) (is_in (dropped_for (service_by exit service).request) x) x state
  pub apart : AreApart next after.queue (dropped_for (service_by exit service).request)

-- what a turn came to
abbrev pub Leads : Service → Spot → Progress → Turn → Type 0
Leads service spot rest (Goes control) = GoesOn spot rest control
Leads service spot rest (Leaves exit control) = LeavesFor service spot rest exit control

-- a run of turns is still inside at its end, or left
abbrev pub RunLeads : Service → Spot → Progress → Ran → Type 0
RunLeads service spot rest ran =
    ((ran.exit ≡ Still) × GoesOn spot rest ran.control) ⊎ LeavesFor service spot rest ran.exit ran.control
