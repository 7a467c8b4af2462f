-- The invariant holds before each turn of a run.
use Rattle.std.proofs.Common.{◌≡◌, ℕ, zero, suc, ◌<◌, List, [], ◌∷◌, refl, sym, ◌∙◌, subst}
use Rattle.std.specs.Prelude.{true, false}
use Rattle.ak_core.specs.Layout.{Layout, IsValid}
use Rattle.ak_model.specs.Paging.Pages.{pages, cluster_at}
use Rattle.ak_model.specs.Paging.Histories.{History}
use Rattle.ak_model.specs.Clusters.Queue.{is_in}
use Rattle.ak_model.specs.Control.ControlState.{Control}
use Rattle.ak_model.specs.Kernels.Counted.{Service as Counted}
use Rattle.ak_model.specs.Control.Runs.{before_turns, unless_left}
use Rattle.ak_model.specs.Laws.Orderly.{IsOrderly, TurnIsOrderly, after_turn}
use Rattle.ak_model.specs.Stops.ShownStop.{has_break}
use Rattle.ak_model.specs.Control.OneTurn.{Turn, Goes, Leaves}
use Rattle.ak_model.specs.Control.Runs.{turn}
use Rattle.ak_model.specs.Laws.OneLiveCopy.{OneCopy}
use Rattle.ak_model.proofs.Control.OrderlyTurns.{turn_fits}
use Rattle.ak_model.proofs.Clusters.ValidClusters.{clusters_fit}
use Rattle.ak_driver.proofs.Invariant.PageStates.{PageState}
use Rattle.ak_driver.proofs.Invariant.PagesStand.{PagesStand}
use Rattle.ak_driver.proofs.Invariant.Spots.{Spot, Progress, control_at, is_within}
use Rattle.ak_driver.proofs.Invariant.HonestMoments.{MayBe, dropped_for}
use Rattle.ak_driver.proofs.Invariant.TurnsLead.{GoesOn, Leads}
use Rattle.ak_driver.proofs.Turns.RunsLead.{turn_leads}

-- each control state goes on from the spot
abbrev pub EachGoes : Spot → Progress → List Control → Type 0
EachGoes spot rest [] = Unit {0}
EachGoes spot rest (control ∷ more) = GoesOn spot rest control × EachGoes spot rest more

-- one turn before others
goes_first : (spot : Spot) (rest : Progress) (control : Control) (one : GoesOn spot rest control) (all : List Control) → EachGoes one.next one.after all → EachGoes spot rest all
goes_first spot rest control one [] e = tt
goes_first spot rest control one (c ∷ all) e = (
  record {
    next = e.0.next;
    after = e.0.after;
    control_is = e.0.control_is;
    within = e.0.within;
    asking = e.0.asking ∙ one.asking;
    queue = e.0.queue ∙ one.queue;
    unbroken = e.0.unbroken;
    fits = λ there dropped x state h. e.0.fits there dropped x state (one.fits there dropped x state h);
    apart = λ queue dropped h. e.0.apart queue dropped (one.apart queue dropped h);
  },
  goes_first spot rest control one all e.1,
)

module _ (layout : Layout) (past : History) (states : ℕ → PageState) (valid : IsValid layout) (copies : OneCopy layout past) (stands : PagesStand layout past states) (service : Counted) where
  abbrev Where : Spot → Progress → Type 0
  Where spot rest = (p : ℕ) → p < pages layout → MayBe spot (is_in rest.queue (cluster_at layout p)) (is_in (dropped_for service.request) (cluster_at layout p)) (cluster_at layout p) (states p)

  pub turns_hold : (n : ℕ) (spot : Spot) (rest : Progress) (so_far : List ℕ) → is_within spot ≡ true → service.queue ≡ rest.queue → has_break rest.rest ≡ false → Where spot rest
      → IsOrderly layout so_far true (control_at spot rest) → EachGoes spot rest (before_turns layout past n (control_at spot rest))
  turns_hold zero spot rest so_far w q whole fits o = tt
  turns_hold (suc n) spot rest so_far w q whole fits o = (
    record { next = spot; after = rest; control_is = refl; within = w; asking = refl; queue = refl; unbroken = whole; fits = λ there dropped x state h. h; apart = λ queue dropped h. h },
    after (turn layout past (control_at spot rest)) (turn_leads layout past states valid copies stands service spot rest so_far w q whole fits o)
        (turn_fits layout so_far (clusters_fit layout valid) past (control_at spot rest) o)
        (λ next more. turns_hold n next more (after_turn layout so_far (control_at spot rest) (control_at spot rest).now)),
  )
    where
      after : (t : Turn) → Leads service spot rest t → TurnIsOrderly layout (after_turn layout so_far (control_at spot rest) (control_at spot rest).now) t
          → ((next : Spot) (more : Progress) → is_within next ≡ true → service.queue ≡ more.queue → has_break more.rest ≡ false → Where next more
          → IsOrderly layout (after_turn layout so_far (control_at spot rest) (control_at spot rest).now) true (control_at next more) → EachGoes next more (before_turns layout past n (control_at next more)))
          → EachGoes spot rest (unless_left t (before_turns layout past n))
      after (Leaves exit control) led kept again = tt
      after (Goes control) led kept again =
          goes_first spot rest control led (before_turns layout past n control)
          (subst (λ c. EachGoes led.next led.after (before_turns layout past n c)) (sym led.control_is)
          (again led.next led.after led.within (q ∙ sym led.queue) led.unbroken
          (λ p low. subst (λ q. MayBe led.next (is_in q (cluster_at layout p)) (is_in (dropped_for service.request) (cluster_at layout p)) (cluster_at layout p) (states p)) (sym led.queue)
          (led.fits (is_in rest.queue (cluster_at layout p)) (is_in (dropped_for service.request) (cluster_at layout p)) (cluster_at layout p) (states p) (fits p low)))
          (subst (λ c. IsOrderly layout (after_turn layout so_far (control_at spot rest) (control_at spot rest).now) true c) led.control_is kept)))
