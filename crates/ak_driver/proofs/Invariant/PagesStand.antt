-- How the tables stand while the honest kernel is at work: what it does not touch, and a state for each program page.
use Rattle.std.specs.Prelude.{ℕ, ◌<◌, ◌==◌, if◌then◌else◌}
use Rattle.ak_core.specs.Layout.{Layout}
use Rattle.ak_model.specs.Paging.Pages.{pages}
use Rattle.ak_model.specs.Paging.Histories.{History}
use Rattle.ak_driver.proofs.Invariant.PageStates.{PageState, IsInState}
use Rattle.ak_driver.proofs.Invariant.Untouched.{Untouched}

-- the pages are in these states
pub record PagesStand (layout : Layout) (past : History) (states : ℕ → PageState) : Type 0 where
  pub untouched : Untouched layout past
  pub each : (p : ℕ) → p < pages layout → IsInState layout past p (states p)

-- one page goes into another state
abbrev pub with_state : (ℕ → PageState) → ℕ → PageState → ℕ → PageState
with_state states p state q = if q == p then state else states q
