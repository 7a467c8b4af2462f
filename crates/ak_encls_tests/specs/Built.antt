-- What the tests' build keeps while it adds pages in order.
use Rattle.std.specs.Prelude.{ℕ, ◌≤◌}
use Rattle.ak_sealed.specs.SealedPages.{Handles}
use Rattle.ak_encls.specs.Building.{IsNotSealed}

-- each sealed page has a number below n
pub record AreSealedBelow (handles : Handles) (n : ℕ) : Type 0 where
  pub beyond : (p : ℕ) → n ≤ p → IsNotSealed handles p
