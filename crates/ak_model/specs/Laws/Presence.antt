-- One processor at most is inside, and a context goes on just where one is.
use Rattle.std.specs.Prelude.{◌≡◌, ℕ, true, is_some}
use Rattle.ak_core.specs.Layout.{Layout}
use Rattle.ak_model.specs.Paging.Inside.{inside, someone_inside}
use Rattle.ak_model.specs.Control.Trace.{Moment}

-- no two processors are inside, and there is a context inside exactly where some processor is
pub record IsPresent (layout : Layout) (moment : Moment) : Type 0 where
  pub alone : (p q : ℕ) → inside moment.past p ≡ true → inside moment.past q ≡ true → p ≡ q
  pub context : (p : ℕ) → inside moment.past p ≡ true → is_some moment.control.now ≡ true
  pub someone : is_some moment.control.now ≡ true → someone_inside layout moment.past ≡ true
