-- Views that the rows of the leaves do not tell apart.
use Rattle.std.specs.Prelude.{◌≡◌, ℕ, true, nat_lt}
use Rattle.ak_model.specs.Paging.Holdings.{VaFrame, PageFrame}
use Rattle.ak_model.specs.Paging.Views.{View}

-- two views agree in all that a row reads: a frame is looked at for a block where it holds a page, for a cycle where it is
-- blocked, and for slots where it is a VA page
pub record SameView (view other : View) : Type 0 where
  pub frames : view.frames ≡ other.frames
  pub held : (f : ℕ) → view.held f ≡ other.held f
  pub blocked : (f p : ℕ) → other.held f ≡ PageFrame p → view.blocked f ≡ other.blocked f
  pub tracked : (f p : ℕ) → other.held f ≡ PageFrame p → other.blocked f ≡ true → view.tracked f ≡ other.tracked f
  pub slot : (va i : ℕ) → other.held va ≡ VaFrame → nat_lt i 512 ≡ true → view.slot va i ≡ other.slot va i
  pub live : (k : ℕ) → view.live k ≡ other.live k
  pub page_of : (k : ℕ) → other.live k ≡ true → view.page_of k ≡ other.page_of k
  pub given : view.given ≡ other.given
  pub incomplete : view.incomplete ≡ other.incomplete
  pub active : view.active ≡ other.active
