-- Frames that have held their page, open, at some moment since a processor entered; and changes that leave them.
use Rattle.std.specs.Prelude.{◌≡◌, ℕ, ◌<◌, Bool, false, Option, Some, None, ◌==◌}
use Rattle.ak_core.specs.Layout.{Layout}
use Rattle.ak_model.specs.Paging.Histories.{History, Change, WritesOut, Loads, Removes, MakesVa}
use Rattle.ak_model.specs.Paging.Holdings.{PageFrame}
use Rattle.ak_model.specs.Paging.Frames.{held, blocked_at}
use Rattle.ak_model.specs.Paging.Inside.{since}

-- a block, if there is one, came after this place
abbrev pub IsLate : ℕ → Option ℕ → Type 0
IsLate place None = Unit {0}
IsLate place (Some block) = place < block

-- a frame holds the page, and was blocked after this place, if at all. So it was open at some moment since, and no move has taken
-- it away from a processor that was inside
pub record HoldsSince (layout : Layout) (past : History) (place f p : ℕ) : Type 0 where
  pub holds : held layout past f ≡ PageFrame p
  pub late : IsLate place (blocked_at past f)

-- the change fills or frees this frame
abbrev pub takes : Change → ℕ → Bool
takes (WritesOut g va i k) f = f == g
takes (Loads g k p va i blocked) f = f == g
takes (Removes g) f = f == g
takes (MakesVa g) f = f == g
takes _ f = false

-- it takes no frame that has been open since the entering of a processor that is inside
abbrev pub KeepsOpen : Layout → History → Change → Type 0
KeepsOpen layout past c = (lp place f p : ℕ) → since past lp ≡ Some place → HoldsSince layout past place f p → takes c f ≡ false
