-- What no move of the honest kernel accesses: the frames and entries of the runtime. No handle is discarded, and no tracking
-- cycle waits, since each begins while nobody is inside.
use Rattle.std.specs.Prelude.{◌≡◌, ℕ, ◌+◌, ◌≤◌, ◌<◌, Bool, true, false, Option, None}
use Rattle.std.specs.List.{list_all}
use Rattle.ak_core.specs.Layout.{Layout}
use Rattle.ak_model.specs.Paging.Pages.{pages, all_pages}
use Rattle.ak_model.specs.Paging.Holdings.{Held, FreeFrame, SecsFrame, VaFrame, PageFrame, Mapping}
use Rattle.ak_model.specs.Paging.Build.{entry_at_build}
use Rattle.ak_model.specs.Paging.Histories.{History}
use Rattle.ak_model.specs.Paging.Frames.{held, blocked_at}
use Rattle.ak_model.specs.Paging.Handles.{discarded}
use Rattle.ak_model.specs.Paging.PageTable.{pte}
use Rattle.ak_model.specs.Paging.Tracking.{cycles, is_over}

-- a frame that is free, or holds a page of the program
abbrev pub IsSpare : Layout → Held → Type 0
IsSpare layout FreeFrame = Unit {0}
IsSpare layout SecsFrame = ⊥
IsSpare layout VaFrame = ⊥
IsSpare layout (PageFrame p) = p < pages layout

-- the first eight frames hold what the build put there and none is blocked; the runtime's entries are the build's;
-- each later frame is free or holds a program page
pub record UntouchedBy (layout : Layout) (held : ℕ → Held) (blocked : ℕ → Option ℕ) (pte : ℕ → Mapping) (discarded : ℕ → Bool) : Type 0 where
  pub secs : held 0 ≡ SecsFrame
  pub va : held 1 ≡ VaFrame
  pub runtime : (i : ℕ) → i < 6 → held (2 + i) ≡ PageFrame (pages layout + i)
  pub spare : (f : ℕ) → 8 ≤ f → IsSpare layout (held f)
  pub unblocked : (f : ℕ) → f < 8 → blocked f ≡ None
  pub entries : (p : ℕ) → pages layout ≤ p → p < all_pages layout → pte p ≡ entry_at_build layout p
  pub kept : (k : ℕ) → discarded k ≡ false

-- so the history leaves them, and each tracking cycle is over
pub record Untouched (layout : Layout) (past : History) : Type 0 where
  pub same : UntouchedBy layout (held layout past) (blocked_at past) (pte layout past) (discarded past)
  pub over : list_all is_over (cycles layout past) ≡ true
