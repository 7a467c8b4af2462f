-- The part of the relation on bytes: each page that a frame or a live handle holds has the bytes that the control state and the
-- program's flat state say. It is said of each page's newest copy, and says nothing where there is none.
use Rattle.std.specs.Prelude.{◌≡◌, ℕ, ◌<◌, Bool, List, length, if◌then◌else◌}
use Rattle.ak_core.specs.Layout.{Layout}
use Rattle.ak_model.specs.Paging.Pages.{pages, tcs_page, state_page}
use Rattle.ak_model.specs.Flat.FlatRuns.{Flat, page_bytes}
use Rattle.ak_model.specs.Flat.Instructions.{number_at}
use Rattle.ak_model.specs.Control.ControlState.{Phase, Saved}
use Rattle.ak_pager.specs.RuntimePages.{Copies, OfCopy, AreasStand, IsState}

-- ---- The TCS

-- a flag in a byte
abbrev pub flag_number : Bool → ℕ
flag_number flag = if flag then 1 else 0

-- the bytes say how many contexts are saved, and whether resuming is refused
pub record IsTcs (saved : ℕ) (pending : Bool) (bytes : List ℕ) : Type 0 where
  pub saved_is : number_at bytes 24 4 ≡ saved
  pub pending_is : number_at bytes 72 1 ≡ flag_number pending

-- ---- All pages

-- what the bytes of all pages are
pub record CopiesStand (layout : Layout) (phase : Phase) (queue : List ℕ) (stack : List Saved) (pending : Bool) (flat : Flat) (copies : Copies) : Type 0 where
  pub tcs : OfCopy (copies (tcs_page layout)) (IsTcs (length stack) pending)
  pub areas : AreasStand layout phase queue flat copies stack
  pub state : OfCopy (copies (state_page layout)) (IsState layout phase queue flat)
  pub program : (p : ℕ) → p < pages layout → OfCopy (copies p) (λ bytes. bytes ≡ page_bytes flat p)
