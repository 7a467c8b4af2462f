-- When an entry of the EPCM says what a history says of its frame. (SDM volume 3D, "Enclave Page Cache Map".)
use Rattle.std.specs.Prelude.{◌≡◌, ◌≢◌, ℕ, true, false, ◌==◌, Option, is_some, if◌then◌else◌}
use Rattle.ak_core.specs.Layout.{Layout}
use Rattle.ak_core.specs.declared.page.Entry.{Entry}
use Rattle.ak_core.specs.declared.page.Kind.TheVariants.{Read, Write, Exec}
use Rattle.ak_core.specs.declared.page.PageType.{PageType}
use Rattle.ak_core.specs.declared.page.PageType.TheVariants.{Secs, Tcs, Reg, Va}
use Rattle.ak_model.specs.Paging.Holdings.{Held, FreeFrame, SecsFrame, VaFrame, PageFrame}
use Rattle.ak_model.specs.Paging.Pages.{permits, tcs_page}

-- the type of a page of the enclave: the TCS page's, or a regular one's
abbrev pub type_of_page : Layout → ℕ → PageType
type_of_page layout p = if p == tcs_page layout then Tcs else Reg

-- the entry is that of a frame that holds this page, and was blocked at this place, if it is blocked. What the TCS page
-- allows is left open, since no walk reads it
pub record HoldsPage (layout : Layout) (entry : Entry) (p : ℕ) (blocked_since : Option ℕ) : Type 0 where
  pub valid : entry.valid ≡ true
  pub kind : entry.kind ≡ type_of_page layout p
  pub page : entry.page.0 ≡ p
  pub readable : p ≢ tcs_page layout → entry.r ≡ permits layout p Read
  pub writable : p ≢ tcs_page layout → entry.w ≡ permits layout p Write
  pub executable : p ≢ tcs_page layout → entry.x ≡ permits layout p Exec
  pub blocked : entry.blocked ≡ is_some blocked_since

-- the entry is in use, and of this type
pub record IsOfType (entry : Entry) (type : PageType) : Type 0 where
  pub valid : entry.valid ≡ true
  pub kind : entry.kind ≡ type

-- the entry says what a frame holds, and whether it is blocked
abbrev pub EntryAgrees : Layout → Entry → Held → Option ℕ → Type 0
EntryAgrees layout entry FreeFrame blocked_since = entry.valid ≡ false
EntryAgrees layout entry SecsFrame blocked_since = IsOfType entry Secs
EntryAgrees layout entry VaFrame blocked_since = IsOfType entry Va
EntryAgrees layout entry (PageFrame p) blocked_since = HoldsPage layout entry p blocked_since
