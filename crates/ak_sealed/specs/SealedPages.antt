-- Sealed pages, and the versions by which slots name them. (SDM volume 3D, EWB, "Version Array".)
use Rattle.std.specs.Prelude.{ℕ, ◌+◌, ◌-◌, Bool, true, List, Option, Some, None, ◌==◌, if◌then◌else◌, slice_index_or}
use Rattle.std.specs.Option.{option_map}
use Rattle.ak_core.specs.declared.page.Handle.{Handle}
use Rattle.ak_core.specs.declared.page.Entry.{Entry}
use Rattle.ak_core.specs.declared.page.PageType.{PageType}

-- a sealed page: what its frame's entry said, and its bytes
pub record SealedPage : Type 0 where
  pub kind : PageType
  pub page : ℕ
  pub r : Bool
  pub w : Bool
  pub x : Bool
  pub bytes : List ℕ

-- the sealed page of a frame: what its entry said, and its bytes
abbrev pub sealed_page_of : Entry → List ℕ → SealedPage
sealed_page_of entry bytes = record { kind = entry.kind; page = entry.page.0; r = entry.r; w = entry.w; x = entry.x; bytes = bytes }

-- the entry of a frame that holds the page of a sealed page
abbrev pub entry_of : SealedPage → Bool → Entry
entry_of sealed_page blocked =
    record { valid = true; kind = sealed_page.kind; page = record { 0 = sealed_page.page }; r = sealed_page.r; w = sealed_page.w; x = sealed_page.x; blocked = blocked }

-- the sealed page of each handle that was given, or None where it was discarded; and how many more take no memory
pub record Handles : Type 0 where
  pub sealed_pages : List (Option SealedPage)
  pub spare : ℕ

-- the sealed page of a handle; one that was never given has none
abbrev pub sealed_page_at : Handles → ℕ → Option SealedPage
sealed_page_at handles k = slice_index_or handles.sealed_pages k None

-- the number of a handle
abbrev pub number_of : Option Handle → Option ℕ
number_of handle = option_map (λ h. h.0) handle

-- the version of the handle in a slot: its number and one, or 0 for none
abbrev pub version : Option ℕ → ℕ
version None = 0
version (Some k) = k + 1

-- the handle of a version
abbrev pub handle_in : ℕ → Option ℕ
handle_in version = if version == 0 then None else Some (version - 1)
