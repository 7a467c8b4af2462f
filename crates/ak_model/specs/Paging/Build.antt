-- How the build leaves the enclave: its runtime's pages in frames and mapped, each page of its program sealed, in slots of
-- the first VA page.
use Rattle.std.specs.Prelude.{ℕ, ◌+◌, ◌-◌, ◌&&◌, Option, nat_lt, ◌==◌, if◌then◌else◌}
use Rattle.std.specs.Bool.{then_some}
use Rattle.ak_core.specs.Layout.{Layout}
use Rattle.ak_core.specs.declared.page.Perm.TheVariants.{R, Rw, Rx}
use Rattle.ak_model.specs.Paging.Pages.{pages, all_pages, tcs_page, code_page, flags_for, no_flags}
use Rattle.ak_model.specs.Paging.Holdings.{Held, FreeFrame, SecsFrame, VaFrame, PageFrame, Place, InFrame, InHandle, Gone, Mapping}

-- ---- Frames

-- frame 0 holds the SECS, frame 1 a VA page, and the next six the runtime's pages
abbrev pub held_at_build : Layout → ℕ → Held
held_at_build layout f =
    if f == 0 then SecsFrame
    else (if f == 1 then VaFrame
    else (if nat_lt f 8 then PageFrame (pages layout + (f - 2))
    else FreeFrame))

-- ---- Sealed pages

-- the page of a handle that the build gave: one for each page of the program
abbrev pub page_of_at_build : ℕ → ℕ
page_of_at_build k = k

-- what the slots of VA frames hold: the build fills the first slots of frame 1
abbrev pub slot_at_build : Layout → ℕ → ℕ → Option ℕ
slot_at_build layout va i = then_some ((va == 1) && nat_lt i (pages layout)) i

-- where a page is
abbrev pub place_at_build : Layout → ℕ → Place
place_at_build layout p =
    if nat_lt p (pages layout) then InHandle p
    else (if nat_lt p (all_pages layout) then InFrame (p - pages layout + 2)
    else Gone)

-- ---- The page table

-- each page of the runtime is mapped to its frame, and no page of the program is
abbrev pub entry_at_build : Layout → ℕ → Mapping
entry_at_build layout p =
    if nat_lt p (pages layout) then record { frame = 0; flags = no_flags }
    else (if p == tcs_page layout then record { frame = 2; flags = flags_for R }
    else (if nat_lt p (code_page layout) then record { frame = p - pages layout + 2; flags = flags_for Rw }
    else record { frame = 7; flags = flags_for Rx }))
