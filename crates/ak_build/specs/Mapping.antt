-- The page table at the end of the build. (SDM volume 3A, "Paging", one entry a page.)
use Rattle.std.specs.Prelude.{◌≡◌, ℕ, ◌<◌, List, length, nat_lt, if◌then◌else◌}
use Rattle.ak_core.specs.Layout.{Layout}
use Rattle.ak_model.specs.Paging.Pages.{all_pages}
use Rattle.ak_model.specs.Paging.Build.{entry_at_build}
use Rattle.ak_pte.specs.Table.{unmapped, pte_at}
use Rattle.ak_pte.specs.declared.table.Pte.{Pte}
use Rattle.ak_walk.specs.Mappings.{mapping_of}

-- the table has each page of the enclave, mapped as the build leaves it
pub record MapsEach (layout : Layout) (table : List Pte) : Type 0 where
  pub sized : length table ≡ all_pages layout
  pub mapped : (p : ℕ) → p < all_pages layout → mapping_of (pte_at table p) ≡ entry_at_build layout p

-- it has each page, the first n mapped as the build leaves them, and the others to nothing
pub record MapsFirst (layout : Layout) (table : List Pte) (n : ℕ) : Type 0 where
  pub sized : length table ≡ all_pages layout
  pub mapped : (p : ℕ) → mapping_of (pte_at table p) ≡ (if nat_lt p n then entry_at_build layout p else mapping_of unmapped)
