-- Entries of the page table.
use Rattle.std.specs.Prelude.{ℕ, false, List, slice_index_or}
use Rattle.ak_pte.specs.declared.table.Pte.{Pte}

-- the entry of a page that is mapped to nothing
abbrev pub unmapped : Pte
unmapped = record {
  frame = record { 0 = 0 };
  flags = record { p = false; w = false; x = false; a = false; d = false };
}

-- a page's entry; a page that the table does not have is mapped to nothing
abbrev pub pte_at : List Pte → ℕ → Pte
pte_at table p = slice_index_or table p unmapped
