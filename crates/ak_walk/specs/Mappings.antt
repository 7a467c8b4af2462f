-- What an entry of the page table says. (SDM volume 3A, "Paging", one entry a page.)
use Rattle.ak_model.specs.Paging.Holdings.{Mapping}
use Rattle.ak_pte.specs.declared.table.Pte.{Pte}

-- an entry of the page table
abbrev pub mapping_of : Pte → Mapping
mapping_of pte = record { frame = pte.frame.0; flags = pte.flags }
