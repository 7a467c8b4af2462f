use Rattle.std.proofs.Common.{◌≡◌, true, List, ◌++◌, take}
use Rattle.std.specs.List.{list_all}
use Rattle.ak_core.specs.declared.page.Entry.{Entry}
use Rattle.ak_tlb.specs.Fills.{Fill, HoldsFills}
use Rattle.ak_memory.specs.Granting.{NamesPages}
use Rattle.ak_memory.specs.Spots.{spot_fills, spot_names_page}
use Rattle.ak_memory.proofs.caching.fill_walked.Given as goal

abbrev pub invariant-loop-spot : goal.invariant-loop-spot
invariant-loop-spot l = record {
  holds : (fills : List Fill) → HoldsFills l.initial.tlb fills → HoldsFills l.tlb (spot_fills (take l.spot-index l.spots) ++ fills);
  named : (entries : List Entry) → list_all (spot_names_page entries) l.spots ≡ true → NamesPages entries l.initial.tlb → NamesPages entries l.tlb;
}
