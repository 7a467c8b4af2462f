use Rattle.std.proofs.Common.{◌≡◌, drop}
use Rattle.std.specs.Prelude.{find, flat_map}
use Rattle.ak_model.specs.Paging.Pages.{pages_of}
use Rattle.ak_driver.specs.Duties.{wants, dropped_by}
use Rattle.ak_driver.proofs.driver.Driver.first_evicted.Given as goal

abbrev pub invariant-loop-c : goal.invariant-loop-c
invariant-loop-c l =
    find (wants l.self l.layout l.duty) (flat_map (pages_of l.layout) (drop l.c-index (dropped_by l.self)))
    ≡ find (wants l.self l.layout l.duty) (flat_map (pages_of l.layout) (dropped_by l.self))
