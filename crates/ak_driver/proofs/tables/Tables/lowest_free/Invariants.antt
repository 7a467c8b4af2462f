use Rattle.std.proofs.Common.{◌≡◌, ◌-◌}
use Rattle.std.specs.Prelude.{find}
use Rattle.std.specs.List.{range_with_len}
use Rattle.ak_driver.specs.NotedTables.{is_free_note}
use Rattle.ak_driver.proofs.tables.Tables.lowest_free.Given as goal

abbrev pub invariant-loop-f : goal.invariant-loop-f
invariant-loop-f l =
    find (is_free_note l.self.frames.items) (range_with_len l.f (l.frames - l.f)) ≡ find (is_free_note l.self.frames.items) (range_with_len 0 l.frames)
