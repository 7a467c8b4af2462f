use Rattle.std.proofs.Common.{◌≡◌, ◌-◌}
use Rattle.std.specs.Prelude.{find, is_some}
use Rattle.std.specs.List.{range_with_len}
use Rattle.ak_driver.specs.NotedCycles.{entered_at}
use Rattle.ak_driver.proofs.tracking.Tracking.first_inside.Given as goal

abbrev pub invariant-loop-lp : goal.invariant-loop-lp
invariant-loop-lp l =
    find (λ lp. is_some (entered_at l.self.entered lp)) (range_with_len l.lp (4 - l.lp)) ≡ find (λ lp. is_some (entered_at l.self.entered lp)) (range_with_len 0 4)
