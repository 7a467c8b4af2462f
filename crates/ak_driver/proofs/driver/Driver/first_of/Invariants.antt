use Rattle.std.proofs.Common.{◌≡◌, ◌-◌, ◌==◌, length}
use Rattle.std.specs.Prelude.{find, filter}
use Rattle.std.specs.List.{range_with_len}
use Rattle.ak_core.specs.Layout.{IsValid}
use Rattle.ak_model.specs.Paging.Pages.{cluster_at, pages_of}
use Rattle.ak_driver.specs.Duties.{wants}
use Rattle.ak_driver.proofs.driver.Driver.first_of.Given as goal

abbrev pub invariant-loop-p : goal.invariant-loop-p
invariant-loop-p l = record {
  valid : IsValid l.layout;
  all : l.pages ≡ length l.layout.perms;
  clusters : l.cluster_of ≡ l.layout.cluster_of;
  left : find (wants l.self l.layout l.duty) (filter (λ p. cluster_at l.layout p == l.c) (range_with_len l.p (l.pages - l.p)))
      ≡ find (wants l.self l.layout l.duty) (pages_of l.layout l.c);
}
