use Rattle.std.proofs.Common.{◌≡◌, ◌≤◌, ◌-◌}
use Rattle.std.specs.Prelude.{◌==◌, filter, slice_get}
use Rattle.std.specs.List.{range_with_len}
use Rattle.ak_model.specs.Paging.Pages.{pages, pages_of, cluster_at}
use Rattle.ak_pager.proofs.probing.page_of.Given as goal

abbrev pub invariant-loop-page : goal.invariant-loop-page
invariant-loop-page l = record {
  before : l.earlier ≤ l.number;
  rest : slice_get (filter (λ p. cluster_at l.layout p == l.cluster) (range_with_len l.page (pages l.layout - l.page))) (l.number - l.earlier) ≡ slice_get (pages_of l.layout l.cluster) l.number;
}
