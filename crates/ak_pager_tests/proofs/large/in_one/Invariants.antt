use Rattle.std.proofs.Common.{◌≡◌, length}
use Rattle.std.specs.Prelude.{All}
use Rattle.ak_pager_tests.proofs.large.in_one.Given as goal

abbrev pub invariant-loop-page : goal.invariant-loop-page
invariant-loop-page l = record {
  count : length l.cluster_of.items ≡ l._page;
  zeros : All (λ c. c ≡ 0) l.cluster_of.items;
}
