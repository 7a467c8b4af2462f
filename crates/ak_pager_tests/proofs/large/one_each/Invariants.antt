use Rattle.std.proofs.Common.{◌≡◌, length}
use Rattle.ak_pager_tests.proofs.ManyPages.{Ascends}
use Rattle.ak_pager_tests.proofs.large.one_each.Given as goal

abbrev pub invariant-loop-page : goal.invariant-loop-page
invariant-loop-page l = record {
  count : length l.cluster_of.items ≡ l.page;
  ascends : Ascends l.cluster_of.items 0;
}
