use Rattle.std.proofs.Common.{◌≡◌, length}
use Rattle.ak_pager_tests.proofs.large.perms_of.Given as goal

abbrev pub invariant-loop-page : goal.invariant-loop-page
invariant-loop-page l = length l.perms.items ≡ l._page
