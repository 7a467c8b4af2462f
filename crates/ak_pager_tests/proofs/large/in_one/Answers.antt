use Rattle.std.proofs.Common.{arith}
use Rattle.ak_pager_tests.proofs.ManyPages.{numbered_once}
use Rattle.ak_pager_tests.proofs.large.in_one.Goals as goal

pub many_pages-requires-clause-numbered : goal.many_pages-requires-clause-numbered
many_pages-requires-clause-numbered c =
    let made = c.loop-page.invariant in
    numbered_once c.loop-page.cluster_of.items (omega (arith, made.count, c.requires, c.loop-page.auto._page-end, c.loop-page-test.false)) made.zeros
