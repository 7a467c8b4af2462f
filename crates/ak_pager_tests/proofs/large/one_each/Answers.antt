use Rattle.std.proofs.Common.{arith}
use Rattle.ak_pager_tests.proofs.ManyPages.{numbered_each, large_each}
use Rattle.ak_pager_tests.proofs.large.one_each.Goals as goal

pub many_pages-requires-clause-numbered : goal.many_pages-requires-clause-numbered
many_pages-requires-clause-numbered c =
    let made = c.loop-page.invariant in
    numbered_each c.loop-page.cluster_of.items c.args.count (omega (arith, made.count, c.loop-page.auto.page-end, c.loop-page-test.false)) made.ascends

pub many_pages-requires-clause-large : goal.many_pages-requires-clause-large
many_pages-requires-clause-large c =
    omega (arith, large_each c.loop-page.cluster_of.items c.args.count c.loop-page.invariant.ascends)
