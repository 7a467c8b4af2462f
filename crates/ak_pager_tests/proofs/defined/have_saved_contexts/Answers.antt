use Rattle.std.proofs.Common.{length}
use Rattle.ak_pager_tests.specs.DefinedSteps.{program_at}
use Rattle.ak_pager_tests.specs.TestPages.{is_held, page_of}
use Rattle.ak_pager_tests.proofs.Witnesses.{one_counted, two_counted}
use Rattle.ak_pager_tests.proofs.defined.have_saved_contexts.Goals as goal

pub returns-in-1 : goal.returns-in-1
returns-in-1 c phase queue h =
    let items = c.args.mem.now.pages.items in
    one_counted c.args.layout.now phase queue (program_at c.args.program.now) (is_held (length items)) (page_of items) c.args.count c.in-1.is
    (c.has_one.ensures phase queue h)

pub returns-then-has_one : goal.returns-then-has_one
returns-then-has_one c phase queue h =
    let items = c.args.mem.now.pages.items in
    two_counted c.args.layout.now phase queue (program_at c.args.program.now) (is_held (length items)) (page_of items) c.args.count c.in-2.is
    (c.has_one-in-2.ensures phase queue c.if-has_one.true) (c.has_one-then-has_one.ensures phase queue h)
