use Rattle.ak_pager_tests.specs.TestPages.{IsWhole}
use Rattle.ak_pager_tests.proofs.memory.Pages.new.Given as goal

abbrev pub invariant-loop-page : goal.invariant-loop-page
invariant-loop-page l = IsWhole l.pages.items
