use Rattle.ak_pager_tests.proofs.InPages.{whole-none, whole-push}
use Rattle.std.proofs.lemmas.List.{length-replicate}
use Rattle.std.proofs.Common.{ℕ}
use Rattle.ak_pager_tests.proofs.memory.Pages.new.Goals as goal

pub loop-page-init : goal.loop-page-init
loop-page-init c = whole-none c.new-pages.result.items c.new-pages.ensures.items

pub loop-page-preserved : goal.loop-page-preserved
loop-page-preserved c =
    whole-push c.loop-page.pages.items _ c.push.new.self.items c.in_ok-push.ensures.items (length-replicate {A = ℕ} 4096 0) c.loop-page.invariant
