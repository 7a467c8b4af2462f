use Rattle.std.proofs.Common.{◌≡◌, ◌+◌, ◌<◌, [], length, ap, sym, subst, ◌∙◌, arith, List}
use Rattle.ak_driver.specs.NotedTables.{facts, noted}
use Rattle.ak_driver.specs.declared.tables.PageNote.{PageNote}
use Rattle.ak_driver.proofs.Noting.AtBuild.{PagesUpTo, one_more_page, page_at_build}
use Rattle.ak_driver.proofs.tables.pages_at_build.Goals as goal

pub loop-i-preserved : goal.loop-i-preserved
loop-i-preserved c =
    let layout = c.args.layout.now in
    let i = c.loop-i.i in
    let low : i < length layout.perms = omega (arith, c.loop-i-test.true, ap length c.perms-i-end.ensures.perms) in
    let is : noted c.page_at_build.result ≡ facts layout [] i = c.page_at_build.ensures ∙ page_at_build layout i low in
    subst (λ (l : List PageNote). PagesUpTo l layout (i + 1)) (sym {A = List PageNote} c.in-Ok.ensures.items)
    (one_more_page c.loop-i.notes.items layout i c.page_at_build.result c.loop-i.invariant is)
