use Rattle.ak_driver.proofs.Noting.AtBuild.{PagesUpTo}
use Rattle.ak_driver.proofs.tables.pages_at_build.Given as goal

abbrev pub invariant-loop-i : goal.invariant-loop-i
invariant-loop-i l = PagesUpTo l.notes.items l.layout l.i
