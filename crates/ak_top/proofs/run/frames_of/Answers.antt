use Rattle.std.proofs.Common.{arith}
use Rattle.ak_top.proofs.Frames.{some_budget}
use Rattle.ak_top.proofs.run.frames_of.Goals as goal

pub returns-in-None-clause-some : goal.returns-in-None-clause-some
returns-in-None-clause-some c =
    let one = some_budget c.args.image.now c.pages-pages.ensures.whole in
    let is = c.budget.ensures in omega arith
