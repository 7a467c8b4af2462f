use Rattle.std.proofs.Common.{◌∙◌}
use Rattle.ak_ssa.proofs.Parts.{at_end, end_size, below_put}
use Rattle.ak_ssa.proofs.page.guard.Goals as goal

pub returns : goal.returns
returns c = record {
  saved = at_end c.args.page.now c.guard.new.frame c.requires.whole (c.guard.auto.frame ∙ end_size c.args.page.now c.requires.whole) ∙ c.guard.ensures;
  below = below_put c.args.page.now c.guard.new.frame c.requires.whole;
}
