use Rattle.std.proofs.Common.{ap, refl, ◌∙◌}
use Rattle.ak_ssa.specs.ReadFrames.{cleared}
use Rattle.ak_ssa.proofs.Parts.{at_end, end_size, below_put, ends}
use Rattle.ak_ssa.proofs.page.clear_valid.Goals as goal

pub returns : goal.returns
returns c =
    let page = c.args.page.now in
    let new = c.clear_valid.new.frame in
    let is = at_end page new c.requires (c.clear_valid.auto.frame ∙ end_size page c.requires) in
    record {
      cleared = is ∙ c.clear_valid.ensures.cleared ∙ ap cleared (ends page _ c.requires refl);
      saved = λ regs why sixteen saved. is ∙ c.clear_valid.ensures.saved regs why sixteen (ends page _ c.requires saved);
      below = below_put page new c.requires;
    }
