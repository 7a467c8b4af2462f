use Rattle.std.proofs.Common.{◌≡◌, ap, ◌∙◌, replicate}
use Rattle.ak_ssa.specs.ReadFrames.{cleared}
use Rattle.ak_ssa.proofs.Parts.{cleared_is, cleared_saved, first_sixteen, four_within}
use Rattle.ak_ssa.proofs.frame.clear_valid.Goals as goal

pub returns : goal.returns
returns c =
    let old = c.args.frame.now in
    let sixteen : c.fill.new.self ≡ replicate 16 0 = c.fill.ensures.after (λ y e. e) ∙ ap (λ n. replicate n 0) (first_sixteen old c.requires) in
    let four : c.fill-2.new.self ≡ replicate 4 0 =
    c.fill-2.ensures.after (λ y e. e) ∙ ap (λ n. replicate n 0) (four_within c.fill.new.self old (c.fill.ensures.len ∙ first_sixteen old c.requires) c.requires) in
    let is = cleared_is old c.fill.new.self c.fill-2.new.self sixteen four in
    record { cleared = is; saved = λ regs why many saved. is ∙ ap cleared saved ∙ cleared_saved regs why many }
