use Rattle.std.proofs.Common.{ℕ, replicate, ap, ◌∙◌}
use Rattle.ak_image.proofs.built.fill_zeros.Goals as goal

pub returns : goal.returns
returns c = c.fill.ensures.after (λ y e. e) ∙ ap (λ (k : ℕ). replicate k 0) c.requires
