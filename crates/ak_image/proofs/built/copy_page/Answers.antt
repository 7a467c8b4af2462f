use Rattle.std.proofs.Common.{◌≡◌, ℕ, ◌+◌, ◌-◌, ◌*◌, take, drop, ap, ◌∙◌, arith}
use Rattle.ak_image.proofs.built.copy_page.Goals as goal

pub returns : goal.returns
returns c =
    let from = 4096 * c.args.page in
    let whole : from + 4096 - from ≡ 4096 = omega arith in
    c.copy_from_slice.ensures.after ∙ ap (λ (k : ℕ). take k (drop from c.args.pages.now)) whole
