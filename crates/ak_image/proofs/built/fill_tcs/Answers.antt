use Rattle.std.proofs.Common.{◌≡◌, ℕ, List, replicate, ap, ◌∙◌}
use Rattle.ak_image.proofs.Filling.{tcs_page-filled, put_at}
use Rattle.ak_image.proofs.built.fill_tcs.Goals as goal

pub returns : goal.returns
returns c =
    let zeroed : c.fill.new.self ≡ replicate 4096 0 = c.fill.ensures.after (λ y e. e) ∙ ap (λ (k : ℕ). replicate k 0) c.requires.whole in
    c.put.ensures ∙ (ap (λ (head : List ℕ). put_at 0 head c.fill.new.self) c.tcs_head.ensures ∙ tcs_page-filled c.args.pages c.fill.new.self zeroed)
