use Rattle.std.proofs.Common.{◌≡◌, ◌<◌, ◌∙◌, ap, sym, subst}
use Rattle.std.specs.List.{All}
use Rattle.std.proofs.lemmas.List.Elements.{All-from_get_or}
use Rattle.ak_image.specs.Image.{Image}
use Rattle.ak_image.proofs.image.Image.pages.Goals as goal

pub returns-clause-bytes : goal.returns-clause-bytes
returns-clause-bytes c =
    let is : c.args.self.now.bytes ≡ c.deref.result.now = ap (λ (i : Image). i.bytes) (sym c.self.view_is) ∙ sym c.deref.ensures.value in
    subst (λ l. All (λ v. v < 256) l) (sym is) (All-from_get_or (λ v. v < 256) c.deref.result.now 0 (λ i lt. c.whole_pages.ensures.bytes i))
