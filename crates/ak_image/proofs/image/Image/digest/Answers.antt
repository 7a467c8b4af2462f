use Rattle.std.proofs.Common.{◌≡◌, ℕ, ◌+◌, ◌*◌, ◌++◌, List, sym, ap, subst, ◌∙◌, arith}
use Rattle.ak_measure.specs.Absorbed.{HasAbsorbed}
use Rattle.ak_measure.specs.Blocks.{create_block, page_blocks, blocks_of}
use Rattle.ak_image.specs.Built.{pages_of, secinfo_of}
use Rattle.ak_core.specs.Layout.{enclave_size}
use Rattle.ak_image.proofs.Measured.{blocks-none, blocks-more, digest_of-all, first_pages}
use Rattle.ak_image.proofs.image.Image.digest.Goals as goal

pub loop-page-init : goal.loop-page-init
loop-page-init c =
    subst (HasAbsorbed c.new-measure.result) (ap create_block c.size.ensures ∙ sym (blocks-none (enclave_size (pages_of c.args.self.now)))) c.new-measure.ensures

pub loop-page-preserved : goal.loop-page-preserved
loop-page-preserved c =
    let image = c.args.self.now in
    let k = c.loop-page.page in
    let size = enclave_size (pages_of image) in
    let same : blocks_of size (first_pages image k) ++ page_blocks (4096 * c.from.result) c.secinfo.result c.fill.new.into ≡ blocks_of size (first_pages image (k + 1)) =
    ap (λ (i : ℕ). blocks_of size (first_pages image k) ++ page_blocks (4096 * i) c.secinfo.result c.fill.new.into) c.from.ensures
    ∙ (ap (λ (i : ℕ). blocks_of size (first_pages image k) ++ page_blocks (4096 * k) i c.fill.new.into) c.secinfo.ensures
    ∙ (ap (λ (l : List ℕ). blocks_of size (first_pages image k) ++ page_blocks (4096 * k) (secinfo_of image k) l) c.fill.ensures
    ∙ blocks-more image size k)) in
    subst (HasAbsorbed c.add_page.new.self) same (c.add_page.ensures _ c.loop-page.invariant)

pub returns : goal.returns
returns c = c.finish.ensures _ c.loop-page.invariant ∙ digest_of-all c.args.self.now c.loop-page.page (omega (arith, c.pages-pages.ensures.pages))
