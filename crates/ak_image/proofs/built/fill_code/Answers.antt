use Rattle.std.proofs.Common.{◌≡◌, ℕ, ◌+◌, ◌*◌, ◌<◌, ◌≤◌, ◌++◌, List, replicate, length, get_or, refl, sym, ap, ◌∙◌, arith}
use Rattle.std.specs.List.{zip}
use Rattle.std.proofs.lemmas.Slice.Zip.{get_or-zip, length-zip}
use Rattle.ak_core.specs.declared.page.Perm.TheVariants.{R}
use Rattle.byteorder.specs.Endian.{little_bytes}
use Rattle.ak_image.proofs.Filling.{put_at, entry_of, code-begun, code-more, code-filled}
use Rattle.ak_image.proofs.built.fill_code.Goals as goal

pub loop-page-init : goal.loop-page-init
loop-page-init c =
    let zeroed : c.fill.new.self ≡ replicate 4096 0 = c.fill.ensures.after (λ y e. e) ∙ ap (λ (k : ℕ). replicate k 0) c.requires.whole in
    c.put.ensures
    ∙ (ap (λ (l : List ℕ). put_at 3072 l c.fill.new.self) c.code_limits.ensures
    ∙ code-begun (zip c.args.cluster_of.now c.args.perms.now) (little_bytes 4 c.args.budget ++ little_bytes 4 c.args.entry) c.fill.new.self refl zeroed)

pub loop-page-preserved : goal.loop-page-preserved
loop-page-preserved c =
    let cs = c.args.cluster_of.now in
    let ps = c.args.perms.now in
    let i = c.loop-page.page in
    let same : get_or (zip cs ps) i (0, R) ≡ (get_or cs i 0, get_or ps i R) = get_or-zip cs ps i (0, R) (omega (arith, c.requires.each)) (omega arith) in
    let within : i < length (zip cs ps) = omega (arith, length-zip cs ps, c.requires.each) in
    let few : length (zip cs ps) ≤ 512 = omega (arith, length-zip cs ps, c.requires.few) in
    c.put-in-loop-page.ensures
    ∙ (ap (λ (l : List ℕ). put_at (1024 + 4 * i) l c.loop-page.into) (c.code_entry.ensures ∙ ap entry_of (sym same))
    ∙ code-more (zip cs ps) i (0, R) _ c.loop-page.into within few c.loop-page.invariant)

pub returns : goal.returns
returns c = code-filled c.args.cluster_of.now c.args.perms.now c.args.budget c.args.entry c.loop-page.page c.loop-page.into c.requires.each (omega arith) c.loop-page.invariant
