use Rattle.std.proofs.Common.{◌≡◌, ℕ, ◌<◌, List, length, get_or, ap, ◌∙◌, subst, arith}
use Rattle.std.proofs.lemmas.List.{length-replicate}
use Rattle.std.proofs.lemmas.Option.{slice_get-get_or}
use Rattle.std.specs.Prelude.{Some, slice_get}
use Rattle.ak_core.specs.declared.page.Perm.{Perm}
use Rattle.ak_core.specs.declared.page.Perm.TheVariants.{R}
use Rattle.ak_build.proofs.Away.{no_program_frame, not_sealed}
use Rattle.ak_build.proofs.Sealing.{sealed}
use Rattle.ak_build.proofs.adding.seal_page.Goals as goal

pub add_sealed_page-requires-clause-no_frame : goal.add_sealed_page-requires-clause-no_frame
add_sealed_page-requires-clause-no_frame c =
    let h = c.requires.so_far in
    no_program_frame c.args.image.now c.args.layout.now.frames c.args.layout.now.lps c.args.encls.now c.args.p.0 0 h c.args.p.0 c.requires.page

pub add_sealed_page-requires-clause-not_sealed : goal.add_sealed_page-requires-clause-not_sealed
add_sealed_page-requires-clause-not_sealed c =
    let h = c.requires.so_far in
    not_sealed c.args.image.now c.args.layout.now.frames c.args.layout.now.lps c.args.encls.now c.args.p.0 0 h c.args.p.0 (omega arith)

-- the permission that the layout has
allowed : (perms others : List Perm) (p : ℕ) → others ≡ perms → p < length perms → slice_get perms p ≡ Some (get_or others p R)
allowed perms others p same below =
    subst (λ l. slice_get l p ≡ Some (get_or others p R)) same (slice_get-get_or others p R (let e = ap length same in omega arith))

pub returns : goal.returns
returns c =
    let layout = c.args.layout.now in
    let e = c.add_sealed_page.ensures in
    sealed c.args.image.now layout.frames layout.lps c.args.p.0 c.add_sealed_page.result.0 _ c.fill.new.into c.args.encls.now c.add_sealed_page.new.self c.requires.so_far
    c.requires.page (allowed c.args.image.now.perms c.perms.result.now c.args.p.0 (c.perms.ensures.perms ∙ c.requires.same) c.requires.page)
    c.fill.ensures (c.fill.auto.into ∙ length-replicate {A = ℕ} 4096 0) c.perms.ensures.valid.some_frames
    e.handle e.entries e.slot e.slots e.sealed_page e.next e.spare e.unentered e.cycles e.lps e.measure e.lengths
