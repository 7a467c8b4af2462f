use Rattle.std.proofs.Common.{◌≡◌, ℕ, ◌+◌, length, ap, ◌∙◌, arith}
use Rattle.std.proofs.lemmas.List.{length-replicate}
use Rattle.ak_image.specs.Built.{page_bytes}
use Rattle.ak_build.proofs.Away.{no_runtime_frame, not_sealed}
use Rattle.ak_build.proofs.Placing.{placed_as}
use Rattle.ak_build.proofs.adding.add_runtime_page.Goals as goal

pub add_page-requires-clause-no_frame : goal.add_page-requires-clause-no_frame
add_page-requires-clause-no_frame c =
    let image = c.args.image.now in
    let layout = c.args.layout.now in
    let at : c.tcs_page.result ≡ length c.args.image.now.perms = c.tcs_page.ensures ∙ ap length (c.perms.ensures.perms ∙ c.requires.same) in
    no_runtime_frame image layout.frames layout.lps c.args.encls.now (length image.perms) c.args.i c.requires.so_far (c.tcs_page.result + c.args.i) (omega arith)

pub add_page-requires-clause-not_sealed : goal.add_page-requires-clause-not_sealed
add_page-requires-clause-not_sealed c =
    let image = c.args.image.now in
    let layout = c.args.layout.now in
    let at : c.tcs_page.result ≡ length c.args.image.now.perms = c.tcs_page.ensures ∙ ap length (c.perms.ensures.perms ∙ c.requires.same) in
    not_sealed image layout.frames layout.lps c.args.encls.now (length image.perms) c.args.i c.requires.so_far (c.tcs_page.result + c.args.i) (omega arith)

pub returns : goal.returns
returns c =
    let image = c.args.image.now in
    let layout = c.args.layout.now in
    let e = c.add_page.ensures in
    let at : c.tcs_page.result ≡ length c.args.image.now.perms = c.tcs_page.ensures ∙ ap length (c.perms.ensures.perms ∙ c.requires.same) in
    placed_as image layout.frames layout.lps c.args.i c.fill.new.into c.args.encls.now c.add_page.new.self c.requires.so_far c.requires.page
    (c.fill.ensures ∙ ap (λ (n : ℕ). page_bytes image (n + c.args.i)) at) (c.fill.auto.into ∙ length-replicate {A = ℕ} 4096 0) c.perms.ensures.valid.some_frames
    (c.tcs_page.result + c.args.i) c.runtime_type.result c.runtime_perm.result (ap (λ (n : ℕ). n + c.args.i) at) c.runtime_type.ensures c.runtime_perm.ensures
    e.entries e.frames e.in_frames e.measure e.rest
