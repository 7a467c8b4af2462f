use Rattle.std.proofs.Common.{sym, ◌∙◌, ap, subst, arith}
use Rattle.ak_gen.proofs.Wholeness.{generated-whole}
use Rattle.ak_image.specs.Image.{Image, IsWhole, layout_of}
use Rattle.ak_run.specs.Runs.{Faithful}
use Rattle.ak_top.proofs.Demos.{demo_run}
use Rattle.ak_top.proofs.Frames.{few_handles}
use Rattle.ak_top.proofs.demo.run_demo.Goals as goal

pub run_honest-requires-clause-handles : goal.run_honest-requires-clause-handles
run_honest-requires-clause-handles c =
    let image = c.in_ok-image.image in
    let whole : IsWhole image = subst IsWhole (sym c.in_ok-image.ensures) (generated-whole c.args.number) in
    let built = c.in_ok-machine.ensures in
    let few = few_handles image image.bytes _ _ c.in_ok-machine.machine whole built.layout built.built in omega arith

pub run_honest-requires-clause-cycles : goal.run_honest-requires-clause-cycles
run_honest-requires-clause-cycles c =
    let image = c.in_ok-image.image in
    let whole : IsWhole image = subst IsWhole (sym c.in_ok-image.ensures) (generated-whole c.args.number) in
    let cycles = c.in_ok-machine.ensures.pages.cycles in
    let few = whole.valid.few_pages in omega arith

pub returns : goal.returns
returns c =
    let is = c.in_ok-image.ensures in
    let image = c.in_ok-image.image in
    let built = c.in_ok-machine.ensures in
    let run = c.in_ok-run_honest.field-0 in
    let ran = c.in_ok-run_honest.ensures in
    let F : Image → Type 0 = λ image. Faithful image.bytes run in
    demo_run c.args.number c.in_ok-machine.machine.layout run (built.layout ∙ ap (λ image. layout_of image 136 1) is) ran.layout
    (subst F is (ran.faithful image.bytes built.built)) (ran.drives image.bytes built.built)
