use Rattle.std.proofs.Common.{arith, ap, ◌∙◌, subst}
use Rattle.ak_core.specs.Layout.{Layout}
use Rattle.ak_image.specs.Image.{layout_of}
use Rattle.ak_model.specs.Sound.SoundJournal.{Sound}
use Rattle.ak_run.proofs.Sound.{faithful_sound}
use Rattle.ak_top.specs.Follows.{Follows}
use Rattle.ak_top.proofs.Frames.{few_handles}
use Rattle.ak_top.proofs.Signing.{signed_is}
use Rattle.ak_top.proofs.run.run_inputs.Goals as goal

pub run_script-requires-clause-handles : goal.run_script-requires-clause-handles
run_script-requires-clause-handles c =
    let inputs = c.args.inputs.now in
    let built = c.in_ok-machine.ensures in
    let few = few_handles inputs.image inputs.image.bytes _ _ c.in_ok-machine.machine c.frames_of-frames.ensures.whole built.layout built.built in omega arith

pub run_script-requires-clause-cycles : goal.run_script-requires-clause-cycles
run_script-requires-clause-cycles c =
    let cycles = c.in_ok-machine.ensures.pages.cycles in
    let few = c.frames_of-frames.ensures.whole.valid.few_pages in omega arith

pub returns : goal.returns
returns c =
    let inputs = c.args.inputs.now in
    let image = inputs.image.bytes in
    let built = c.in_ok-machine.ensures in
    let run = c.in_ok-run_script.field-0 in
    let ran = c.in_ok-run_script.ensures in
    let layout = built.layout ∙ ap (λ frames. layout_of inputs.image frames c.args.asked.processors) c.frames_of-frames.ensures.value in
    let faithful = ran.faithful image built.built in
    let F : Layout → Type 0 = λ layout. Follows layout inputs.script run.journal in
    let S : Layout → Type 0 = λ layout. Sound image layout run.journal in (
      signed_is inputs (λ e. let wrong = built.unknown.1 e in cc) (λ e. let wrong = built.unsigned.1 e in cc),
      record {
        layout_is = ran.layout ∙ layout;
        follows = subst F layout (ran.follows image built.built);
        faithful = faithful;
        sound = subst S (ran.layout ∙ layout) (faithful_sound image run faithful);
      },
    )
