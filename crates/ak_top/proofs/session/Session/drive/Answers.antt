use Rattle.std.proofs.Common.{◌≡◌, ◌+◌, ◌-◌, ℕ, suc, arith, refl, ap, sym, ◌∙◌, subst}
use Rattle.std.specs.Prelude.{Some, None}
use Rattle.ak_core.specs.Layout.{Layout}
use Rattle.ak_driver.specs.Notes.{Notes}
use Rattle.ak_model.specs.Kernels.HonestKernel.{drive}
use Rattle.ak_model.specs.Paging.Histories.{History}
use Rattle.ak_machine.specs.Machines.{Parts}
use Rattle.ak_top.specs.Follows.{Drives, past_of}
use Rattle.ak_top.proofs.Following.{drives_none, drives_some}
use Rattle.ak_top.proofs.session.Session.drive.Goals as goal

pub returns-in_default-clause-drives : goal.returns-in_default-clause-drives
returns-in_default-clause-drives c image before =
    let here = c.loop.invariant.stands image before in
    let inputs = c.args.inputs.now in
    let past = past_of c.loop.self.run.journal in
    let now : c.layout.result.now ≡ c.loop.self.run.machine.layout = c.layout.ensures ∙ ap (λ (machine : Parts). machine.layout) c.machine.ensures in
    let N : Layout → Type 0 = λ layout. Notes c.loop.self.driver layout past in
    let D : Layout → Type 0 = λ layout. None ≡ drive layout past inputs in
    let none = subst D (now ∙ c.loop.invariant.layout) (c.in_default.ensures past (subst N (sym now) here.told)) in
    c.loop.invariant.drives image before past (drives_none c.args.self.now.run.machine.layout inputs (c.args.most - c.loop.counter) past (sym none))

pub loop-preserved : goal.loop-preserved
loop-preserved c = record {
  layout = c.apply.ensures.layout ∙ c.loop.invariant.layout;
  moves = let more = c.in_ok-apply.ensures.moves in let so_far = c.loop.invariant.moves in omega arith;
  stands = λ image before. c.in_ok-apply.ensures.stands image (c.loop.invariant.stands image before);
  drives = λ image before last rest.
      let here = c.loop.invariant.stands image before in
      let layout = c.args.self.now.run.machine.layout in
      let inputs = c.args.inputs.now in
      let past = past_of c.loop.self.run.journal in
      let now : c.layout.result.now ≡ c.loop.self.run.machine.layout = c.layout.ensures ∙ ap (λ (machine : Parts). machine.layout) c.machine.ensures in
      let N : Layout → Type 0 = λ layout. Notes c.loop.self.driver layout past in
      let D : Layout → Type 0 = λ layout. Some c.in-Some.m ≡ drive layout past inputs in
      let some = subst D (now ∙ c.loop.invariant.layout) (c.in-Some.ensures past (subst N (sym now) here.told)) in
      let next = c.in_ok-apply.ensures.next image here in
      let n = c.args.most - (c.loop.counter + 1) in
      let P : History → Type 0 = λ next. Drives layout inputs n next last in
      let step = drives_some layout inputs n past last c.in-Some.m (sym some) (next.0, subst P next.1 rest) in
      let count : suc n ≡ c.args.most - c.loop.counter = omega arith in
      let Q : ℕ → Type 0 = λ n. Drives layout inputs n past last in
      c.loop.invariant.drives image before last (subst Q count step);
}

pub returns-clause-drives : goal.returns-clause-drives
returns-clause-drives c image before =
    let layout = c.args.self.now.run.machine.layout in
    let past = past_of c.loop.self.run.journal in
    let count : 0 ≡ c.args.most - c.loop.counter = omega arith in
    let Q : ℕ → Type 0 = λ n. Drives layout c.args.inputs.now n past past in
    c.loop.invariant.drives image before past (subst Q count refl)
