-- Each turn absorbs one more chunk; in the end they are sixteen.
use Rattle.std.proofs.Common.{◌≡◌, subst, arith}
use Rattle.ak_measure.specs.Absorbed.{HasAbsorbed}
use Rattle.ak_measure.proofs.BlockLists.{chunks-more}
use Rattle.ak_measure.proofs.measurement.Measure.add_page.Goals as goal

pub loop-j-preserved : goal.loop-j-preserved
loop-j-preserved c = λ bytes absorbed.
    subst (HasAbsorbed c.extend.new.self) (chunks-more bytes c.args.offset c.args.secinfo c.args.page.now c.loop-j.j)
    (c.extend.ensures _ (c.loop-j.invariant bytes absorbed))

pub returns : goal.returns
returns c = λ bytes absorbed.
    let all : c.loop-j.j ≡ 16 = omega arith in
    rw all at c.loop-j.invariant bytes absorbed
