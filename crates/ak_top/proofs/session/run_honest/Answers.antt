use Rattle.std.proofs.Common.{◌≡◌, [], length, arith, ap, subst}
use Rattle.ak_core.specs.Layout.{Layout}
use Rattle.ak_model.specs.Paging.Histories.{History}
use Rattle.ak_top.specs.Follows.{Drives, past_of}
use Rattle.ak_top.proofs.session.run_honest.Goals as goal

pub drive-requires : goal.drive-requires
drive-requires c =
    let none : length c.in_ok-session.session.run.journal.moves ≡ 0 = ap length c.in_ok-session.ensures.moves in
    let few = c.requires.few in omega arith

pub returns-clause-drives : goal.returns-clause-drives
returns-clause-drives c image built =
    let begun = c.in_ok-session.ensures in
    let last = past_of c.drive.new.self.run.journal in
    let D : Layout → History → Type 0 = λ layout past. Drives layout [] c.args.most past last in
    subst (D c.args.machine.layout) begun.past
    (subst (λ layout. D layout (past_of c.in_ok-session.session.run.journal)) begun.layout (c.in_ok-drive.ensures.drives image (begun.stands image built)))

pub returns-clause-faithful : goal.returns-clause-faithful
returns-clause-faithful c image built = (c.in_ok-drive.ensures.stands image (c.in_ok-session.ensures.stands image built)).faithful
