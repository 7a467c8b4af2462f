use Rattle.std.proofs.Common.{◌≡◌, sym, subst}
use Rattle.ak_core.specs.Layout.{Layout}
use Rattle.ak_driver.specs.Notes.{Notes}
use Rattle.ak_model.specs.Paging.Histories.{History}
use Rattle.ak_top.specs.Follows.{past_of}
use Rattle.ak_top.proofs.Pasts.{one_more, may_come}
use Rattle.ak_top.proofs.session.Session.apply.Goals as goal

pub returns-clause-stands : goal.returns-clause-stands
returns-clause-stands c image before =
    let old = c.args.self.now.run in
    let new = c.apply.new.self in
    let m = c.args.m in
    let a = c.in_ok-answer.answer in
    let made = c.in_ok-answer.ensures in
    let after = c.apply.ensures.faithful image before.faithful in
    let layout : new.machine.layout ≡ old.machine.layout = c.apply.ensures.layout in
    let may = may_come image old new before.faithful after m a made.moves made.answers c.requires in
    let N : Layout → Type 0 = λ layout. Notes c.args.self.now.driver layout (past_of old.journal) in
    let told = c.note.ensures new.machine.layout (past_of old.journal) (subst N (sym layout) before.told) may in
    let P : History → Type 0 = Notes c.note.new.self new.machine.layout in
    record { faithful = after; told = subst P (sym (one_more image old new before.faithful after m a made.moves made.answers)) told }

pub returns-clause-next : goal.returns-clause-next
returns-clause-next c image before =
    let made = c.in_ok-answer.ensures in
    let after = c.apply.ensures.faithful image before.faithful in
    (c.in_ok-answer.answer, one_more image c.args.self.now.run c.apply.new.self before.faithful after c.args.m c.in_ok-answer.answer made.moves made.answers)
