use Rattle.ak_top.proofs.session.Session.take.Goals as goal

pub returns-in-Move-clause-makes : goal.returns-in-Move-clause-makes
returns-in-Move-clause-makes c image before = rw c.in-Move.is (c.apply.ensures.next image before)

pub returns-in-Auto-clause-makes : goal.returns-in-Auto-clause-makes
returns-in-Auto-clause-makes c image before = rw c.in-Auto.is (c.drive.ensures.drives image before)
