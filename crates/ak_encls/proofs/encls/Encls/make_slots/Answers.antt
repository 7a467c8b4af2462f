use Rattle.ak_encls.proofs.Leading.{makes_leads}
use Rattle.ak_encls.proofs.encls.Encls.make_slots.Goals as goal

pub returns-clause-done : goal.returns-clause-done
returns-clause-done c = λ layout state h.
    makes_leads layout c.args.self.now c.add_va.new.self state h c.args.f c.in_ok-check_free.ensures.within c.add_va.ensures.each_frame
    c.add_va.ensures.entries c.add_va.ensures.frames c.add_va.ensures.rest
