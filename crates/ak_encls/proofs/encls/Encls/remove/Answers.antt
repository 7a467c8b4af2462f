use Rattle.ak_encls.proofs.Leading.{removes_leads}
use Rattle.ak_encls.proofs.encls.Encls.remove.Goals as goal

pub returns-clause-done : goal.returns-clause-done
returns-clause-done c = λ layout state h.
    removes_leads layout c.args.self.now c.free.new.self state h c.args.f c.in_ok-check_removable.ensures.within c.free.ensures.entries c.free.ensures.rest
