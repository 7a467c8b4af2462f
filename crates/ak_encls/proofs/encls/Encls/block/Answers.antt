use Rattle.ak_encls.proofs.Leading.{blocks_leads}
use Rattle.ak_encls.proofs.encls.Encls.block.Goals as goal

pub returns-clause-done : goal.returns-clause-done
returns-clause-done c = λ layout state h.
    blocks_leads layout c.args.self.now c.mark_blocked.new.self state h c.args.f c.in_ok-page_entry.ensures.within
    c.mark_blocked.ensures.entries c.mark_blocked.ensures.stamp c.mark_blocked.ensures.stamps c.mark_blocked.ensures.rest
