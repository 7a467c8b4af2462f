use Rattle.ak_encls.proofs.Leading.{writes_leads}
use Rattle.ak_encls.proofs.encls.Encls.write_out.Goals as goal

pub returns-clause-done : goal.returns-clause-done
returns-clause-done c = λ layout state h.
    writes_leads layout c.args.self.now c.seal_into-handle.new.self state h c.args.f c.args.va c.args.i c.in_ok-check_write_out.ensures.within
    c.seal_into-handle.ensures.entries c.seal_into-handle.ensures.slot c.seal_into-handle.ensures.slots c.seal_into-handle.ensures.others
    c.seal_into-handle.ensures.lengths c.seal_into-handle.ensures.sealed_page c.seal_into-handle.ensures.next c.seal_into-handle.ensures.rest
