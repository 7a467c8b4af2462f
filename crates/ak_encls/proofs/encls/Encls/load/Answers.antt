use Rattle.std.proofs.Common.{refl}
use Rattle.ak_encls.proofs.Leading.{loads_leads, reblocked}
use Rattle.ak_sealed.specs.SealedPages.{sealed_page_at}
use Rattle.ak_encls.proofs.encls.Encls.load.Goals as goal

pub returns-clause-done : goal.returns-clause-done
returns-clause-done c = λ layout state h.
    loads_leads layout c.args.self.now c.load_into.new.self state h c.args.f c.args.va c.args.h c.args.p c.args.i (record c.in_ok-entry.entry { blocked = c.args.blocked })
    c.in_ok-entry.ensures.within (reblocked (sealed_page_at c.args.self.now.handles c.args.h.0) c.in_ok-entry.entry c.args.blocked c.in_ok-entry.ensures.sealed)
    c.load_into.ensures.entries c.load_into.ensures.bytes c.load_into.ensures.slot c.load_into.ensures.slots c.load_into.ensures.others
    c.load_into.ensures.lengths c.load_into.ensures.stamp c.load_into.ensures.stamps c.load_into.ensures.rest c.args.blocked refl
