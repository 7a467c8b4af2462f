use Rattle.std.proofs.Common.{◌≡◌, ap, sym, ◌∙◌}
use Rattle.ak_sealed.specs.SealedPages.{Handles}
use Rattle.ak_encls.specs.Enclave.{Enclave}
use Rattle.ak_encls.proofs.Soundness.{handles_sound}
use Rattle.ak_encls.proofs.Discarding.{without_one, same_handles}
use Rattle.ak_encls.proofs.encls.Encls.give_up.Goals as goal

pub invariant_of-self : goal.invariant_of-self
invariant_of-self c =
    let s = c.self.inside in
    handles_sound s.epcm s.frames.items s.stamps.items s.sealed c.self.invariant c.discard.new.self
    c.discard.ensures.next (without_one s.sealed c.discard.new.self c.args.h.0 c.discard.ensures.sealed_page)

pub returns-clause-dead : goal.returns-clause-dead
returns-clause-dead c = λ dead.
    let s = c.self.inside in
    let handles_are : c.discard.new.self ≡ s.sealed =
    same_handles s.sealed c.discard.new.self c.args.h.0 c.discard.ensures.sealed_page c.discard.ensures.next c.discard.ensures.spare
    (sym c.discard.ensures.live ∙ dead) in
    let made : Handles → Enclave = λ handles. record {
      entries = s.epcm;
      frames = s.frames.items;
      handles = handles;
      track = s.track;
      stamps = s.stamps.items;
      measure = s.measure;
    } in
    ap made handles_are ∙ c.self.view_is
