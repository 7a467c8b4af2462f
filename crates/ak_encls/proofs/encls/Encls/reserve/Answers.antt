use Rattle.std.proofs.Common.{length, ap}
use Rattle.ak_encls.proofs.Soundness.{handles_sound, same_pages}
use Rattle.ak_encls.proofs.encls.Encls.reserve.Goals as goal

pub invariant_of-self : goal.invariant_of-self
invariant_of-self c =
    let s = c.self.inside in
    handles_sound s.epcm s.frames.items s.stamps.items s.sealed c.self.invariant c.reserve.new.self
    (ap length c.reserve.ensures.sealed_pages) (same_pages s.sealed c.reserve.new.self c.reserve.ensures.sealed_pages)
