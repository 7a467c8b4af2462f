use Rattle.std.proofs.Common.{◌≡◌, true, ap, sym, subst}
use Rattle.ak_epcm.specs.Entries.{entry_at, is_of_page}
use Rattle.ak_encls.specs.Enclave.{Enclave}
use Rattle.ak_encls.proofs.Soundness.{frame_sound}
use Rattle.ak_encls.proofs.encls.Encls.frame_mut.Goals as goal

pub invariant_of-self-lent : goal.invariant_of-self-lent
invariant_of-self-lent c = λ bytes.
    let s = c.self.inside in
    let entries_are = ap (λ (e : Enclave). e.entries) c.self.view_is in
    let page : is_of_page (entry_at s.epcm c.args.f.0) ≡ true = subst (λ l. is_of_page (entry_at l c.args.f.0) ≡ true) (sym entries_are) c.requires in
    frame_sound s.epcm s.frames.items s.stamps.items s.sealed c.self.invariant c.args.f.0 bytes page
