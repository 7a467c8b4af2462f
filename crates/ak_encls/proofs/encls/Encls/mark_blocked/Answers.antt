use Rattle.std.proofs.Common.{◌≡◌, true, List, set, ap, sym, subst}
use Rattle.ak_core.specs.declared.page.Entry.{Entry}
use Rattle.ak_epcm.specs.Entries.{entry_at}
use Rattle.ak_encls.specs.Enclave.{Enclave}
use Rattle.ak_encls.specs.Sound.{IsSound}
use Rattle.ak_encls.proofs.SlotChanges.{valid_within}
use Rattle.ak_encls.proofs.Soundness.{block_sound}
use Rattle.ak_encls.proofs.encls.Encls.mark_blocked.Goals as goal

pub invariant_of-self : goal.invariant_of-self
invariant_of-self c =
    let s = c.self.inside in
    let entries_are = ap (λ (e : Enclave). e.entries) c.self.view_is in
    let valid : (entry_at s.epcm c.args.f.0).valid ≡ true = subst (λ l. (entry_at l c.args.f.0).valid ≡ true) (sym entries_are) c.requires.valid in
    let P : List Entry → Type 0 = λ l. IsSound l s.frames.items (set s.stamps.items c.args.f.0 c.stamp.result) s.sealed in
    subst P (sym c.block.ensures)
    (block_sound s.epcm s.frames.items s.stamps.items s.sealed c.self.invariant c.args.f.0 c.stamp.result (valid_within s.epcm c.args.f.0 valid))
