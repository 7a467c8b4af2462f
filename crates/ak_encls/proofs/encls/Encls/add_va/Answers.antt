use Rattle.std.proofs.Common.{◌<◌, List, length, set, ap, sym, ◌∙◌, subst, refl}
use Rattle.ak_core.specs.declared.page.Entry.{Entry}
use Rattle.ak_encls.specs.Building.{va_entry}
use Rattle.ak_encls.specs.Enclave.{Enclave}
use Rattle.ak_encls.specs.Sound.{IsSound, slot_by}
use Rattle.ak_encls.proofs.Soundness.{set_sound, blank_slot}
use Rattle.ak_encls.proofs.encls.Encls.add_va.Goals as goal

pub invariant_of-self : goal.invariant_of-self
invariant_of-self c =
    let s = c.self.inside in
    let entries_are = ap (λ (e : Enclave). e.entries) c.self.view_is in
    let within : c.args.f.0 < length s.epcm = subst (λ l. c.args.f.0 < length l) (sym entries_are) c.requires.within in
    let P : List Entry → Type 0 = λ l. IsSound l (set s.frames.items c.args.f.0 c.fill_zeros.new.page) s.stamps.items s.sealed in
    subst P (sym c.set.ensures)
    (set_sound s.epcm s.frames.items s.stamps.items s.sealed c.self.invariant c.args.f.0 va_entry c.fill_zeros.new.page within
    (λ i. ap (λ b. slot_by va_entry b i) c.fill_zeros.ensures ∙ blank_slot (length c.index_mut.result.now) i) (λ va i p e. refl))
