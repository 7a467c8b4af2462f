use Rattle.std.proofs.Common.{◌<◌, List, length, set, sym, subst}
use Rattle.ak_core.specs.declared.page.Entry.{Entry}
use Rattle.ak_encls.specs.Building.{IsNotSealed}
use Rattle.ak_encls.specs.Enclave.{Enclave}
use Rattle.ak_encls.specs.Sound.{IsSound}
use Rattle.ak_encls.proofs.Soundness.{add_sound}
use Rattle.ak_encls.proofs.encls.Encls.put_page.Goals as goal

pub invariant_of-self : goal.invariant_of-self
invariant_of-self c =
    let s = c.self.inside in
    let within : c.args.f.0 < length s.epcm = subst (λ (e : Enclave). c.args.f.0 < length e.entries) (sym c.self.view_is) c.requires.within in
    let fresh : IsNotSealed s.sealed c.args.entry.page.0 = subst (λ (e : Enclave). IsNotSealed e.handles c.args.entry.page.0) (sym c.self.view_is) c.requires.not_sealed in
    let P : List Entry → Type 0 = λ l. IsSound l (set s.frames.items c.args.f.0 c.args.bytes.now) s.stamps.items s.sealed in
    subst P (sym c.set.ensures)
    (add_sound s.epcm s.frames.items s.stamps.items s.sealed c.self.invariant c.args.f.0 c.args.entry c.args.bytes.now within c.requires.page fresh)
