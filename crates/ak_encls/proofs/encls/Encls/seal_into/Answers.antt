use Rattle.std.proofs.Common.{◌≡◌, ◌*◌, ◌<◌, true, List, length, set, ap, sym, ◌∙◌, subst}
use Rattle.std.specs.Prelude.{Some}
use Rattle.ak_core.specs.declared.page.Entry.{Entry}
use Rattle.ak_epcm.specs.Entries.{entry_at, is_of_page}
use Rattle.ak_model.specs.Flat.Instructions.{number_at}
use Rattle.ak_sealed.specs.SealedPages.{version}
use Rattle.ak_encls.specs.Enclave.{Enclave, frame_at}
use Rattle.ak_encls.specs.Sound.{is_slot, IsSound}
use Rattle.ak_encls.proofs.Soundness.{seal_sound, slot_index, slot_within}
use Rattle.ak_encls.proofs.SlotChanges.{frame_read, frame_same, lengths_stay}
use Rattle.ak_encls.proofs.encls.Encls.seal_into.Goals as goal

slot_is : (c : goal.After-self-1) → is_slot (entry_at c.self.inside.epcm c.args.va.0) c.args.i ≡ true
slot_is c = subst (λ (e : Enclave). is_slot (entry_at e.entries c.args.va.0) c.args.i ≡ true) (sym c.self.view_is) c.requires.slot

in_frames : (c : goal.After-self-1) → c.args.va.0 < length c.self.inside.frames.items
in_frames c =
    let s = c.self.inside in
    slot_within s.epcm s.frames.items s.stamps.items s.sealed c.self.invariant c.args.va.0 c.args.i (slot_is c)

read : (c : goal.After-self-1) → c.index_mut.result.now ≡ frame_at c.self.inside.frames.items c.args.va.0
read c = c.index_mut.ensures.value ∙ frame_read c.self.inside.frames.items c.args.va.0 c.index_mut.result.now (in_frames c)

pub invariant_of-self : goal.invariant_of-self
invariant_of-self c =
    let s = c.self.inside in
    let f = c.args.f.0 in
    let va = c.args.va.0 in
    let i = c.args.i in
    let page : is_of_page (entry_at s.epcm f) ≡ true = subst (λ (e : Enclave). is_of_page (entry_at e.entries f) ≡ true) (sym c.self.view_is) c.requires.page in
    let freed : List Entry → Type 0 = λ l. IsSound l (set s.frames.items va c.set_slot.new.va) s.stamps.items c.put-handle.new.self in
    subst freed (sym c.release.ensures)
    (seal_sound s.epcm s.frames.items s.stamps.items s.sealed c.put-handle.new.self c.self.invariant c.entry-entry.ensures.distinct f va i
    c.entry-entry.result c.index.result.now c.set_slot.new.va c.entry-entry.ensures.entry page (slot_is c) c.put-handle.ensures.sealed_page c.put-handle.ensures.next
    (c.set_slot.ensures.slot (slot_index (entry_at s.epcm va) i (slot_is c)) ∙ ap (λ k. version (Some k)) c.put-handle.ensures.handle)
    (λ j other. c.set_slot.ensures.others j other ∙ ap (λ b. number_at b (8 * j) 8) (read c)))

pub returns-clause-slots : goal.returns-clause-slots
returns-clause-slots c = λ j other.
    ap (λ b. number_at b (8 * j) 8) (frame_same c.self.inside.frames.items c.args.va.0 c.set_slot.new.va (in_frames c))
    ∙ c.set_slot.ensures.others j other ∙ ap (λ b. number_at b (8 * j) 8) (read c)
    ∙ ap (λ (e : Enclave). number_at (frame_at e.frames c.args.va.0) (8 * j) 8) c.self.view_is

pub returns-clause-lengths : goal.returns-clause-lengths
returns-clause-lengths c = λ g.
    lengths_stay c.self.inside.frames.items c.args.va.0 c.set_slot.new.va c.index_mut.result.now (in_frames c) (read c) c.set_slot.ensures.length g
    ∙ ap (λ (e : Enclave). length (frame_at e.frames g)) c.self.view_is
