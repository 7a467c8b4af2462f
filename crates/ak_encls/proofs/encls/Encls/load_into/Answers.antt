use Rattle.std.proofs.Common.{◌≡◌, ◌≢◌, ◌<◌, ◌*◌, true, false, List, length, set, ap, sym, ◌∙◌, subst, arith, length-set}
use Rattle.std.specs.Prelude.{Some, option_map}
use Rattle.std.proofs.lemmas.Bool.{eqb-false}
use Rattle.ak_core.specs.declared.page.Entry.{Entry}
use Rattle.ak_epcm.specs.Entries.{entry_at}
use Rattle.ak_model.specs.Flat.Instructions.{number_at}
use Rattle.ak_sealed.specs.SealedPages.{entry_of, sealed_page_at}
use Rattle.ak_encls.specs.Enclave.{Enclave, frame_at}
use Rattle.ak_encls.specs.Sound.{is_slot, IsSound, slot_in}
use Rattle.ak_encls.proofs.SlotChanges.{frame_read, frame_same, frame_other, lengths_stay}
use Rattle.ak_encls.proofs.Soundness.{load_sound, slot_index, slot_within, some_slot, slot_differs}
use Rattle.ak_encls.proofs.encls.Encls.load_into.Goals as goal

free_is : (c : goal.After-set) → (entry_at c.self.inside.epcm c.args.f.0).valid ≡ false
free_is c = subst (λ (e : Enclave). (entry_at e.entries c.args.f.0).valid ≡ false) (sym c.self.view_is) c.requires.free

within : (c : goal.After-set) → c.args.f.0 < length c.self.inside.epcm
within c = subst (λ (e : Enclave). c.args.f.0 < length e.entries) (sym c.self.view_is) c.requires.within

slot_holds : (c : goal.After-set) → slot_in c.self.inside.epcm c.self.inside.frames.items c.args.va.0 c.args.i ≡ Some c.args.h.0
slot_holds c = subst (λ (e : Enclave). slot_in e.entries e.frames c.args.va.0 c.args.i ≡ Some c.args.h.0) (sym c.self.view_is) c.requires.slot

slot_is : (c : goal.After-set) → is_slot (entry_at c.self.inside.epcm c.args.va.0) c.args.i ≡ true
slot_is c =
    let s = c.self.inside in
    some_slot (entry_at s.epcm c.args.va.0) (frame_at s.frames.items c.args.va.0) c.args.i c.args.h.0 (slot_holds c)

differs : (c : goal.After-set) → c.args.va.0 ≢ c.args.f.0
differs c = slot_differs c.self.inside.epcm c.args.f.0 c.args.va.0 c.args.i (free_is c) (slot_is c)

in_loaded : (c : goal.After-set) → c.args.va.0 < length (set c.self.inside.frames.items c.args.f.0 c.copy_out.new.into)
in_loaded c =
    let s = c.self.inside in
    let before = slot_within s.epcm s.frames.items s.stamps.items s.sealed c.self.invariant c.args.va.0 c.args.i (slot_is c) in
    let same = length-set s.frames.items c.args.f.0 c.copy_out.new.into in
    omega arith

read_loaded : (c : goal.After-set) → c.index_mut-2.result.now ≡ frame_at (set c.self.inside.frames.items c.args.f.0 c.copy_out.new.into) c.args.va.0
read_loaded c =
    c.index_mut-2.ensures.value
    ∙ frame_read (set c.self.inside.frames.items c.args.f.0 c.copy_out.new.into) c.args.va.0 c.index_mut-2.result.now (in_loaded c)

read : (c : goal.After-set) → c.index_mut-2.result.now ≡ frame_at c.self.inside.frames.items c.args.va.0
read c = read_loaded c ∙ frame_other c.self.inside.frames.items c.args.f.0 c.args.va.0 c.copy_out.new.into (differs c)

pub invariant_of-self : goal.invariant_of-self
invariant_of-self c =
    let s = c.self.inside in
    let f = c.args.f.0 in
    let va = c.args.va.0 in
    let i = c.args.i in
    let sealed : option_map (λ page. entry_of page c.args.entry.blocked) (sealed_page_at s.sealed c.args.h.0) ≡ Some c.args.entry =
    subst (λ (e : Enclave). option_map (λ page. entry_of page c.args.entry.blocked) (sealed_page_at e.handles c.args.h.0) ≡ Some c.args.entry) (sym c.self.view_is) c.requires.sealed in
    let P : List Entry → Type 0 = λ l. IsSound l (set (set s.frames.items f c.copy_out.new.into) va c.set_slot.new.va) (set s.stamps.items f c.stamp.result) s.sealed in
    subst P (sym c.set.ensures)
    (load_sound s.epcm s.frames.items s.stamps.items s.sealed c.self.invariant f c.args.h.0 va i c.args.entry c.copy_out.new.into c.set_slot.new.va c.stamp.result
    (within c) (free_is c) (slot_holds c) sealed (c.set_slot.ensures.slot (slot_index (entry_at s.epcm va) i (slot_is c)))
    (λ j other. c.set_slot.ensures.others j other ∙ ap (λ b. number_at b (8 * j) 8) (read c)))

pub returns-clause-slots : goal.returns-clause-slots
returns-clause-slots c = λ j other.
    ap (λ b. number_at b (8 * j) 8) (frame_same (set c.self.inside.frames.items c.args.f.0 c.copy_out.new.into) c.args.va.0 c.set_slot.new.va (in_loaded c))
    ∙ c.set_slot.ensures.others j other ∙ ap (λ b. number_at b (8 * j) 8) (read c)
    ∙ ap (λ (e : Enclave). number_at (frame_at e.frames c.args.va.0) (8 * j) 8) c.self.view_is

pub returns-clause-lengths : goal.returns-clause-lengths
returns-clause-lengths c = λ g other.
    let frames = c.self.inside.frames.items in
    lengths_stay (set frames c.args.f.0 c.copy_out.new.into) c.args.va.0 c.set_slot.new.va c.index_mut-2.result.now (in_loaded c) (read_loaded c) c.set_slot.ensures.length g
    ∙ ap length (frame_other frames c.args.f.0 g c.copy_out.new.into (eqb-false g c.args.f.0 other))
    ∙ ap (λ (e : Enclave). length (frame_at e.frames g)) c.self.view_is
