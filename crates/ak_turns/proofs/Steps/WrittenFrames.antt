-- What a step of the runtime leaves in the frames: the pages that its memory sees have the bytes that it left, and each other frame stays.
use Rattle.std.proofs.Common.{◌≡◌, ℕ, Bool, true, false, List, [], ◌∷◌, refl, ap, sym, ◌∙◌}
use Rattle.std.proofs.lemmas.Bool.{and_parts, eq-eqb}
use Rattle.std.specs.Prelude.{Option, Some, None, ◌&&◌, ◌==◌}
use Rattle.std.specs.List.{list_all}
use Rattle.ak_core.specs.Layout.{Layout}
use Rattle.ak_core.specs.Mem.{Access, access_to}
use Rattle.ak_core.specs.declared.page.Entry.{Entry}
use Rattle.ak_model.specs.Paging.Frames.{held}
use Rattle.ak_model.specs.Paging.Histories.{History}
use Rattle.ak_model.specs.Paging.Holdings.{PageFrame, Mapping}
use Rattle.ak_epcm.specs.Entries.{entry_at, has_page, is_of_page}
use Rattle.ak_pte.specs.Table.{pte_at}
use Rattle.ak_pte.specs.declared.table.Pte.{Pte}
use Rattle.ak_track.specs.Steps.{TrackStep}
use Rattle.ak_relation.proofs.Runtime.FrameWrites.{writes_by, slots_by}
use Rattle.ak_relation.specs.Premises.Works.{IsMemory, AreFound, IsLost, Writes, WritesFrames, KeepsTables}
use Rattle.ak_relation.specs.Premises.Shows.{MemorySees}
use Rattle.ak_relation.specs.State.MachineState.{Processor, State, copy}
use Rattle.ak_relation.specs.State.Tables.{TablesStand}
use Rattle.ak_encls.specs.Enclave.{Enclave, frame_at}
use Rattle.ak_enclu.specs.Machines.{IsMachine}
use Rattle.ak_enclu.specs.declared.cpu.Cpu.{Cpu}
use Rattle.ak_memory.specs.Granting.{is_walked, is_seen}
use Rattle.ak_turns.specs.Stepping.{IsStepMemory}
use Rattle.ak_turns.proofs.Steps.Walking.{seen_walked, seen_page, walked_seen, holds_by, walked_low, walked_walkable, unwalked_unwalkable}

-- where no page's bytes differ, no frame's do
pub frames_stay : (entries : List Entry) (old new : List (List ℕ)) (before after : ℕ → List ℕ) → IsStepMemory entries old new before after → after ≡ before → (f : ℕ) → frame_at new f ≡ frame_at old f
frames_stay entries old new before after s same f = by_entry (is_of_page (entry_at entries f)) refl
  where
    by_entry : (b : Bool) → is_of_page (entry_at entries f) ≡ b → frame_at new f ≡ frame_at old f
    by_entry false e = s.others f e
    by_entry true e =
        let p = (entry_at entries f).page.0 in
        let has : has_page (entry_at entries f) p ≡ true = ap (λ b. b && (p == p)) e ∙ eq-eqb p p refl in
        sym (s.after_is f p has) ∙ ap (λ (bytes : ℕ → List ℕ). bytes p) same ∙ s.before_is f p has

-- a machine whose processors, steps of tracking and bytes alone differ
abbrev pub changed : State → (ℕ → Processor) → List TrackStep → (ℕ → List ℕ) → State
changed state processors track frames = record state { processors = processors; track = track; frames = frames }

module _ (layout : Layout) (past : History) (cpu : Cpu) (table : List Pte) (encls : Enclave) (state : State) (h : TablesStand layout past state) (m : IsMachine layout cpu table encls state)
    (new : List (List ℕ)) (before after : ℕ → List ℕ) (s : IsStepMemory encls.entries encls.frames new before after) where
  -- the pages that it sees
  abbrev pub sees : ℕ → Bool
  sees p = is_seen encls.entries table [] p

  frame_is : (p : ℕ) → sees p ≡ true → (state.table p).frame ≡ (pte_at table p).frame.0
  frame_is p seen =
      let some = seen_walked encls.entries table p seen in
      ap (λ (e : Mapping). e.frame) (m.mapped p (walked_low layout past cpu table encls state h m (access_to p some.kind) some.found))

  found : (p : ℕ) → sees p ≡ true → held layout past (state.table p).frame ≡ PageFrame p
  found p seen =
      ap (held layout past) (frame_is p seen)
      ∙ holds_by layout past cpu table encls state h m (pte_at table p).frame.0 p (seen_page encls.entries table p seen)

  read : (p : ℕ) → sees p ≡ true → state.frames (state.table p).frame ≡ before p
  read p seen =
      let f = (pte_at table p).frame.0 in
      ap state.frames (frame_is p seen) ∙ m.paging.frames f ∙ sym (s.before_is f p (seen_page encls.entries table p seen))

  -- the bytes before
  pub memory : IsMemory layout past state sees before
  memory p seen = ap (copy state) (h.one_copy.placed p (state.table p).frame (found p seen)) ∙ ap Some (read p seen)

  all_found : (granted : List Access) → list_all (is_walked encls.entries table) granted ≡ true → AreFound layout past sees granted
  all_found [] all = tt
  all_found (t ∷ granted) all =
      let parts = and_parts (is_walked encls.entries table t) (list_all (is_walked encls.entries table) granted) all in (
        walked_walkable layout past cpu table encls state h m t parts.0,
        walked_seen encls.entries table t parts.0,
        all_found granted parts.1,
      )

  none_found : (refused : Option Access) → ((t : Access) → refused ≡ Some t → is_walked encls.entries table t ≡ false) → IsLost layout past refused
  none_found None lost = tt
  none_found (Some t) lost = unwalked_unwalkable layout past cpu table encls state h m t (lost t refl)

  -- what the memory sees, by the machine's tables
  pub memory_sees : (granted : List Access) (refused : Option Access) → list_all (is_walked encls.entries table) granted ≡ true → ((t : Access) → refused ≡ Some t → is_walked encls.entries table t ≡ false) →
      MemorySees layout past sees before granted refused state
  memory_sees granted refused all lost = record { memory = memory; found = all_found granted all; lost = none_found refused lost }

  module _ (unseen : (p : ℕ) → sees p ≡ false → after p ≡ before p) (processors : ℕ → Processor) (track : List TrackStep) where
    -- the machine after it
    abbrev left : State
    left = changed state processors track (frame_at new)

    other : (g : ℕ) → ((p : ℕ) → sees p ≡ true → held layout past g ≡ PageFrame p → ⊥) → frame_at new g ≡ frame_at encls.frames g
    other g none = by_entry (is_of_page (entry_at encls.entries g)) refl
      where
        by_page : (p : ℕ) → has_page (entry_at encls.entries g) p ≡ true → (b : Bool) → sees p ≡ b → frame_at new g ≡ frame_at encls.frames g
        by_page p has true e = absurd (none p e (holds_by layout past cpu table encls state h m g p has))
        by_page p has false e = sym (s.after_is g p has) ∙ unseen p e ∙ s.before_is g p has

        by_entry : (b : Bool) → is_of_page (entry_at encls.entries g) ≡ b → frame_at new g ≡ frame_at encls.frames g
        by_entry false e = s.others g e
        by_entry true e =
            let p = (entry_at encls.entries g).page.0 in
            let has : has_page (entry_at encls.entries g) p ≡ true = ap (λ b. b && (p == p)) e ∙ eq-eqb p p refl in
            by_page p has (sees p) refl

    writes_frames : WritesFrames layout past sees before after state left
    writes_frames = record {
      found = found;
      read = read;
      wrote = λ p seen.
          let f = (pte_at table p).frame.0 in
          ap (frame_at new) (frame_is p seen) ∙ sym (s.after_is f p (seen_page encls.entries table p seen));
      others = λ g none. other g none ∙ sym (m.paging.frames g);
      sealed_pages = refl;
    }

    -- the copies of pages
    pub writes : Writes layout past sees before after state left
    writes = writes_by layout past sees before after state left h writes_frames

    -- and the tables stay
    pub tables_kept : KeepsTables layout past state left
    tables_kept = record {
      slots = slots_by layout past sees before after state left h writes_frames;
      whole = s.whole;
      entries = refl;
      stamps = refl;
      sealed_pages = refl;
      next = refl;
      table = refl;
      count = refl;
      queue = refl;
    }
