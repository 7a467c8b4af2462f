-- Walks by the EPCM and the page table are walks over the machine's own tables; and what is known where a machine of theirs stands at a
-- moment of a trace.
use Rattle.std.proofs.Common.{◌≡◌, ℕ, ◌<◌, Bool, true, false, List, [], ◌∷◌, length, refl, ap, sym, ◌∙◌, subst}
use Rattle.std.proofs.lemmas.Bool.{and_parts}
use Rattle.std.specs.Prelude.{Option, Some, None, ◌&&◌, ◌||◌, not, nat_le, ◌+◌, is_some, if◌then◌else◌}
use Rattle.ak_core.specs.Layout.{Layout}
use Rattle.ak_core.specs.Mem.{Access}
use Rattle.ak_core.specs.declared.page.Entry.{Entry}
use Rattle.ak_core.specs.declared.page.Frame.{Frame}
use Rattle.ak_core.specs.declared.page.Kind.{Kind}
use Rattle.ak_core.specs.declared.registers.Mode.{Mode}
use Rattle.ak_model.specs.Control.ControlState.{Control}
use Rattle.ak_model.specs.Misses.KeptTranslations.{same_access}
use Rattle.ak_model.specs.Misses.Reached.{reached_since}
use Rattle.ak_model.specs.Paging.Frames.{held, blocked_at}
use Rattle.ak_model.specs.Paging.Histories.{History}
use Rattle.ak_model.specs.Paging.Holdings.{Mapping, is_page_in}
use Rattle.ak_model.specs.Paging.Inside.{since, inside}
use Rattle.ak_model.specs.Paging.PageTable.{pte}
use Rattle.ak_model.specs.Paging.Pages.{all_pages, permits}
use Rattle.ak_model.specs.Paging.Walk.{access_walkable, flags_allow}
use Rattle.ak_model.specs.Tapes.ProgramTurns.{ProgramTurn}
use Rattle.ak_epcm.specs.Entries.{entry_at, HasDistinctPages}
use Rattle.ak_pte.specs.Table.{pte_at}
use Rattle.ak_pte.specs.declared.table.Pte.{Pte}
use Rattle.ak_relation.proofs.Entering.EnterAnswers.{walk_same}
use Rattle.ak_relation.proofs.Program.Completing.{filled_reached}
use Rattle.ak_relation.proofs.Program.Seen.{its_stay}
use Rattle.ak_relation.specs.Premises.EnterRows.{walk_in}
use Rattle.ak_relation.specs.Program.Reaching.{is_filled}
use Rattle.ak_relation.specs.Relation.Does.{at_moment}
use Rattle.ak_relation.specs.Relation.Stands.{Stands}
use Rattle.ak_relation.specs.State.MachineState.{State}
use Rattle.ak_relation.specs.State.MachineView.{held_in}
use Rattle.ak_relation.specs.State.Tables.{TablesStand}
use Rattle.ak_tlb.specs.Fills.{Fill, frame_for}
use Rattle.ak_tlb.specs.Translations.{found, frame_in}
use Rattle.ak_walk.proofs.Bridge.{walk_finds-walkable}
use Rattle.ak_walk.specs.Agrees.{EntryAgrees}
use Rattle.ak_encls.specs.Enclave.{Enclave, frame_at}
use Rattle.ak_walk.specs.Mappings.{mapping_of}
use Rattle.ak_enclu.specs.Machines.{IsMachine}
use Rattle.ak_enclu.specs.declared.cpu.Cpu.{Cpu}
use Rattle.ak_memory.specs.Granting.{is_walked, NamesPages}

-- ---- Walks

-- a walk over these entries, by this entry of the page table
abbrev pub walk_by : Layout → List Entry → Mapping → ℕ → Kind → Bool
walk_by layout entries mapping p kind =
    permits layout p kind && (flags_allow mapping.flags kind
    && (is_page_in (held_in (entry_at entries mapping.frame)) p && not (entry_at entries mapping.frame).blocked))

-- a walk over the processor's tables
abbrev pub own_walk : Layout → List Entry → List Pte → Access → Bool
own_walk layout entries table t = walk_by layout entries (mapping_of (pte_at table t.page.0)) t.page.0 t.kind

-- one over the machine's is one over its own
pub machine_walk : (layout : Layout) (cpu : Cpu) (table : List Pte) (encls : Enclave) (state : State) → IsMachine layout cpu table encls state → (t : Access) → t.page.0 < all_pages layout
    → walk_in layout state t.page.0 t.kind ≡ own_walk layout encls.entries table t
machine_walk layout cpu table encls state m t low =
    ap (λ (mapping : Mapping). walk_by layout state.entries mapping t.page.0 t.kind) (m.mapped t.page.0 low)
    ∙ ap (λ (entries : List Entry). own_walk layout entries table t) m.paging.entries

-- where the tables stand, a walk by the EPCM and the page table is one over the processor's tables
walks_by : (layout : Layout) (past : History) (cpu : Cpu) (table : List Pte) (encls : Enclave) (state : State) → TablesStand layout past state → IsMachine layout cpu table encls state
    → (t : Access) → t.page.0 < all_pages layout → is_walked encls.entries table t ≡ own_walk layout encls.entries table t
walks_by layout past cpu table encls state h m t low =
    let p = t.page.0 in
    let entry = pte_at table p in
    let mapped : mapping_of entry ≡ pte layout past p = sym (m.mapped p low) ∙ h.mapping.mapped p low in
    let agrees : EntryAgrees layout (entry_at encls.entries entry.frame.0) (held layout past entry.frame.0) (blocked_at past entry.frame.0) =
    subst (λ (entries : List Entry). EntryAgrees layout (entry_at entries entry.frame.0) (held layout past entry.frame.0) (blocked_at past entry.frame.0))
    m.paging.entries (h.entries.entry entry.frame.0) in
    walk_finds-walkable layout past entry.flags (entry_at encls.entries entry.frame.0) entry.frame.0 p t.kind
    (ap (λ (mapping : Mapping). mapping.flags) mapped) (ap (λ (mapping : Mapping). mapping.frame) mapped) agrees
    ∙ sym (walk_same layout past state h p t.kind low) ∙ machine_walk layout cpu table encls state m t low

-- ---- What was cached

-- the frame of one
abbrev pub frame_of : Fill → Frame
frame_of fill = record { 0 = fill.frame }

-- what has a frame was cached
pub framed_filled : (fills : List Fill) (t : Access) (f : Frame) → frame_for fills t ≡ Some f → is_filled fills t ≡ true
framed_filled [] t f e = cc
framed_filled (fill ∷ fills) t f e = by_test (same_access t fill.access) e (framed_filled fills t f)
  where
    by_test : (b : Bool) → (if b then Some (frame_of fill) else frame_for fills t) ≡ Some f → (frame_for fills t ≡ Some f → is_filled fills t ≡ true) → (b || is_filled fills t) ≡ true
    by_test true e more = refl
    by_test false e more = more e

-- what was reached is permitted
reached_permitted : (layout : Layout) (place : ℕ) (past : History) (t : Access) → reached_since layout place past t ≡ true → permits layout t.page.0 t.kind ≡ true
reached_permitted layout place [] t h = cc
reached_permitted layout place (pair ∷ past) t h =
    by_walk (access_walkable layout (pair ∷ past) t) refl (reached_permitted layout place past t)
    (and_parts (nat_le place (length past + 1)) (access_walkable layout (pair ∷ past) t || reached_since layout place past t) h).1
  where
    by_walk : (b : Bool) → access_walkable layout (pair ∷ past) t ≡ b → (reached_since layout place past t ≡ true → permits layout t.page.0 t.kind ≡ true)
        → (b || reached_since layout place past t) ≡ true → permits layout t.page.0 t.kind ≡ true
    by_walk true e more some = (and_parts (permits layout t.page.0 t.kind) _ e).0
    by_walk false e more some = more some

-- ---- What is known

-- what is known of the tables, of what is cached, and of the bytes of frames
pub record IsKnown (layout : Layout) (cpu : Cpu) (table : List Pte) (encls : Enclave) : Type 0 where
  pub distinct : HasDistinctPages encls.entries
  pub named : NamesPages encls.entries cpu.tlb
  pub walks : (t : Access) → t.page.0 < all_pages layout → is_walked encls.entries table t ≡ own_walk layout encls.entries table t
  pub permitted : (t : Access) (f : Frame) → frame_in (found cpu.tlb t) ≡ Some f → permits layout t.page.0 t.kind ≡ true
  pub whole : (g : ℕ) → length (frame_at encls.frames g) ≡ 4096

-- the place of the entering
pub record IsStayOf (past : History) (lp : ℕ) : Type 0 where
  pub place : ℕ
  pub is : since past lp ≡ Some place

pub entered : (past : History) (lp : ℕ) → inside past lp ≡ true → IsStayOf past lp
entered past lp within = by_place (since past lp) refl within
  where
    by_place : (o : Option ℕ) → since past lp ≡ o → is_some o ≡ true → IsStayOf past lp
    by_place (Some place) e some = record { place = place; is = e }
    by_place None e some = absurd (cc)

-- it is known where a machine of theirs stands, with the processor inside in the program's mode
pub known : (layout : Layout) (cpu : Cpu) (table : List Pte) (encls : Enclave) (image : List ℕ) (past : History) (control : Control) (turns : List ProgramTurn) (state : State)
    → Stands layout image (at_moment past control turns state) → IsMachine layout cpu table encls state → inside past cpu.lp.0 ≡ true → cpu.regs.mode ≡ Mode.Program
    → HasDistinctPages encls.entries → NamesPages encls.entries cpu.tlb → IsKnown layout cpu table encls
known layout cpu table encls image past control turns state h m within mode distinct named =
    let stay = entered past cpu.lp.0 within in
    let its = its_stay layout image past control turns state cpu.lp.0 stay.place h stay.is (ap (λ regs. regs.mode) m.processor.regs ∙ mode) in
    record {
      distinct = distinct;
      named = named;
      walks = walks_by layout past cpu table encls state h.tables m;
      permitted = λ t f is.
          let filled = framed_filled (state.processors cpu.lp.0).fills t f (m.processor.fills.last t f is) in
          reached_permitted layout stay.place past t (filled_reached layout past stay.place (state.processors cpu.lp.0).fills t its.fills filled);
      whole = λ g. ap length (sym (m.paging.frames g)) ∙ h.tables.frames.whole g;
    }
