-- What a processor has cached that is inside, at a moment of the trace, names frames that hold their pages.
use Rattle.std.proofs.Common.{◌≡◌, ℕ, Bool, true, false, List, [], ◌∷◌, refl, ap, sym, subst, if◌then◌else◌}
use Rattle.std.specs.Prelude.{Option, Some, None, is_some}
use Rattle.ak_core.specs.Layout.{Layout}
use Rattle.ak_core.specs.Mem.{Access}
use Rattle.ak_core.specs.declared.page.Entry.{Entry}
use Rattle.ak_core.specs.declared.page.Frame.{Frame}
use Rattle.ak_epcm.specs.Entries.{entry_at, has_page}
use Rattle.ak_model.specs.Misses.KeptTranslations.{same_access}
use Rattle.ak_model.specs.Paging.Histories.{History}
use Rattle.ak_model.specs.Paging.Inside.{since}
use Rattle.ak_model.proofs.Misses.EqualAccesses.{access_is}
use Rattle.ak_pte.specs.declared.table.Pte.{Pte}
use Rattle.ak_tlb.specs.Fills.{Fill, frame_for}
use Rattle.ak_relation.specs.Program.Reaching.{AreReached, StaysBy}
use Rattle.ak_relation.specs.Relation.Stands.{runs_at}
use Rattle.ak_relation.specs.State.MachineState.{State}
use Rattle.ak_relation.specs.State.Tables.{TablesStand}
use Rattle.ak_relation.proofs.Exits.HeldFrames.{frame_has}
use Rattle.ak_encls.specs.Enclave.{Enclave}
use Rattle.ak_enclu.specs.declared.cpu.Cpu.{Cpu}
use Rattle.ak_memory.specs.Granting.{NamesPages}
use Rattle.ak_memory.proofs.Cached.{fills_name}
use Rattle.ak_turns.specs.WholeRuns.{Stays}

module _ (layout : Layout) (past : History) (state : State) (h : TablesStand layout past state) (place : ℕ) where
  -- the frame that was last cached for an access holds its page
  fills_hold : (fills : List Fill) → AreReached layout past place fills → (t : Access) (f : Frame) → frame_for fills t ≡ Some f → has_page (entry_at state.entries f.0) t.page.0 ≡ true
  fills_hold [] reached t f is = absurd (let none : true ≡ false = sym (ap is_some is) in cc)
  fills_hold (fill ∷ fills) reached t f is = by_test (fills_hold fills reached.1 t f) (same_access t fill.access) refl is
    where
      by_test : (frame_for fills t ≡ Some f → has_page (entry_at state.entries f.0) t.page.0 ≡ true) → (b : Bool) → same_access t fill.access ≡ b
          → (if b then Some (record { 0 = fill.frame }) else frame_for fills t) ≡ Some f → has_page (entry_at state.entries f.0) t.page.0 ≡ true
      by_test older true same found =
          let own = reached.0 in
          let here : has_page (entry_at state.entries fill.frame) fill.access.page.0 ≡ true = frame_has layout past state h fill.frame fill.access.page.0 own.frame.holds in
          let page : has_page (entry_at state.entries fill.frame) t.page.0 ≡ true = subst (λ (u : Access). has_page (entry_at state.entries fill.frame) u.page.0 ≡ true) (sym (access_is t fill.access same)) here in
          let frame_of : Option Frame → ℕ = λ o. elim o [ None ↦ 0 | Some g ↦ g.0 ] in
          subst (λ g. has_page (entry_at state.entries g) t.page.0 ≡ true) (ap frame_of found) page
      by_test older false same found = older found

-- what was cached since it entered was reached
reached_by : (layout : Layout) (image : List ℕ) (cpu : Cpu) (table : List Pte) (encls : Enclave) (s : Stays layout cpu table encls) (entered : Option ℕ) → since s.past cpu.lp.0 ≡ entered → is_some entered ≡ true →
    (place : ℕ) × AreReached layout s.past place (s.state.processors cpu.lp.0).fills
reached_by layout image cpu table encls s (Some place) is some =
    let stay = subst (StaysBy layout (runs_at layout s.image s.control) s.past s.control s.turns cpu.lp.0 (s.state.processors cpu.lp.0)) is (s.stands.reached.stays cpu.lp.0) in
    (place, stay.fills)
reached_by layout image cpu table encls s None is some = absurd (cc)

pub stays_names : (layout : Layout) (cpu : Cpu) (table : List Pte) (encls : Enclave) → Stays layout cpu table encls → NamesPages encls.entries cpu.tlb
stays_names layout cpu table encls s =
    let r = reached_by layout s.image cpu table encls s (since s.past cpu.lp.0) refl s.within in
    let fills = (s.state.processors cpu.lp.0).fills in
    subst (λ (entries : List Entry). NamesPages entries cpu.tlb) s.machine.paging.entries
    (fills_name s.state.entries cpu.tlb fills s.machine.processor.fills (fills_hold layout s.past s.state s.stands.tables r.0 fills r.1))
