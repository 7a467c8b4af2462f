-- What an entering or a resuming does to a machine.
use Rattle.std.proofs.Common.{◌≡◌, ℕ, ◌+◌, ◌-◌, ◌*◌, ◌<◌, ◌≤◌, Bool, true, false, List, [], length, set, ◌==◌, refl, ap, sym, ◌∙◌, subst, arith, get_or-set_same, get_or-set_other}
use Rattle.std.proofs.lemmas.Bool.{eqb-false, eqb-true}
use Rattle.ak_core.specs.Layout.{Layout}
use Rattle.ak_core.specs.declared.registers.Regs.{Regs}
use Rattle.ak_model.specs.Paging.Holdings.{Mapping}
use Rattle.ak_model.specs.Paging.Pages.{all_pages, tcs_page, ssa_page, code_page}
use Rattle.ak_pte.specs.declared.table.Pte.{Pte}
use Rattle.ak_ssa.specs.SavedRegisters.{area_regs}
use Rattle.ak_track.specs.Steps.{EntersBy}
use Rattle.ak_relation.specs.Bytes.Pages.{IsTcs}
use Rattle.ak_relation.specs.Premises.Entering.{EntersAt}
use Rattle.ak_relation.specs.Premises.Resuming.{ResumesAt}
use Rattle.ak_relation.specs.State.MachineState.{State, Processor}
use Rattle.ak_relation.specs.State.Tables.{FramesStand}
use Rattle.ak_encls.specs.Enclave.{Enclave, blank_page, frame_at}
use Rattle.ak_enclu.specs.EnterAnswers.{held_at}
use Rattle.ak_pte.specs.Table.{pte_at}
use Rattle.ak_enclu.specs.Machines.{IsProcessor, IsMachine, LeadsToWhere}
use Rattle.ak_enclu.specs.Passing.{tcs_at, inside_with, EntersTo}
use Rattle.ak_enclu.specs.Processors.{entry_regs_at}
use Rattle.ak_enclu.specs.TcsBytes.{saved_of, with_saved, with_pending}
use Rattle.ak_enclu.specs.declared.cpu.Cpu.{Cpu}
use Rattle.ak_enclu.proofs.Changes.{moved, processor_there, processor_other, enters_by, moved_machine, nothing_cached}
use Rattle.ak_enclu.proofs.Fields.{flagged_by, flagged_size, counted, counted_size}

-- all frames but one stay
framed : (frames : List (List ℕ)) (f g : ℕ) (bytes : List ℕ) → (g == f) ≡ false → frame_at (set frames f bytes) g ≡ frame_at frames g
framed frames f g bytes other = get_or-set_other frames f g bytes blank_page (λ same. eqb-false g f other same)

module _ (layout : Layout) (state : State) (cpu : Cpu) (table : List Pte) (encls new : Enclave)
    (h : FramesStand state.frames) (m : IsMachine layout cpu table encls state) (regs : Regs) (k : ℕ) (bytes : List ℕ) (few : k ≤ 2)
    (whole : length bytes ≡ 4096) (to : EntersTo cpu.lp.0 (pte_at table (tcs_page layout)).frame.0 bytes encls new) where
  abbrev f : ℕ
  f = (pte_at table (tcs_page layout)).frame.0

  abbrev after : Cpu
  after = inside_with cpu regs (held_at table (tcs_page layout) k)

  abbrev processor : Processor
  processor = record { inside = true; regs = regs; tcs = after.tcs.0; ssa = after.ssa.0; fills = [] }

  abbrev frames : List (List ℕ)
  frames = set encls.frames f bytes

  abbrev end : State
  end = moved state cpu.lp.0 processor (frame_at frames) (EntersBy cpu.lp.0)

  is_processor : IsProcessor after processor
  is_processor = record { inside = refl; regs = refl; tcs = refl; ssa = refl; fills = nothing_cached }

  pub machine : IsMachine layout after table new end
  machine =
      subst (λ e. IsMachine layout after table e end) (sym to.leaves)
      (moved_machine layout state cpu after table encls frames new.track (frame_at frames) m processor (EntersBy cpu.lp.0) refl is_processor
      (λ lps steps holds. to.track lps steps holds) (enters_by cpu.lp.0) (λ i. refl))

  tcs_low : tcs_page layout < all_pages layout
  tcs_low = omega arith

  pub tcs_named : f ≡ (state.table (tcs_page layout)).frame
  tcs_named = sym (ap (λ (entry : Mapping). entry.frame) (m.mapped (tcs_page layout) tcs_low))

  pub ssa_named : after.ssa.0 ≡ (state.table (ssa_page layout k)).frame
  ssa_named =
      let low : ssa_page layout k < all_pages layout = omega (arith, few) in
      sym (ap (λ (entry : Mapping). entry.frame) (m.mapped (ssa_page layout k) low))

  pub there : end.processors cpu.lp.0 ≡ processor
  there = processor_there state cpu.lp.0 processor

  pub tcs_bytes_are : bytes ≡ end.frames (state.table (tcs_page layout)).frame
  tcs_bytes_are = sym (get_or-set_same encls.frames f bytes blank_page to.within) ∙ ap (frame_at frames) tcs_named

  pub others_stay : (g : ℕ) → (g == (state.table (tcs_page layout)).frame) ≡ false → end.frames g ≡ state.frames g
  others_stay g other =
      framed encls.frames f g bytes (ap (λ t. g == t) tcs_named ∙ other) ∙ sym (m.paging.frames g)

  by_frame : (g : ℕ) (b : Bool) → (g == f) ≡ b → length (frame_at frames g) ≡ 4096
  by_frame g true e =
      ap (λ i. length (frame_at frames i)) (eqb-true g f e) ∙ ap length (get_or-set_same encls.frames f bytes blank_page to.within) ∙ whole
  by_frame g false e = ap length (framed encls.frames f g bytes e ∙ sym (m.paging.frames g)) ∙ h.whole g

  pub all_whole : (g : ℕ) → length (end.frames g) ≡ 4096
  all_whole g = by_frame g (g == f) refl

-- ---- EENTER

module _ (layout : Layout) (state : State) (cpu : Cpu) (table : List Pte) (encls new : Enclave)
    (h : FramesStand state.frames) (m : IsMachine layout cpu table encls state) where
  abbrev old_tcs : List ℕ
  old_tcs = tcs_at encls table (tcs_page layout)

  old_whole : length old_tcs ≡ 4096
  old_whole = ap length (sym (m.paging.frames (pte_at table (tcs_page layout)).frame.0)) ∙ h.whole (pte_at table (tcs_page layout)).frame.0

  pub entered : (v : ℕ) → saved_of old_tcs ≤ 2 → EntersTo cpu.lp.0 (pte_at table (tcs_page layout)).frame.0 (with_pending false old_tcs) encls new
      → LeadsToWhere layout (inside_with cpu (entry_regs_at (layout.base + 4096 * code_page layout) (saved_of old_tcs) v) (held_at table (tcs_page layout) (saved_of old_tcs)))
      table new (EntersAt layout cpu.lp.0 (saved_of old_tcs) v state)
  entered v few to =
      let k = saved_of old_tcs in
      let regs = entry_regs_at (layout.base + 4096 * code_page layout) k v in
      let bytes = with_pending false old_tcs in
      let whole = flagged_size false old_tcs old_whole in
      let at = there layout state cpu table encls new h m regs k bytes few whole to in
      let address : layout.base + 4096 * code_page layout ≡ layout.base + 4096 * code_page layout + 0 = omega arith in
      record {
        state = end layout state cpu table encls new h m regs k bytes few whole to;
        machine = machine layout state cpu table encls new h m regs k bytes few whole to;
        does = record {
          inside = ap (λ (p : Processor). p.inside) at;
          regs = ap (λ (p : Processor). p.regs) at ∙ ap (λ a. entry_regs_at a k v) address;
          tcs = ap (λ (p : Processor). p.tcs) at ∙ tcs_named layout state cpu table encls new h m regs k bytes few whole to;
          ssa = ap (λ (p : Processor). p.ssa) at ∙ ssa_named layout state cpu table encls new h m regs k bytes few whole to;
          flushed = ap (λ (p : Processor). p.fills) at;
          others = λ q other. processor_other state cpu.lp.0 q _ other;
          cleared = subst (IsTcs k false) (tcs_bytes_are layout state cpu table encls new h m regs k bytes few whole to) (flagged_by k false old_tcs old_whole refl);
          frames = others_stay layout state cpu table encls new h m regs k bytes few whole to;
          whole = all_whole layout state cpu table encls new h m regs k bytes few whole to;
          track = refl;
          entries = refl;
          count = refl;
          queue = refl;
          stamps = refl;
          sealed_pages = refl;
          next = refl;
          table = refl;
        };
      }

  -- ---- ERESUME

  pub resumed : IsTcs (saved_of old_tcs) false old_tcs → saved_of old_tcs ≤ 3 → 0 < saved_of old_tcs
      → EntersTo cpu.lp.0 (pte_at table (tcs_page layout)).frame.0 (with_saved (saved_of old_tcs - 1) old_tcs) encls new
      → LeadsToWhere layout
      (inside_with cpu (area_regs (frame_at encls.frames (pte_at table (ssa_page layout (saved_of old_tcs - 1))).frame.0)) (held_at table (tcs_page layout) (saved_of old_tcs - 1)))
      table new (ResumesAt layout cpu.lp.0 (saved_of old_tcs - 1) state)
  resumed says few some to =
      let k = saved_of old_tcs - 1 in
      let le : k ≤ 2 = omega (arith, few) in
      let area = (pte_at table (ssa_page layout k)).frame.0 in
      let regs = area_regs (frame_at encls.frames area) in
      let bytes = with_saved k old_tcs in
      let whole = counted_size k old_tcs old_whole in
      let at = there layout state cpu table encls new h m regs k bytes le whole to in
      let ssa_is = ssa_named layout state cpu table encls new h m regs k bytes le whole to in
      record {
        state = end layout state cpu table encls new h m regs k bytes le whole to;
        machine = machine layout state cpu table encls new h m regs k bytes le whole to;
        does = record {
          inside = ap (λ (p : Processor). p.inside) at;
          regs = ap (λ (p : Processor). p.regs) at ∙ ap area_regs (sym (m.paging.frames area) ∙ ap state.frames ssa_is);
          tcs = ap (λ (p : Processor). p.tcs) at ∙ tcs_named layout state cpu table encls new h m regs k bytes le whole to;
          ssa = ap (λ (p : Processor). p.ssa) at ∙ ssa_is;
          flushed = ap (λ (p : Processor). p.fills) at;
          others = λ q other. processor_other state cpu.lp.0 q _ other;
          counted = subst (IsTcs k false) (tcs_bytes_are layout state cpu table encls new h m regs k bytes le whole to)
              (counted (saved_of old_tcs) k false old_tcs old_whole (omega (arith, le)) says);
          frames = others_stay layout state cpu table encls new h m regs k bytes le whole to;
          whole = all_whole layout state cpu table encls new h m regs k bytes le whole to;
          track = refl;
          entries = refl;
          count = refl;
          queue = refl;
          stamps = refl;
          sealed_pages = refl;
          next = refl;
          table = refl;
        };
      }
