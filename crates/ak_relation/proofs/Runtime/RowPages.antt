-- The pages after a step of the runtime: those that its row does not name have the bytes that they had.
use Rattle.std.proofs.Common.{◌≡◌, ℕ, ◌<◌, List, [], ◌∷◌, ◌++◌, length, refl, ap, sym, ◌∙◌, subst, arith}
use Rattle.std.specs.Prelude.{Bool, true, false, Some}
use Rattle.ak_core.specs.Layout.{Layout}
use Rattle.ak_core.specs.Mem.{Access}
use Rattle.ak_core.specs.declared.registers.Regs.{Regs}
use Rattle.ak_model.specs.Paging.Pages.{tcs_page, ssa_page, state_page}
use Rattle.ak_model.specs.Paging.Histories.{History}
use Rattle.ak_model.specs.Flat.FlatRuns.{Flat, page_bytes}
use Rattle.ak_model.specs.Tapes.LastMoment.{FlatRuns}
use Rattle.ak_model.specs.Tapes.ProgramTurns.{ProgramTurn}
use Rattle.ak_model.specs.Control.ControlState.{Phase, New, Running, Calling, Asked, Ended, Trapped, Dead, Saved}
use Rattle.ak_ssa.specs.SavedFrames.{SavedFrame, frame_bytes}
use Rattle.ak_ssa.specs.SavedRegisters.{AreRegs}
use Rattle.ak_relation.specs.State.MachineState.{State}
use Rattle.ak_pager.specs.RuntimePages.{OfCopy, IsArea, AreasStand, KeepsFrame, IsState}
use Rattle.ak_relation.specs.Bytes.Pages.{IsTcs, CopiesStand}
use Rattle.ak_relation.specs.Program.Reaching.{IsForcedBy, BreaksStand}
use Rattle.ak_relation.specs.Relation.Stands.{copies_at}
use Rattle.ak_pager.specs.Rows.{Row}
use Rattle.ak_pager.specs.StepsTo.{HasState, Performs}
use Rattle.ak_pager.specs.declared.turn.RtTurn.{RtTurn}
use Rattle.ak_relation.specs.Premises.Works.{AreFound, Writes}

-- the frame that a phase keeps, if it keeps one, has the program's registers
abbrev pub FrameIs : Layout → Phase → Flat → List ℕ → Type 0
FrameIs layout Calling flat bytes = (frame : SavedFrame) × (bytes ≡ frame_bytes layout frame) × (frame.regs ≡ flat.regs) × AreRegs frame.regs
FrameIs layout (Asked c) flat bytes = (frame : SavedFrame) × (bytes ≡ frame_bytes layout frame) × (frame.regs ≡ flat.regs) × AreRegs frame.regs
FrameIs layout _ flat bytes = Unit {0}

kept : (layout : Layout) (phase : Phase) (flat : Flat) (queue frame bytes : List ℕ) → HasState phase queue frame bytes → FrameIs layout phase flat frame → KeepsFrame phase layout flat bytes
kept layout Calling flat queue frame bytes h f = record { frame = f.0; stored = h.frame_is ∙ f.1; words = f.3; registers = f.2 }
kept layout (Asked c) flat queue frame bytes h f = record { frame = f.0; stored = h.frame_is ∙ f.1; words = f.3; registers = f.2 }
kept layout New flat queue frame bytes h f = tt
kept layout Running flat queue frame bytes h f = tt
kept layout (Ended s) flat queue frame bytes h f = tt
kept layout (Trapped v) flat queue frame bytes h f = tt
kept layout Dead flat queue frame bytes h f = tt

-- what STATE's bytes say
pub state_said : (layout : Layout) (phase : Phase) (flat : Flat) (queue frame bytes : List ℕ) → HasState phase queue frame bytes → FrameIs layout phase flat frame → IsState layout phase queue flat bytes
state_said layout phase flat queue frame bytes h f =
    record { phase_is = h.phase_is; more = h.more; size = h.size; clusters = h.clusters; kept = kept layout phase flat queue frame bytes h f }

module _ (layout : Layout) (past : History) (holds : ℕ → Bool) (before after : ℕ → List ℕ) (old new : State) (w : Writes layout past holds before after old new) where
  by_held : (p : ℕ) (b : Bool) → holds p ≡ b → after p ≡ before p → copies_at layout past new p ≡ copies_at layout past old p
  by_held p true e same = w.wrote p e ∙ ap Some same ∙ sym (w.read p e)
  by_held p false e same = w.stays p e

  -- a page whose bytes the step left has the copy that it had
  pub same_copy : (p : ℕ) → after p ≡ before p → copies_at layout past new p ≡ copies_at layout past old p
  same_copy p same = by_held p (holds p) refl same

  -- what is said of a page's new bytes holds of its copy
  pub new_copy : (p : ℕ) (P : List ℕ → Type 0) → holds p ≡ true → P (after p) → OfCopy (copies_at layout past new p) P
  new_copy p P e h = subst (λ o. OfCopy o P) (sym (w.wrote p e)) h

  -- what is said of a page's old copy holds of its bytes, where it is held
  pub old_copy : (p : ℕ) (P : List ℕ → Type 0) → holds p ≡ true → OfCopy (copies_at layout past old p) P → P (before p)
  old_copy p P e h = subst (λ o. OfCopy o P) (w.read p e) h

  -- the areas, where none changed
  pub areas_stay : (phase : Phase) (queue : List ℕ) (flat : Flat) → ((i : ℕ) → i < 3 → after (ssa_page layout i) ≡ before (ssa_page layout i)) → (stack : List Saved) → length stack < 4 →
      AreasStand layout phase queue flat (copies_at layout past old) stack → AreasStand layout phase queue flat (copies_at layout past new) stack
  areas_stay phase queue flat same [] low h = tt
  areas_stay phase queue flat same (saved ∷ older) low h = (
    subst (λ o. OfCopy o (IsArea layout phase queue flat saved)) (sym (same_copy (ssa_page layout (length older)) (same (length older) (omega arith)))) h.0,
    areas_stay phase queue flat same older (omega arith) h.1,
  )

  -- and the evidence of breaks
  pub breaks_stay : (runs : FlatRuns) (turns : List ProgramTurn) → ((i : ℕ) → i < 3 → after (ssa_page layout i) ≡ before (ssa_page layout i)) → (stack : List Saved) → length stack < 4 →
      BreaksStand layout runs turns (copies_at layout past old) stack → BreaksStand layout runs turns (copies_at layout past new) stack
  breaks_stay runs turns same [] low h = tt
  breaks_stay runs turns same (saved ∷ older) low h = (
    subst (λ o. IsForcedBy layout runs turns o saved.reason) (sym (same_copy (ssa_page layout (length older)) (same (length older) (omega arith)))) h.0,
    breaks_stay runs turns same older (omega arith) h.1,
  )

  module _ (row : Row) (outcome : RtTurn) (regs : Regs) (p : Performs layout row before after outcome regs) where
    -- all pages, given STATE and the areas
    pub pages_by : (phase new_phase : Phase) (queue new_queue : List ℕ) (flat : Flat) (stack new_stack : List Saved) (pending : Bool) → length new_stack ≡ length stack →
        CopiesStand layout phase queue stack pending flat (copies_at layout past old) →
        OfCopy (copies_at layout past new (state_page layout)) (IsState layout new_phase new_queue flat) → AreasStand layout new_phase new_queue flat (copies_at layout past new) new_stack →
        CopiesStand layout new_phase new_queue new_stack pending flat (copies_at layout past new)
    pages_by phase new_phase queue new_queue flat stack new_stack pending size h s a = record {
      tcs = subst (λ n. OfCopy (copies_at layout past new (tcs_page layout)) (IsTcs n pending)) (sym size)
          (subst (λ o. OfCopy o (IsTcs (length stack) pending)) (sym (same_copy (tcs_page layout) (p.others (tcs_page layout) (λ e. absurd (omega arith)) (λ i lt e. absurd (omega arith))))) h.tcs);
      areas = a;
      state = s;
      program = λ q lt. subst (λ o. OfCopy o (λ bytes. bytes ≡ page_bytes flat q))
          (sym (same_copy q (p.others q (λ e. absurd (omega arith)) (λ i low e. absurd (omega arith))))) (h.program q lt);
    }

-- a page whose access was found is held
pub held_among : (layout : Layout) (past : History) (holds : ℕ → Bool) (first later : List Access) (t : Access) → AreFound layout past holds (first ++ t ∷ later) → holds t.page.0 ≡ true
held_among layout past holds [] later t h = h.1
held_among layout past holds (x ∷ first) later t h = held_among layout past holds first later t h.2
