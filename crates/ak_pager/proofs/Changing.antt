-- What changes where STATE and areas are written one after another.
use Rattle.std.proofs.Common.{◌≡◌, ◌≢◌, ℕ, zero, suc, ◌<◌, List, refl, sym, ◌∙◌, subst, arith}
use Rattle.ak_core.specs.Layout.{Layout}
use Rattle.ak_model.specs.Paging.Pages.{ssa_page, state_page}
use Rattle.ak_model.specs.Control.ControlState.{Phase}
use Rattle.ak_ssa.specs.SavedFrames.{SavedFrame, area_place, HasFrame}
use Rattle.ak_core.specs.declared.registers.Regs.{Regs}
use Rattle.ak_cluster.specs.QueueBytes.{HasQueue}
use Rattle.ak_pager.specs.declared.turn.RtTurn.{RtTurn}
use Rattle.ak_pager.specs.Rows.{StateSets, AreaChange, AreasStay, AreasGuard, AreaGets, Row, Reads, guard_frame, kept_bytes, with_phase}
use Rattle.ak_pager.specs.StepsTo.{EndsAs, HasState, Performs}
use Rattle.ak_pager.specs.Effects.{OthersStay, Changes, AreReads}

-- areas are other pages than STATE
pub area_apart : (layout : Layout) (i : ℕ) → i < 3 → ssa_page layout i ≢ state_page layout
area_apart layout i l e = omega arith

-- and than one another
pub areas_apart : (layout : Layout) (i j : ℕ) → (i ≡ j → ⊥) → ssa_page layout i ≢ ssa_page layout j
areas_apart layout i j differ e = differ (omega arith)

pub state_apart : (layout : Layout) (i : ℕ) → i < 3 → state_page layout ≢ ssa_page layout i
state_apart layout i l e = omega arith

module _ (layout : Layout) (phase : Phase) (queue frame : List ℕ) where
  abbrev Says : List ℕ → Type 0
  Says bytes = HasState phase queue frame bytes

  -- STATE alone
  pub state_alone : (old new : ℕ → List ℕ) → Says (new (state_page layout)) → OthersStay (state_page layout) old new → Changes layout (StateSets phase queue frame) AreasStay old new
  state_alone old new says others = record {
    state = says;
    areas = λ i l. others (ssa_page layout i) (area_apart layout i l);
    others = λ p differs area. others p differs;
  }

  is_first : (i : ℕ) → i < 1 → 0 ≡ i
  is_first zero l = refl
  is_first (suc i) l = absurd (omega arith)

  -- STATE, and then the first area is a guard
  pub guard_one : (old mid new : ℕ → List ℕ) → Changes layout (StateSets phase queue frame) AreasStay old mid →
      HasFrame layout area_place (new (ssa_page layout 0)) (guard_frame layout) → OthersStay (ssa_page layout 0) mid new → Changes layout (StateSets phase queue frame) (AreasGuard 1) old new
  guard_one old mid new first guard then = record {
    state = subst Says (sym (then (state_page layout) (state_apart layout 0 (omega arith)))) first.state;
    areas = (
      (λ i l. subst (λ (j : ℕ). HasFrame layout area_place (new (ssa_page layout j)) (guard_frame layout)) (is_first i l) guard),
      (λ i l no. then (ssa_page layout i) (areas_apart layout i 0 (λ e. no (omega arith))) ∙ first.areas i l),
    );
    others = λ p differs area. then p (area 0 (omega arith)) ∙ first.others p differs area;
  }

  two_by : (old new : ℕ → List ℕ) → HasFrame layout area_place (new (ssa_page layout 0)) (guard_frame layout) → HasFrame layout area_place (new (ssa_page layout 1)) (guard_frame layout) →
      (i : ℕ) → i < 2 → HasFrame layout area_place (new (ssa_page layout i)) (guard_frame layout)
  two_by old new a b zero l = a
  two_by old new a b (suc zero) l = b
  two_by old new a b (suc (suc i)) l = absurd (omega arith)

  -- and the second
  pub guard_two : (old mid next new : ℕ → List ℕ) → Changes layout (StateSets phase queue frame) AreasStay old mid →
      HasFrame layout area_place (next (ssa_page layout 0)) (guard_frame layout) → OthersStay (ssa_page layout 0) mid next →
      HasFrame layout area_place (new (ssa_page layout 1)) (guard_frame layout) → OthersStay (ssa_page layout 1) next new → Changes layout (StateSets phase queue frame) (AreasGuard 2) old new
  guard_two old mid next new first guard then other last = record {
    state = subst Says (sym (last (state_page layout) (state_apart layout 1 (omega arith)) ∙ then (state_page layout) (state_apart layout 0 (omega arith)))) first.state;
    areas = (
      two_by old new (subst (λ bytes. HasFrame layout area_place bytes (guard_frame layout)) (sym (last (ssa_page layout 0) (areas_apart layout 0 1 (λ e. omega arith)))) guard) other,
      (λ i l no. last (ssa_page layout i) (areas_apart layout i 1 (λ e. no (omega arith)))
          ∙ then (ssa_page layout i) (areas_apart layout i 0 (λ e. no (omega arith))) ∙ first.areas i l),
    );
    others = λ p differs area. last p (area 1 (omega arith)) ∙ then p (area 0 (omega arith)) ∙ first.others p differs area;
  }

  -- the first area gets a frame, and then STATE changes
  pub area_first : (saved : SavedFrame) (old mid new : ℕ → List ℕ) → HasFrame layout area_place (mid (ssa_page layout 0)) saved → OthersStay (ssa_page layout 0) old mid →
      Says (new (state_page layout)) → OthersStay (state_page layout) mid new → Changes layout (StateSets phase queue frame) (AreaGets saved) old new
  area_first saved old mid new has first says then = record {
    state = says;
    areas = (
      subst (λ bytes. HasFrame layout area_place bytes saved) (sym (then (ssa_page layout 0) (area_apart layout 0 (omega arith)))) has,
      (λ i l no. then (ssa_page layout i) (area_apart layout i l) ∙ first (ssa_page layout i) (areas_apart layout i 0 (λ e. no (omega arith)))),
    );
    others = λ p differs area. then p differs ∙ first p (area 0 (omega arith));
  }

-- ---- Rows

-- another phase, with queue and frame as they are
pub in_row : (layout : Layout) (phase : Phase) (saved : ℕ) (r : Reads) (areas : AreaChange) (old new : ℕ → List ℕ) → AreReads layout saved old r →
    ((queue : List ℕ) → HasQueue (old (state_page layout)) queue → Changes layout (StateSets phase queue (kept_bytes (old (state_page layout)))) areas old new) →
    Changes layout (with_phase r phase) areas old new
in_row layout phase saved r areas old new reads changes =
    subst (λ bytes. Changes layout (StateSets phase r.queue (kept_bytes bytes)) areas old new) (sym reads.state) (changes r.queue reads.queue)

-- what changes, with the step's end
pub performs : (layout : Layout) (row : Row) (old new : ℕ → List ℕ) (turn : RtTurn) (regs : Regs) → EndsAs layout row.ends turn regs → Changes layout row.state row.areas old new →
    Performs layout row old new turn regs
performs layout row old new turn regs ends changes = record { ends = ends; state = changes.state; areas = changes.areas; others = changes.others }
