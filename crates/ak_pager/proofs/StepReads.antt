-- What the bytes of STATE and of the areas say, where a step is defined and the memory holds them.
use Rattle.std.proofs.Common.{◌≡◌, ℕ, suc, ◌+◌, ◌<◌, ◌≤◌, List, [], ◌∷◌, length, refl, subst, arith}
use Rattle.std.specs.Prelude.{Bool, true, false, All, Some, None, nat_lt, ◌==◌, if◌then◌else◌}
use Rattle.std.specs.Bool.{then_some}
use Rattle.std.proofs.lemmas.List.Elements.{All-nil, All-cons, All-head, All-tail}
use Rattle.ak_core.specs.Layout.{Layout, IsValid, number_on, numbers_from}
use Rattle.ak_core.specs.declared.registers.Regs.{Regs}
use Rattle.ak_model.specs.Paging.Pages.{ssa_page, state_page}
use Rattle.ak_model.specs.Flat.FlatRuns.{Flat}
use Rattle.ak_model.specs.Control.ControlState.{Phase, New, Running, Calling, Asked, Ended, Trapped, Dead, Context, Saved, Control}
use Rattle.ak_ssa.specs.SavedFrames.{SavedFrame, NoCause, area_place, HasFrame}
use Rattle.ak_ssa.specs.FramesFit.{FrameFits}
use Rattle.ak_pager.specs.Rows.{Reads}
use Rattle.ak_pager.specs.RuntimePages.{OfCopy, IsArea, AreasStand, KeepsFrame, IsState}
use Rattle.ak_pager.specs.StepsTo.{IsAskedFor, memory_of, MayStep, ReadsKept, reads_of}
use Rattle.ak_pager.specs.Remembered.{PhaseIsSmall}
use Rattle.ak_pager.specs.Effects.{AreReads, AreSomeReads}

-- ---- Clusters

few_by : (x : ℕ) (xs : List ℕ) (next n : ℕ) (below same : Bool) → number_on (if below then Some next else (if same then Some (next + 1) else None)) (numbers_from xs) ≡ Some n →
    ((m : ℕ) → numbers_from xs m ≡ Some n → n ≤ m + length xs) → n ≤ next + length (x ∷ xs)
few_by x xs next n true same h go = let l = go next h in omega arith
few_by x xs next n false true h go = let l = go (next + 1) h in omega arith
few_by x xs next n false false h go = absurd (cc)

few_numbers : (xs : List ℕ) (next n : ℕ) → numbers_from xs next ≡ Some n → n ≤ next + length xs
few_numbers [] next n h = let e : next ≡ n = cc in omega arith
few_numbers (x ∷ xs) next n h = few_by x xs next n (nat_lt x next) (x == next) h (λ m k. few_numbers xs m n k)

-- a valid layout has no more clusters than pages
pub few_clusters : (layout : Layout) → IsValid layout → layout.clusters ≤ 512
few_clusters layout valid = let l = few_numbers layout.cluster_of 0 layout.clusters valid.numbered in omega (arith, valid.clustered, valid.few_pages)

known_below : (m : ℕ) (queue : List ℕ) → m ≤ 512 → All (λ c. c < m) queue → All (λ c. c < 512) queue
known_below m [] le h = All-nil (λ c. c < 512)
known_below m (x ∷ queue) le h =
    let first : x < m = All-head (λ c. c < m) x queue h in
    All-cons (λ c. c < 512) x queue (omega arith) (known_below m queue le (All-tail (λ c. c < m) x queue h))

phase_small : (layout : Layout) (queue : List ℕ) (phase : Phase) → layout.clusters ≤ 512 → IsAskedFor layout queue phase → PhaseIsSmall phase
phase_small layout queue New le asked = tt
phase_small layout queue Running le asked = tt
phase_small layout queue Calling le asked = tt
phase_small layout queue (Asked c) le asked = let l = asked.0 in omega arith
phase_small layout queue (Ended s) le asked = tt
phase_small layout queue (Trapped v) le asked = tt
phase_small layout queue Dead le asked = tt

-- ---- Frames

-- the frame that STATE keeps, if any
kept_in : (layout : Layout) (phase : Phase) (flat : Flat) (bytes : List ℕ) (other : SavedFrame) → KeepsFrame phase layout flat bytes → (frame : SavedFrame) × ReadsKept layout phase bytes frame
kept_in layout New flat bytes other h = (other, tt)
kept_in layout Running flat bytes other h = (other, tt)
kept_in layout Calling flat bytes other h = (h.frame, (h.stored, h.words))
kept_in layout (Asked c) flat bytes other h = (h.frame, (h.stored, h.words))
kept_in layout (Ended s) flat bytes other h = (other, tt)
kept_in layout (Trapped v) flat bytes other h = (other, tt)
kept_in layout Dead flat bytes other h = (other, tt)

-- any frame
some_frame : Regs → SavedFrame
some_frame regs = record { regs = regs; cause = NoCause }

module _ (layout : Layout) (valid : IsValid layout) (control : Control) (context : Context) (flat : Flat) (regs : Regs) (holds : ℕ → Bool) (bytes : ℕ → List ℕ)
    (may : MayStep layout control context flat regs (memory_of holds bytes)) where
  -- the newest area
  pub area_of : (stack : List Saved) (k : ℕ) → length stack ≡ suc k → AreasStand layout control.phase control.queue flat (memory_of holds bytes) stack → holds (ssa_page layout k) ≡ true →
      (frame : SavedFrame) × HasFrame layout area_place (bytes (ssa_page layout k)) frame × FrameFits layout frame
  area_of [] k n areas held = absurd (omega arith)
  area_of (saved ∷ older) k n areas held =
      let same : length older ≡ k = omega arith in
      let At : ℕ → Type 0 = λ j. OfCopy (memory_of holds bytes (ssa_page layout j)) (IsArea layout control.phase control.queue flat saved) in
      let Held : Bool → Type 0 = λ b. OfCopy (then_some b (bytes (ssa_page layout k))) (IsArea layout control.phase control.queue flat saved) in
      let area : IsArea layout control.phase control.queue flat saved (bytes (ssa_page layout k)) = subst Held held (subst At same areas.0) in
      (area.frame, area.stored, area.fits)

  -- the bytes of STATE
  pub state_in : holds (state_page layout) ≡ true → IsState layout control.phase control.queue flat (bytes (state_page layout))
  state_in held =
      let Held : Bool → Type 0 = λ b. OfCopy (then_some b (bytes (state_page layout))) (IsState layout control.phase control.queue flat) in
      subst Held held may.state

  module _ (held : holds (state_page layout) ≡ true) where
    -- what is read is what the control state says
    pub reads : (saved : ℕ) (kept newest : SavedFrame) → ReadsKept layout control.phase (bytes (state_page layout)) kept →
        ((k : ℕ) → saved ≡ suc k → HasFrame layout area_place (bytes (ssa_page layout k)) newest × FrameFits layout newest) →
        AreReads layout saved bytes (reads_of layout control.phase control.queue bytes kept newest)
    reads saved kept newest reads_kept reads_newest =
        let state = state_in held in record {
          phase = record {
            number = state.phase_is;
            more = state.more;
            small = phase_small layout control.queue control.phase (few_clusters layout valid) may.asked;
          };
          asked = may.asked;
          queue = record { size = state.size; clusters = state.clusters };
          is_queue = record { distinct = may.distinct; known = known_below layout.clusters control.queue (few_clusters layout valid) may.known };
          state = refl;
          first = refl;
          kept = reads_kept;
          newest = reads_newest;
        }

    -- and something is read, of this phase, where nothing is saved
    pub some_reads : (r : Reads) × AreReads layout 0 bytes r × (r.phase ≡ control.phase)
    some_reads =
        let state = state_in held in
        let kept = kept_in layout control.phase flat (bytes (state_page layout)) (some_frame regs) state.kept in
        (reads_of layout control.phase control.queue bytes kept.0 (some_frame regs), reads 0 kept.0 (some_frame regs) kept.1 (λ k e. absurd (omega arith)), refl)

    -- or some contexts are
    pub some_reads_saved : (k : ℕ) → length control.stack ≡ suc k → holds (ssa_page layout k) ≡ true → AreSomeReads layout (suc k) bytes
    some_reads_saved k n held_area =
        let state = state_in held in
        let kept = kept_in layout control.phase flat (bytes (state_page layout)) (some_frame regs) state.kept in
        let area = area_of control.stack k n may.areas held_area in
        let At : ℕ → Type 0 = λ j. HasFrame layout area_place (bytes (ssa_page layout j)) area.0 × FrameFits layout area.0 in (
          reads_of layout control.phase control.queue bytes kept.0 area.0,
          reads (suc k) kept.0 area.0 kept.1 (λ j e. let same : k ≡ j = omega arith in subst At same (area.1, area.2)),
        )
