-- A step of the runtime faults just where an access was refused, since no row of its table ends in a fault; and it writes only pages that
-- its memory holds.
use Rattle.std.proofs.Common.{◌≡◌, ◌≢◌, ℕ, zero, suc, ◌<◌, ◌≤◌, Bool, true, false, List, [], ◌∷◌, arith, refl, ap, sym, ◌∙◌, subst, inl, inr}
use Rattle.std.proofs.lemmas.Bool.Decides.{eqb_tells}
use Rattle.std.specs.Prelude.{Option, Some, None, IsTrue, ◌⊎◌, ◌==◌}
use Rattle.ak_core.specs.Layout.{Layout, IsValid}
use Rattle.ak_core.specs.Mem.{Access}
use Rattle.ak_core.specs.declared.registers.Mode.{Mode}
use Rattle.ak_core.specs.declared.registers.Regs.{Regs}
use Rattle.ak_model.specs.Control.ControlState.{Phase, New, Running, Calling, Asked, Ended, Trapped, Dead, Context, Program, Enter, Probe, Finish, Guard, Leave, Reason, Interrupted, Cleared, Raised, Denied, Missed, Broke, Faulted, Control}
use Rattle.ak_model.specs.Control.RuntimeTurn.{accesses}
use Rattle.ak_model.specs.Flat.FlatRuns.{Flat}
use Rattle.ak_model.specs.Flat.Instructions.{reg_of, rdi, rsi}
use Rattle.ak_model.specs.Laws.StepRows.{opens, HasRow}
use Rattle.ak_model.specs.Paging.Pages.{ssa_page, state_page}
use Rattle.ak_pager.proofs.StepReads.{area_of, some_reads}
use Rattle.ak_pager.specs.Contexts.{reason_for}
use Rattle.ak_pager.specs.Rows.{AreaChange, AreasStay, AreasGuard, AreaGets, StepEnd, GoesWith, GoesProbing, LeavesWith, DiesOf, Reads, program_row, mode_row, saved_row, entry_row, finish_row, guard_row, leave_row, row_of}
use Rattle.ak_pager.specs.StepsTo.{IsSmall, memory_of, MayStep, EndsAs, AreasAre, Performs, ReadsKept, ReadsSaved, reads_of, WorksBy, StepsTo}
use Rattle.ak_pager.specs.declared.turn.RtTurn.{RtTurn}
use Rattle.ak_ssa.specs.SavedFrames.{SavedCause, NoCause, ByVector, ByPage, SavedFrame}

-- whether two numbers are equal, as a test tells
abbrev Tells : ℕ → ℕ → Type 0
Tells a b = (((a == b) ≡ true) × (a ≡ b)) ⊎ (((a == b) ≡ false) × (a ≢ b))

-- these accesses are of pages that the memory holds
abbrev pub AreHeld : (ℕ → Bool) → List Access → Type 0
AreHeld holds [] = Unit {0}
AreHeld holds (t ∷ all) = (holds t.page.0 ≡ true) × AreHeld holds all

-- no end of a row is a fault
ends_never : (layout : Layout) (end : StepEnd) (outcome : RtTurn) (regs : Regs) (t : Access) → EndsAs layout end outcome regs → outcome ≡ RtTurn.Faulted t → ⊥
ends_never layout (GoesWith after) outcome regs t ends e = let clash : RtTurn.Go ≡ RtTurn.Faulted t = sym ends.0 ∙ e in cc
ends_never layout (GoesProbing i) outcome regs t ends e = let clash : RtTurn.Go ≡ RtTurn.Faulted t = sym ends.0 ∙ e in cc
ends_never layout (LeavesWith exit) outcome regs t ends e = let clash : RtTurn.Leave exit ≡ RtTurn.Faulted t = sym ends ∙ e in cc
ends_never layout (DiesOf cause) outcome regs t ends e = let clash : RtTurn.Dead cause ≡ RtTurn.Faulted t = sym ends ∙ e in cc

-- ---- The areas that a step writes

-- how many of the first areas a step touches
abbrev pub touched_areas : Context → ℕ
touched_areas (Enter k v) = k
touched_areas Finish = 1
touched_areas _ = 0

-- the areas that change are of the first so many
abbrev pub Fits : ℕ → AreaChange → Type 0
Fits k AreasStay = Unit {0}
Fits k (AreasGuard n) = n ≤ k
Fits k (AreaGets frame) = 1 ≤ k

area_stays : (layout : Layout) (old new : ℕ → List ℕ) (k : ℕ) (areas : AreaChange) → Fits k areas → AreasAre layout areas old new → (i : ℕ) → i < 3 → (i < k → ⊥) → new (ssa_page layout i) ≡ old (ssa_page layout i)
area_stays layout old new k AreasStay fits are i low past = are i low
area_stays layout old new k (AreasGuard n) fits are i low past = are.1 i low (λ l. past (omega arith))
area_stays layout old new k (AreaGets frame) fits are i low past = are.1 i low (λ l. past (omega arith))

module _ (layout : Layout) (r : Reads) where
  reason_fits : (k : ℕ) (t : Access) (reason : Reason) → 1 ≤ k → Fits k (program_row layout r t reason).areas
  reason_fits k t Denied some = some
  reason_fits k t Broke some = some
  reason_fits k t (Missed c) some = some
  reason_fits k t (Raised v) some = tt
  reason_fits k t Interrupted some = tt
  reason_fits k t Cleared some = tt
  reason_fits k t (Faulted u) some = tt

  mode_fits : (k : ℕ) (t : Access) (mode : Mode) → 1 ≤ k → Fits k (mode_row layout r t mode).areas
  mode_fits k t Mode.Runtime some = some
  mode_fits k t Mode.Program some = reason_fits k t (reason_for layout r.queue Program t) some

  one_fits : (cause : SavedCause) → Fits 1 (saved_row layout r 1 cause).areas
  one_fits NoCause = tt
  one_fits (ByVector v) = omega arith
  one_fits (ByPage t) = mode_fits 1 t r.saved.regs.mode (omega arith)

  two_fits : (cause : SavedCause) → Fits 2 (saved_row layout r 2 cause).areas
  two_fits NoCause = tt
  two_fits (ByVector v) = omega arith
  two_fits (ByPage t) = omega arith

  entry_fits : (k v : ℕ) (phase : Phase) → k < 3 → (k ≡ 0 → IsTrue (opens phase)) → Fits k (entry_row layout r k v phase).areas
  entry_fits k v (Ended s) small opened = tt
  entry_fits k v (Trapped x) small opened = tt
  entry_fits k v Dead small opened = tt
  entry_fits zero v New small opened = tt
  entry_fits zero v Calling small opened = tt
  entry_fits zero v Running small opened = absurd (let wrong = opened refl in cc)
  entry_fits zero v (Asked c) small opened = absurd (let wrong = opened refl in cc)
  entry_fits (suc zero) v New small opened = one_fits r.saved.cause
  entry_fits (suc zero) v Calling small opened = one_fits r.saved.cause
  entry_fits (suc zero) v Running small opened = one_fits r.saved.cause
  entry_fits (suc zero) v (Asked c) small opened = tt
  entry_fits (suc (suc zero)) v New small opened = two_fits r.saved.cause
  entry_fits (suc (suc zero)) v Calling small opened = two_fits r.saved.cause
  entry_fits (suc (suc zero)) v Running small opened = two_fits r.saved.cause
  entry_fits (suc (suc zero)) v (Asked c) small opened = two_fits r.saved.cause
  entry_fits (suc (suc (suc k))) v New small opened = absurd (omega arith)
  entry_fits (suc (suc (suc k))) v Calling small opened = absurd (omega arith)
  entry_fits (suc (suc (suc k))) v Running small opened = absurd (omega arith)
  entry_fits (suc (suc (suc k))) v (Asked c) small opened = absurd (omega arith)

  finish_fits : (phase : Phase) → Fits 1 (finish_row r phase).areas
  finish_fits (Asked c) = omega arith
  finish_fits New = tt
  finish_fits Running = tt
  finish_fits Calling = tt
  finish_fits (Ended s) = tt
  finish_fits (Trapped x) = tt
  finish_fits Dead = tt

  guard_fits : (phase : Phase) → Fits 0 (guard_row r phase).areas
  guard_fits (Asked c) = tt
  guard_fits New = tt
  guard_fits Running = tt
  guard_fits Calling = tt
  guard_fits (Ended s) = tt
  guard_fits (Trapped x) = tt
  guard_fits Dead = tt

  leave_fits : (regs : Regs) (b a : ℕ) → Fits 0 (leave_row layout r regs b a).areas
  leave_fits regs zero a = tt
  leave_fits regs (suc b) a = tt

module _ (layout : Layout) (valid : IsValid layout) (control : Control) (flat : Flat) (regs : Regs) (holds : ℕ → Bool) (old new : ℕ → List ℕ) where
  -- the newest saved frame, where one is read
  saved_frame : (context : Context) → (may : MayStep layout control context flat regs (memory_of holds old)) → AreHeld holds (accesses layout control context) → (other : SavedFrame) →
      (frame : SavedFrame) × ReadsSaved layout old context frame
  saved_frame Program may held other = (other, tt)
  saved_frame (Enter zero v) may held other = (other, tt)
  saved_frame (Enter (suc zero) v) may held other =
      let area = area_of layout valid control (Enter 1 v) flat regs holds old may control.stack 0 may.row may.areas held.1.1.0 in (area.0, (area.1, area.2))
  saved_frame (Enter (suc (suc zero)) v) may held other =
      let area = area_of layout valid control (Enter 2 v) flat regs holds old may control.stack 1 may.row may.areas held.1.1.1.0 in (area.0, (area.1, area.2))
  saved_frame (Enter (suc (suc (suc k))) v) may held other = absurd (let small : suc (suc (suc k)) < 3 = may.small in omega arith)
  saved_frame (Probe i) may held other = (other, tt)
  saved_frame Finish may held other = (other, tt)
  saved_frame Guard may held other = (other, tt)
  saved_frame (Leave b a) may held other = (other, tt)

  -- the areas of its row
  row_fits : (context : Context) → HasRow layout control context → IsSmall context → (r : Reads) → r.phase ≡ control.phase → Fits (touched_areas context) (row_of layout r regs context).areas
  row_fits Program row small r e = tt
  row_fits (Enter zero v) row small r e = entry_fits layout r 0 v r.phase (omega arith) (λ z. subst (λ (phase : Phase). IsTrue (opens phase)) (sym e) row.1)
  row_fits (Enter (suc k) v) row small r e = entry_fits layout r (suc k) v r.phase small (λ z. absurd (omega arith))
  row_fits (Probe i) row small r e = tt
  row_fits Finish row small r e = finish_fits layout r r.phase
  row_fits Guard row small r e = guard_fits layout r r.phase
  row_fits (Leave b a) row small r e = leave_fits layout r regs (reg_of regs rdi) (reg_of regs rsi)

  -- the memory holds those that it touches
  held_area : (context : Context) → IsSmall context → AreHeld holds (accesses layout control context) → (i : ℕ) → i < touched_areas context → holds (ssa_page layout i) ≡ true
  held_area Program small held i low = absurd (omega arith)
  held_area (Enter zero v) small held i low = absurd (omega arith)
  held_area (Enter (suc zero) v) small held zero low = held.1.1.0
  held_area (Enter (suc zero) v) small held (suc i) low = absurd (omega arith)
  held_area (Enter (suc (suc zero)) v) small held zero low = held.1.1.0
  held_area (Enter (suc (suc zero)) v) small held (suc zero) low = held.1.1.1.0
  held_area (Enter (suc (suc zero)) v) small held (suc (suc i)) low = absurd (omega arith)
  held_area (Enter (suc (suc (suc k))) v) small held i low = absurd (let few : suc (suc (suc k)) < 3 = small in omega arith)
  held_area (Probe n) small held i low = absurd (omega arith)
  held_area Finish small held zero low = held.1.1.0
  held_area Finish small held (suc i) low = absurd (omega arith)
  held_area Guard small held i low = absurd (omega arith)
  held_area (Leave b a) small held i low = absurd (omega arith)

  module _ (context : Context) (may : MayStep layout control context flat regs (memory_of holds old)) (granted : List Access) (held : AreHeld holds granted) (outcome : RtTurn) (after : Regs) where
    -- the row of the step, as its memory shows it
    record Shown : Type 0 where
      kept : SavedFrame
      saved : SavedFrame
      performs : Performs layout (row_of layout (reads_of layout control.phase control.queue old kept saved) regs context) old new outcome after

    shown : granted ≡ accesses layout control context → WorksBy layout control context regs old new outcome after → Shown
    shown all works =
        let own = subst (AreHeld holds) all held in
        let state = some_reads layout valid control context flat regs holds old may own.1.0 in
        let r = state.0 in
        let reads = state.1 in
        let kept : ReadsKept layout control.phase (old (state_page layout)) r.kept = subst (λ (phase : Phase). ReadsKept layout phase (old (state_page layout)) r.kept) state.2 reads.kept in
        let saved = saved_frame context may own r.kept in
        record { kept = r.kept; saved = saved.0; performs = works r.kept saved.0 kept saved.1 }

    -- a step whose accesses were all granted does not fault
    granted_never : (t : Access) → granted ≡ accesses layout control context → WorksBy layout control context regs old new outcome after → outcome ≡ RtTurn.Faulted t → ⊥
    granted_never t all works e =
        let s = shown all works in
        ends_never layout (row_of layout (reads_of layout control.phase control.queue old s.kept s.saved) regs context).ends outcome after t s.performs.ends e

    -- one that faults was refused that access
    pub faulted_refused : (refused : Option Access) (t : Access) → StepsTo layout control context regs old new granted refused outcome after → outcome ≡ RtTurn.Faulted t → refused ≡ Some t
    faulted_refused None t steps e = let done = steps.works refl in absurd (granted_never t done.0 done.1 e)
    faulted_refused (Some u) t steps e =
        let done = steps.faults u refl in
        let same : RtTurn.Faulted u ≡ RtTurn.Faulted t = sym done.3 ∙ e in
        ap Some (inner u t same)
      where
        inner : (x y : Access) → RtTurn.Faulted x ≡ RtTurn.Faulted y → x ≡ y
        inner x y e = cc

    -- and a refused one faults
    pub refused_faulted : (refused : Option Access) (t : Access) → StepsTo layout control context regs old new granted refused outcome after → refused ≡ Some t → outcome ≡ RtTurn.Faulted t
    refused_faulted refused t steps e = (steps.faults t e).3

    -- a page that the memory does not hold keeps its bytes
    granted_stays : granted ≡ accesses layout control context → WorksBy layout control context regs old new outcome after → (p : ℕ) → holds p ≡ false → new p ≡ old p
    granted_stays all works p gone =
        let own = subst (AreHeld holds) all held in
        let s = shown all works in
        let r = reads_of layout control.phase control.queue old s.kept s.saved in
        elim (eqb_tells p (state_page layout)) [
          | inl is ↦ absurd (let clash : true ≡ false = sym own.1.0 ∙ ap holds (sym is.1) ∙ gone in cc)
          | inr other ↦ by_area p other.1 (row_of layout r regs context).areas (row_fits context may.row may.small r refl) s.performs.areas s.performs.others
              (λ i l. held_area context may.small own i l) gone
        ]
      where
        by_area : (p : ℕ) → p ≢ state_page layout → (areas : AreaChange) → Fits (touched_areas context) areas → AreasAre layout areas old new →
            ((q : ℕ) → q ≢ state_page layout → ((i : ℕ) → i < 3 → q ≢ ssa_page layout i) → new q ≡ old q) → ((i : ℕ) → i < touched_areas context → holds (ssa_page layout i) ≡ true) →
            holds p ≡ false → new p ≡ old p
        by_area p other areas fits are others there gone =
            by_first (eqb_tells p (ssa_page layout 0)) (eqb_tells p (ssa_page layout 1)) (eqb_tells p (ssa_page layout 2))
          where
            area : (i : ℕ) → i < 3 → p ≡ ssa_page layout i → new p ≡ old p
            area i low is =
                ap new is
                ∙ area_stays layout old new (touched_areas context) areas fits are i low (λ l. absurd (let clash : true ≡ false = sym (there i l) ∙ ap holds (sym is) ∙ gone in cc))
                ∙ ap old (sym is)

            none : p ≢ ssa_page layout 0 → p ≢ ssa_page layout 1 → p ≢ ssa_page layout 2 → (i : ℕ) → i < 3 → p ≢ ssa_page layout i
            none a b c zero low = a
            none a b c (suc zero) low = b
            none a b c (suc (suc zero)) low = c
            none a b c (suc (suc (suc i))) low = absurd (omega arith)

            by_first : Tells p (ssa_page layout 0) → Tells p (ssa_page layout 1) → Tells p (ssa_page layout 2) → new p ≡ old p
            by_first (inl is) b c = area 0 (omega arith) is.1
            by_first (inr a) (inl is) c = area 1 (omega arith) is.1
            by_first (inr a) (inr b) (inl is) = area 2 (omega arith) is.1
            by_first (inr a) (inr b) (inr c) = others p other (none a.1 b.1 c.1)

    pub unheld_stays : (refused : Option Access) → StepsTo layout control context regs old new granted refused outcome after → (p : ℕ) → holds p ≡ false → new p ≡ old p
    unheld_stays None steps p gone = let done = steps.works refl in granted_stays done.0 done.1 p gone
    unheld_stays (Some t) steps p gone = let done = steps.faults t refl in ap (λ (bytes : ℕ → List ℕ). bytes p) done.1
