-- Entries, whatever is saved: what a step reads is what the relation says of the bytes, and each row is one of those proved.
use Rattle.std.proofs.Common.{◌≡◌, ℕ, zero, suc, List, [], ◌∷◌, length, arith, refl, ap, sym, ◌∙◌, subst}
use Rattle.std.specs.Prelude.{true}
use Rattle.ak_core.specs.Layout.{Layout}
use Rattle.ak_core.specs.declared.page.Lp.{Lp}
use Rattle.ak_core.specs.declared.registers.Regs.{Regs}
use Rattle.ak_model.specs.Paging.Pages.{ssa_page, state_page}
use Rattle.ak_model.specs.Paging.Histories.{History}
use Rattle.ak_model.specs.Flat.FlatRuns.{Flat}
use Rattle.ak_model.specs.Control.ControlState.{Phase, New, Running, Calling, Asked, Ended, Trapped, Dead, Context, Enter, Saved, Control}
use Rattle.ak_model.specs.Control.RuntimeTurn.{enter, handle}
use Rattle.ak_model.specs.Tapes.ProgramTurns.{ProgramTurn}
use Rattle.ak_model.specs.Laws.Orderly.{StackFits}
use Rattle.ak_ssa.specs.SavedFrames.{SavedFrame}
use Rattle.ak_ssa.specs.SavedRegisters.{AreRegs}
use Rattle.ak_relation.specs.State.MachineState.{State}
use Rattle.ak_pager.specs.RuntimePages.{IsArea, AreasStand, KeepsFrame, IsState}
use Rattle.ak_relation.specs.Relation.Stands.{copies_at}
use Rattle.ak_pager.specs.Rows.{Reads, guard_frame, saved_row, entry_row}
use Rattle.ak_pager.specs.StepsTo.{Performs, ReadsKept, reads_of, WorksBy}
use Rattle.ak_pager.specs.declared.turn.RtTurn.{RtTurn}
use Rattle.ak_relation.specs.Relation.Does.{with_rest}
use Rattle.ak_relation.proofs.Runtime.RowPages.{old_copy}
use Rattle.ak_relation.proofs.Runtime.Cases.{Case, Comes, context_fits, found_all, state_held}
use Rattle.ak_relation.proofs.Runtime.RowsSaved.{one_saved, two_saved}

-- ---- The frame in STATE

-- its registers are the program's, in a phase that keeps one
abbrev pub HasRegs : Phase → SavedFrame → Flat → Type 0
HasRegs Calling frame flat = (frame.regs ≡ flat.regs) × AreRegs frame.regs
HasRegs (Asked n) frame flat = (frame.regs ≡ flat.regs) × AreRegs frame.regs
HasRegs _ frame flat = Unit {0}

-- a frame that may be read
pub record Kept (layout : Layout) (phase : Phase) (flat : Flat) (bytes : List ℕ) : Type 0 where
  pub frame : SavedFrame
  pub reads : ReadsKept layout phase bytes frame
  pub regs : HasRegs phase frame flat

kept_of : (layout : Layout) (phase : Phase) (flat : Flat) (bytes : List ℕ) → KeepsFrame phase layout flat bytes → Kept layout phase flat bytes
kept_of layout Calling flat bytes h = record { frame = h.frame; reads = (h.stored, h.words); regs = (h.registers, h.words) }
kept_of layout (Asked n) flat bytes h = record { frame = h.frame; reads = (h.stored, h.words); regs = (h.registers, h.words) }
kept_of layout New flat bytes h = record { frame = guard_frame layout; reads = tt; regs = tt }
kept_of layout Running flat bytes h = record { frame = guard_frame layout; reads = tt; regs = tt }
kept_of layout (Ended s) flat bytes h = record { frame = guard_frame layout; reads = tt; regs = tt }
kept_of layout (Trapped x) flat bytes h = record { frame = guard_frame layout; reads = tt; regs = tt }
kept_of layout Dead flat bytes h = record { frame = guard_frame layout; reads = tt; regs = tt }

module _ (layout : Layout) (image : List ℕ) (past : History) (control : Control) (turns : List ProgramTurn) (old new : State) (lp : Lp) (context : Context) (outcome : RtTurn) (regs : Regs)
    (c : Case layout image past control turns old new lp context outcome regs) where
  -- what STATE's bytes say
  state_read : IsState layout control.phase control.queue c.h.bytes.flat (c.before (state_page layout))
  state_read = old_copy layout past c.holds c.before c.after old new c.writes (state_page layout) (IsState layout control.phase control.queue c.h.bytes.flat)
      (state_held layout image past control turns old new lp context outcome regs c) c.h.bytes.pages.state

  -- the frame in STATE
  pub kept_read : Kept layout control.phase c.h.bytes.flat (c.before (state_page layout))
  kept_read = kept_of layout control.phase c.h.bytes.flat (c.before (state_page layout)) (let s = state_read in s.kept)

  -- the newest saved frame, where its area is held
  pub area_read : (saved : Saved) (older : List Saved) → control.stack ≡ saved ∷ older → c.holds (ssa_page layout (length older)) ≡ true →
      IsArea layout control.phase control.queue c.h.bytes.flat saved (c.before (ssa_page layout (length older)))
  area_read saved older e held = old_copy layout past c.holds c.before c.after old new c.writes (ssa_page layout (length older)) (IsArea layout control.phase control.queue c.h.bytes.flat saved) held
      (let a = subst (AreasStand layout control.phase control.queue c.h.bytes.flat (copies_at layout past old)) e c.h.bytes.pages.areas in a.0)

-- one is saved
pub only : (stack : List Saved) → length stack ≡ 1 → (saved : Saved) × (stack ≡ saved ∷ [])
only [] h = absurd (omega arith)
only (saved ∷ []) h = (saved, refl)
only (saved ∷ next ∷ older) h = absurd (omega arith)

-- two are
pub pair : (stack : List Saved) → length stack ≡ 2 → (saved : Saved) × (below : Saved) × (stack ≡ saved ∷ below ∷ [])
pair [] h = absurd (omega arith)
pair (saved ∷ []) h = absurd (omega arith)
pair (saved ∷ next ∷ []) h = (saved, next, refl)
pair (saved ∷ next ∷ more ∷ older) h = absurd (omega arith)

module _ (layout : Layout) (image : List ℕ) (past : History) (control : Control) (turns : List ProgramTurn) (old new : State) (lp : Lp) (v : ℕ) (outcome : RtTurn) (regs before : Regs) (all : ℕ) where
  -- a step in this context
  abbrev pub At : Context → Type 0
  At context = Case layout image past control turns old new lp context outcome regs

  -- what the machine promised of it
  abbrev pub Works : (context : Context) → At context → Type 0
  Works context c = WorksBy layout control context before c.before c.after outcome regs

  -- what it comes to
  abbrev pub Goal : (context : Context) → At context → Type 0
  Goal context c = Comes layout image past control turns old new lp context outcome regs c all outcome

  -- with one saved
  one_handled : (c : At (Enter 1 v)) → Works (Enter 1 v) c → (phase : Phase) → control.phase ≡ phase → ((r : Reads) → entry_row layout r 1 v phase ≡ saved_row layout r 1 r.saved.cause) →
      ((next : Control) → enter layout next 1 v phase ≡ handle layout next 1 next.stack) → Goal (Enter 1 v) c
  one_handled c w phase e row_is effect_is =
      let fits = context_fits layout image past control turns old new lp (Enter 1 v) outcome regs c in
      let top = only control.stack (sym fits.0) in
      let found = found_all layout image past control turns old new lp (Enter 1 v) outcome regs c in
      let area = area_read layout image past control turns old new lp (Enter 1 v) outcome regs c top.0 [] top.1 found.2.2.1 in
      let kept = kept_read layout image past control turns old new lp (Enter 1 v) outcome regs c in
      let own = subst (StackFits layout control.phase control.queue) top.1 c.h.laws.orderly.stack in
      let r = reads_of layout control.phase control.queue c.before kept.frame area.frame in
      one_saved layout image past control turns old new lp v outcome regs c all r refl refl area.stored area.fits top.0 top.1 own.0 area.noted area.registers
      (λ later. ap (enter layout (with_rest control later) 1 v) e ∙ effect_is (with_rest control later))
      (subst (λ row. Performs layout row c.before c.after outcome regs) (ap (entry_row layout r 1 v) e ∙ row_is r) (w kept.frame area.frame kept.reads (area.stored, area.fits)))

  -- with two
  two_handled : (c : At (Enter 2 v)) → Works (Enter 2 v) c → (phase : Phase) → control.phase ≡ phase → ((r : Reads) → entry_row layout r 2 v phase ≡ saved_row layout r 2 r.saved.cause) →
      ((next : Control) → enter layout next 2 v phase ≡ handle layout next 2 next.stack) → Goal (Enter 2 v) c
  two_handled c w phase e row_is effect_is =
      let fits = context_fits layout image past control turns old new lp (Enter 2 v) outcome regs c in
      let top = pair control.stack (sym fits.0) in
      let found = found_all layout image past control turns old new lp (Enter 2 v) outcome regs c in
      let area = area_read layout image past control turns old new lp (Enter 2 v) outcome regs c top.0 (top.1 ∷ []) top.2 found.2.2.2.1 in
      let kept = kept_read layout image past control turns old new lp (Enter 2 v) outcome regs c in
      let own = subst (StackFits layout control.phase control.queue) top.2 c.h.laws.orderly.stack in
      let r = reads_of layout control.phase control.queue c.before kept.frame area.frame in
      two_saved layout image past control turns old new lp v outcome regs c all r refl top.1 top.0 top.2 own.0 area.noted
      (λ later. ap (enter layout (with_rest control later) 2 v) e ∙ effect_is (with_rest control later))
      (subst (λ row. Performs layout row c.before c.after outcome regs) (ap (entry_row layout r 2 v) e ∙ row_is r) (w kept.frame area.frame kept.reads (area.stored, area.fits)))

  -- three are never saved at an entry
  pub three_clash : (k : ℕ) (A : Type 0) → At (Enter (suc (suc (suc k))) v) → A
  three_clash k A c = absurd (let fits = context_fits layout image past control turns old new lp (Enter (suc (suc (suc k))) v) outcome regs c in let small = fits.1 in omega arith)

  -- what was saved decides
  pub handled : (k : ℕ) (c : At (Enter (suc k) v)) → Works (Enter (suc k) v) c → (phase : Phase) → control.phase ≡ phase → ((r : Reads) → entry_row layout r (suc k) v phase ≡ saved_row layout r (suc k) r.saved.cause) →
      ((next : Control) → enter layout next (suc k) v phase ≡ handle layout next (suc k) next.stack) → Goal (Enter (suc k) v) c
  handled zero c w phase e row_is effect_is = one_handled c w phase e row_is effect_is
  handled (suc zero) c w phase e row_is effect_is = two_handled c w phase e row_is effect_is
  handled (suc (suc k)) c w phase e row_is effect_is = three_clash k (Goal (Enter (suc (suc (suc k))) v) c) c

  -- ---- The row of any entry

  -- the row of an entry, as it was shown
  pub record ShownEntry (k : ℕ) (c : At (Enter k v)) : Type 0 where
    pub reads : Reads
    pub shown : Performs layout (entry_row layout reads k v control.phase) c.before c.after outcome regs

  -- whatever is saved, it was shown
  pub shown_entry : (k : ℕ) (c : At (Enter k v)) → Works (Enter k v) c → ShownEntry k c
  shown_entry zero c w =
      let kept = kept_read layout image past control turns old new lp (Enter 0 v) outcome regs c in
      record { reads = reads_of layout control.phase control.queue c.before kept.frame (guard_frame layout); shown = w kept.frame (guard_frame layout) kept.reads tt }
  shown_entry (suc zero) c w =
      let fits = context_fits layout image past control turns old new lp (Enter 1 v) outcome regs c in
      let top = only control.stack (sym fits.0) in
      let found = found_all layout image past control turns old new lp (Enter 1 v) outcome regs c in
      let area = area_read layout image past control turns old new lp (Enter 1 v) outcome regs c top.0 [] top.1 found.2.2.1 in
      let kept = kept_read layout image past control turns old new lp (Enter 1 v) outcome regs c in
      record { reads = reads_of layout control.phase control.queue c.before kept.frame area.frame; shown = w kept.frame area.frame kept.reads (area.stored, area.fits) }
  shown_entry (suc (suc zero)) c w =
      let fits = context_fits layout image past control turns old new lp (Enter 2 v) outcome regs c in
      let top = pair control.stack (sym fits.0) in
      let found = found_all layout image past control turns old new lp (Enter 2 v) outcome regs c in
      let area = area_read layout image past control turns old new lp (Enter 2 v) outcome regs c top.0 (top.1 ∷ []) top.2 found.2.2.2.1 in
      let kept = kept_read layout image past control turns old new lp (Enter 2 v) outcome regs c in
      record { reads = reads_of layout control.phase control.queue c.before kept.frame area.frame; shown = w kept.frame area.frame kept.reads (area.stored, area.fits) }
  shown_entry (suc (suc (suc k))) c w = three_clash k (ShownEntry (suc (suc (suc k))) c) c
