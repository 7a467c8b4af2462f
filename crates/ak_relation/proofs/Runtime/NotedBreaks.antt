-- A step by which the enclave dies of an unmapped page of the program: the page is that of the access by which the program broke, which
-- the newest saved frame notes. A dead enclave does not die once more.
use Rattle.std.proofs.Common.{◌≡◌, ℕ, zero, suc, ◌<◌, List, [], ◌∷◌, refl, ap, sym, ◌∙◌, subst}
use Rattle.std.proofs.lemmas.Bool.{not-false}
use Rattle.std.specs.Prelude.{true}
use Rattle.ak_core.specs.Layout.{Layout}
use Rattle.ak_core.specs.Mem.{Access}
use Rattle.ak_core.specs.declared.event.StopCause.{StopCause}
use Rattle.ak_core.specs.declared.page.Lp.{Lp}
use Rattle.ak_core.specs.declared.registers.Mode.{Mode}
use Rattle.ak_core.specs.declared.registers.Regs.{Regs}
use Rattle.ak_model.specs.Control.ControlState.{Phase, Dead, Context, Program, Enter, Probe, Finish, Guard, Leave, Reason, Interrupted, Cleared, Raised, Denied, Missed, Broke, Faulted, Saved, Control}
use Rattle.ak_model.specs.Flat.FlatRuns.{Flat}
use Rattle.ak_model.specs.Paging.Histories.{History}
use Rattle.ak_model.specs.Paging.Pages.{all_pages, permits, ssa_page, state_page}
use Rattle.ak_model.specs.Tapes.LastMoment.{FlatRuns}
use Rattle.ak_model.specs.Tapes.ProgramTurns.{ProgramTurn}
use Rattle.ak_pager.specs.Contexts.{Gives, IsByPage, IsNoted, reason_for}
use Rattle.ak_pager.specs.Rows.{Reads, DiesOf, guard_frame, entry_row, row_of}
use Rattle.ak_pager.specs.RuntimePages.{IsArea}
use Rattle.ak_pager.specs.StepsTo.{Performs, WorksBy, reads_of}
use Rattle.ak_pager.specs.declared.turn.RtTurn.{RtTurn}
use Rattle.ak_ssa.specs.FramesFit.{CauseFits}
use Rattle.ak_ssa.specs.SavedFrames.{SavedCause, NoCause, ByVector, ByPage, area_place}
use Rattle.ak_relation.specs.Program.Reaching.{BreaksStand, IsBreakBy, IsForcedBy, NamesBreak}
use Rattle.ak_relation.specs.Relation.Stands.{copies_at, runs_at}
use Rattle.ak_relation.specs.State.MachineState.{State}
use Rattle.ak_relation.proofs.Exits.WalkedReached.{permits_low}
use Rattle.ak_relation.proofs.Runtime.Allowed.{step_mode}
use Rattle.ak_relation.proofs.Runtime.Cases.{Case, context_fits, found_all}
use Rattle.ak_relation.proofs.Runtime.DyingRows.{end_is, unmapped_of, ReadsBreak, entry_dies, dead_never, DiesAtEntry, step_dies}
use Rattle.ak_relation.proofs.Runtime.EntryCases.{Kept, area_read, kept_read, only, shown_entry, three_clash}
use Rattle.ak_relation.proofs.Runtime.NotedAccess.{same_noted}
use Rattle.ak_relation.proofs.Runtime.RowPages.{old_copy}

-- ---- What was saved

module _ (layout : Layout) (queue : List ℕ) (t : Access) (breaks : reason_for layout queue Program t ≡ Broke) (cause : SavedCause) (by : cause ≡ ByPage t) where
  by_page : (reason : Reason) → IsByPage layout queue Program reason cause → reason ≡ Broke
  by_page reason noted =
      let same : noted.access ≡ t = let e : ByPage noted.access ≡ ByPage t = sym noted.noted ∙ by in cc in
      sym noted.gives ∙ ap (reason_for layout queue Program) same ∙ breaks

  -- a page fault of the program that broke is noted of a break alone
  is_break : (reason : Reason) → IsNoted layout queue Program reason cause → reason ≡ Broke
  is_break Interrupted noted = absurd (let clash : NoCause ≡ ByPage t = sym noted ∙ by in cc)
  is_break Cleared noted = absurd (let clash : NoCause ≡ ByPage t = sym noted ∙ by in cc)
  is_break (Raised v) noted = absurd (let clash : ByVector v ≡ ByPage t = sym noted.0 ∙ by in cc)
  is_break Denied noted = by_page Denied noted
  is_break (Missed c) noted = by_page (Missed c) noted
  is_break Broke noted = by_page Broke noted
  is_break (Faulted u) noted = by_page (Faulted u) noted

-- registers in the program's mode are the program's
module _ (layout : Layout) (phase : Phase) (flat : Flat) (regs : Regs) (mode : regs.mode ≡ Mode.Program) where
  no_step : regs.mode ≡ Mode.Runtime → ⊥
  no_step other = let clash : Mode.Program ≡ Mode.Runtime = sym mode ∙ other in cc

  is_program : (context : Context) → Gives layout phase flat context regs → context ≡ Program
  is_program Program gives = refl
  is_program (Enter k v) gives = absurd (no_step (step_mode layout phase flat (Enter k v) regs tt gives))
  is_program (Probe i) gives = absurd (no_step (step_mode layout phase flat (Probe i) regs tt gives))
  is_program Finish gives = absurd (no_step (step_mode layout phase flat Finish regs tt gives))
  is_program Guard gives = absurd (no_step (step_mode layout phase flat Guard regs tt gives))
  is_program (Leave b a) gives = absurd (no_step (step_mode layout phase flat (Leave b a) regs tt gives))

-- the access of a break is of a page of the enclave
break_low : (layout : Layout) (runs : FlatRuns) (turns : List ProgramTurn) (t : Access) → IsBreakBy layout runs turns t → t.page.0 < all_pages layout
break_low layout runs turns t b = permits_low layout t.page.0 t.kind (not-false (permits layout t.page.0 t.kind) b.faults.may_fault.permitted)

-- ---- The step

module _ (layout : Layout) (image : List ℕ) (past : History) (control : Control) (turns : List ProgramTurn) (old new : State) (lp : Lp) (outcome : RtTurn) (regs before : Regs) where
  -- a step in this context, all of whose accesses were found
  abbrev pub At : Context → Type 0
  At context = Case layout image past control turns old new lp context outcome regs

  -- what the machine promised of it
  abbrev pub Works : (context : Context) → At context → Type 0
  Works context c = WorksBy layout control context before c.before c.after outcome regs

  module _ (t : Access) (dies : outcome ≡ RtTurn.Dead (unmapped_of t)) where
    abbrev Forced : Type 0
    Forced = IsBreakBy layout (runs_at layout image control) turns t

    -- an entry with one context saved, whose area is held
    area_broke : (v : ℕ) (c : At (Enter 1 v)) → Works (Enter 1 v) c → (saved : Saved) → control.stack ≡ saved ∷ [] → c.holds (ssa_page layout 0) ≡ true →
        IsArea layout control.phase control.queue c.h.bytes.flat saved (c.before (ssa_page layout 0)) → Kept layout control.phase c.h.bytes.flat (c.before (state_page layout)) → Forced
    area_broke v c w saved top held area kept =
        let runs : FlatRuns = runs_at layout image control in
        let r : Reads = reads_of layout control.phase control.queue c.before kept.frame area.frame in
        let shown = w kept.frame area.frame kept.reads (area.stored, area.fits) in
        let read : ReadsBreak layout r 1 t = entry_dies layout r t 1 v control.phase (end_is layout (entry_row layout r 1 v control.phase).ends outcome regs (unmapped_of t) shown.ends dies) in
        let program : saved.context ≡ Program = is_program layout control.phase c.h.bytes.flat area.frame.regs read.mode saved.context area.registers in
        let reason : saved.reason ≡ Broke =
        is_break layout control.queue t read.breaks area.frame.cause read.noted saved.reason
        (subst (λ context. IsNoted layout control.queue context saved.reason area.frame.cause) program area.noted) in
        let stand : BreaksStand layout runs turns (copies_at layout past old) (saved ∷ []) = subst (BreaksStand layout runs turns (copies_at layout past old)) top c.h.reached.breaks in
        let named : NamesBreak layout runs turns (c.before (ssa_page layout 0)) =
        old_copy layout past c.holds c.before c.after old new c.writes (ssa_page layout 0) (NamesBreak layout runs turns) held
        (subst (IsForcedBy layout runs turns (copies_at layout past old (ssa_page layout 0))) reason stand.0) in
        let same : t ≡ named.access =
        same_noted layout c.room area_place (c.before (ssa_page layout 0)) area.frame named.frame t named.access area.stored named.stored read.noted named.noted
        (subst (CauseFits layout) read.noted area.fits.cause) (break_low layout runs turns named.access named.forced) in
        subst (IsBreakBy layout runs turns) (sym same) named.forced

    one_saved : (v : ℕ) (c : At (Enter 1 v)) → Works (Enter 1 v) c → Forced
    one_saved v c w =
        let fits = context_fits layout image past control turns old new lp (Enter 1 v) outcome regs c in
        let top = only control.stack (sym fits.0) in
        let found = found_all layout image past control turns old new lp (Enter 1 v) outcome regs c in
        area_broke v c w top.0 top.1 found.2.2.1 (area_read layout image past control turns old new lp (Enter 1 v) outcome regs c top.0 [] top.1 found.2.2.1)
        (kept_read layout image past control turns old new lp (Enter 1 v) outcome regs c)

    -- no other step dies so
    other_step : (context : Context) (c : At context) (r : Reads) → Performs layout (row_of layout r before context) c.before c.after outcome regs → ((k v : ℕ) → context ≡ Enter k v → ⊥) → ⊥
    other_step context c r shown apart =
        let d : DiesAtEntry layout r context t = step_dies layout r t before context (end_is layout (row_of layout r before context).ends outcome regs (unmapped_of t) shown.ends dies) in
        apart d.saved d.value d.entry

    pub forced : (context : Context) (c : At context) → Works context c → Forced
    forced Program c w = absurd c.step
    forced (Enter zero v) c w =
        let kept = kept_read layout image past control turns old new lp (Enter 0 v) outcome regs c in
        let r : Reads = reads_of layout control.phase control.queue c.before kept.frame (guard_frame layout) in
        let shown = w kept.frame (guard_frame layout) kept.reads tt in
        let read : ReadsBreak layout r 0 t = entry_dies layout r t 0 v control.phase (end_is layout (entry_row layout r 0 v control.phase).ends outcome regs (unmapped_of t) shown.ends dies) in
        absurd (let clash : NoCause ≡ ByPage t = read.noted in cc)
    forced (Enter (suc zero) v) c w = one_saved v c w
    forced (Enter (suc (suc zero)) v) c w =
        let s = shown_entry layout image past control turns old new lp v outcome regs before 0 2 c w in
        let read : ReadsBreak layout s.reads 2 t =
        entry_dies layout s.reads t 2 v control.phase (end_is layout (entry_row layout s.reads 2 v control.phase).ends outcome regs (unmapped_of t) s.shown.ends dies) in
        absurd (let clash = read.few in cc)
    forced (Enter (suc (suc (suc k))) v) c w = three_clash layout image past control turns old new lp v outcome regs before 0 k Forced c
    forced (Probe i) c w =
        let kept = kept_read layout image past control turns old new lp (Probe i) outcome regs c in
        absurd (other_step (Probe i) c (reads_of layout control.phase control.queue c.before kept.frame (guard_frame layout)) (w kept.frame (guard_frame layout) kept.reads tt) (λ k v e. cc))
    forced Finish c w =
        let kept = kept_read layout image past control turns old new lp Finish outcome regs c in
        absurd (other_step Finish c (reads_of layout control.phase control.queue c.before kept.frame (guard_frame layout)) (w kept.frame (guard_frame layout) kept.reads tt) (λ k v e. cc))
    forced Guard c w =
        let kept = kept_read layout image past control turns old new lp Guard outcome regs c in
        absurd (other_step Guard c (reads_of layout control.phase control.queue c.before kept.frame (guard_frame layout)) (w kept.frame (guard_frame layout) kept.reads tt) (λ k v e. cc))
    forced (Leave b a) c w =
        let kept = kept_read layout image past control turns old new lp (Leave b a) outcome regs c in
        absurd (other_step (Leave b a) c (reads_of layout control.phase control.queue c.before kept.frame (guard_frame layout)) (w kept.frame (guard_frame layout) kept.reads tt) (λ k v e. cc))

  -- ---- A dead enclave

  module _ (dead : control.phase ≡ Dead) (cause : StopCause) (dies : outcome ≡ RtTurn.Dead cause) where
    dead_row : (context : Context) (c : At context) (r : Reads) → r.phase ≡ control.phase → Performs layout (row_of layout r before context) c.before c.after outcome regs → ⊥
    dead_row context c r same shown = dead_never layout r cause before context (same ∙ dead) (end_is layout (row_of layout r before context).ends outcome regs cause shown.ends dies)

    pub once : (context : Context) (c : At context) → Works context c → ⊥
    once Program c w = absurd c.step
    once (Enter k v) c w =
        let s = shown_entry layout image past control turns old new lp v outcome regs before 0 k c w in
        let ends : (entry_row layout s.reads k v control.phase).ends ≡ DiesOf cause = end_is layout (entry_row layout s.reads k v control.phase).ends outcome regs cause s.shown.ends dies in
        let here : (entry_row layout s.reads k v Dead).ends ≡ DiesOf cause = ap (λ p. (entry_row layout s.reads k v p).ends) (sym dead) ∙ ends in cc
    once (Probe i) c w =
        let kept = kept_read layout image past control turns old new lp (Probe i) outcome regs c in
        dead_row (Probe i) c (reads_of layout control.phase control.queue c.before kept.frame (guard_frame layout)) refl (w kept.frame (guard_frame layout) kept.reads tt)
    once Finish c w =
        let kept = kept_read layout image past control turns old new lp Finish outcome regs c in
        dead_row Finish c (reads_of layout control.phase control.queue c.before kept.frame (guard_frame layout)) refl (w kept.frame (guard_frame layout) kept.reads tt)
    once Guard c w =
        let kept = kept_read layout image past control turns old new lp Guard outcome regs c in
        dead_row Guard c (reads_of layout control.phase control.queue c.before kept.frame (guard_frame layout)) refl (w kept.frame (guard_frame layout) kept.reads tt)
    once (Leave b a) c w =
        let kept = kept_read layout image past control turns old new lp (Leave b a) outcome regs c in
        dead_row (Leave b a) c (reads_of layout control.phase control.queue c.before kept.frame (guard_frame layout)) refl (w kept.frame (guard_frame layout) kept.reads tt)
