-- The frames that a processor inside holds: by the EPCM they hold the TCS and the area, and the TCS says how many contexts are saved.
use Rattle.std.proofs.Common.{◌≡◌, ◌≢◌, ℕ, ◌≤◌, List, length, arith, refl, ap, sym, ◌∙◌, subst}
use Rattle.std.proofs.lemmas.Bool.{and_parts, eq-eqb, eqb-true}
use Rattle.std.specs.Prelude.{Bool, true, false, ◌&&◌, Option, Some, None, is_some, ◌==◌, if◌then◌else◌}
use Rattle.ak_core.specs.Layout.{Layout}
use Rattle.ak_core.specs.declared.page.Entry.{Entry}
use Rattle.ak_core.specs.declared.page.PageType.TheVariants.{Tcs, Reg}
use Rattle.ak_core.specs.declared.registers.Mode.{Mode}
use Rattle.ak_model.specs.Paging.Pages.{tcs_page, ssa_page}
use Rattle.ak_model.specs.Paging.Histories.{History}
use Rattle.ak_model.specs.Paging.Holdings.{Held, FreeFrame, SecsFrame, VaFrame, PageFrame}
use Rattle.ak_model.specs.Paging.Frames.{held, blocked_at}
use Rattle.ak_model.specs.Paging.Inside.{since, inside}
use Rattle.ak_model.specs.Control.ControlState.{Context, Control}
use Rattle.ak_model.specs.Flat.Instructions.{number_at}
use Rattle.ak_model.specs.Laws.Orderly.{NowFits}
use Rattle.ak_model.specs.Sound.Forced.{queue_by}
use Rattle.ak_model.specs.Tapes.ProgramTurns.{ProgramTurn}
use Rattle.ak_model.proofs.Control.OrderlyMoves.{three}
use Rattle.ak_epcm.specs.Entries.{entry_at, is_addressed, is_of_page, has_page}
use Rattle.ak_walk.specs.Agrees.{HoldsPage, EntryAgrees}
use Rattle.ak_pager.specs.RuntimePages.{OfCopy}
use Rattle.ak_relation.specs.State.MachineState.{State, copy}
use Rattle.ak_relation.specs.State.Tables.{TablesStand}
use Rattle.ak_relation.specs.Bytes.Pages.{IsTcs}
use Rattle.ak_relation.specs.Program.Reaching.{StaysBy, IsStaying}
use Rattle.ak_relation.specs.Relation.Stands.{runs_at, Stands}
use Rattle.ak_relation.specs.Relation.Does.{at_moment}
use Rattle.ak_relation.specs.Relation.HeldFrames.{HoldsFrames}
use Rattle.ak_relation.proofs.Exits.SavedPages.{page_is}
use Rattle.ak_relation.proofs.Exits.Interrupted.{few_saved}
use Rattle.ak_relation.proofs.Program.Seen.{none_saved}

-- ---- Entries of frames that hold a page

typed : (b : Bool) → is_addressed (if b then Tcs else Reg) ≡ true
typed true = refl
typed false = refl

all_true : (a b c : Bool) → a ≡ true → b ≡ true → c ≡ true → ((a && b) && c) ≡ true
all_true true true true e f g = refl
all_true false b c e f g = absurd (cc)
all_true true false c e f g = absurd (cc)
all_true true true false e f g = absurd (cc)

-- the entry of a frame that holds a page says so
pub holds_has : (layout : Layout) (entry : Entry) (p : ℕ) (blocked_since : Option ℕ) → HoldsPage layout entry p blocked_since → has_page entry p ≡ true
holds_has layout entry p blocked_since h =
    all_true entry.valid (is_addressed entry.kind) (entry.page.0 == p) h.valid (ap is_addressed h.kind ∙ typed (p == tcs_page layout)) (eq-eqb entry.page.0 p h.page)

-- and only such an entry
pub has_holds : (layout : Layout) (entry : Entry) (h : Held) (blocked_since : Option ℕ) (p : ℕ) → EntryAgrees layout entry h blocked_since → has_page entry p ≡ true → h ≡ PageFrame p
has_holds layout entry FreeFrame blocked_since p a has =
    let parts = and_parts (is_of_page entry) (entry.page.0 == p) has in let more = and_parts entry.valid (is_addressed entry.kind) parts.0 in
    absurd (let clash : true ≡ false = sym more.0 ∙ a in cc)
has_holds layout entry SecsFrame blocked_since p a has =
    let parts = and_parts (is_of_page entry) (entry.page.0 == p) has in let more = and_parts entry.valid (is_addressed entry.kind) parts.0 in
    absurd (let clash : true ≡ false = sym more.1 ∙ ap is_addressed a.kind in cc)
has_holds layout entry VaFrame blocked_since p a has =
    let parts = and_parts (is_of_page entry) (entry.page.0 == p) has in let more = and_parts entry.valid (is_addressed entry.kind) parts.0 in
    absurd (let clash : true ≡ false = sym more.1 ∙ ap is_addressed a.kind in cc)
has_holds layout entry (PageFrame q) blocked_since p a has =
    let parts = and_parts (is_of_page entry) (entry.page.0 == p) has in
    ap PageFrame (sym a.page ∙ eqb-true entry.page.0 p parts.1)

module _ (layout : Layout) (past : History) (state : State) (h : TablesStand layout past state) where
  -- a frame that holds a page has its entry
  pub frame_has : (f p : ℕ) → held layout past f ≡ PageFrame p → has_page (entry_at state.entries f) p ≡ true
  frame_has f p there =
      holds_has layout (entry_at state.entries f) p (blocked_at past f)
      (subst (λ k. EntryAgrees layout (entry_at state.entries f) k (blocked_at past f)) there (h.entries.entry f))

  -- and an entry of a page is that of a frame that holds it
  pub has_frame : (f p : ℕ) → has_page (entry_at state.entries f) p ≡ true → held layout past f ≡ PageFrame p
  has_frame f p has = has_holds layout (entry_at state.entries f) (held layout past f) (blocked_at past f) p (h.entries.entry f) has

two_frames : (layout : Layout) (past : History) (f g p q : ℕ) → held layout past f ≡ PageFrame p → held layout past g ≡ PageFrame q → p ≢ q → (f == g) ≡ false
two_frames layout past f g p q a b other = by_test (f == g) refl
  where
    by_test : (t : Bool) → (f == g) ≡ t → t ≡ false
    by_test false e = refl
    by_test true e = absurd (other (page_is p q (sym a ∙ ap (held layout past) (eqb-true f g e) ∙ b)))

-- ---- At a moment of the relation

module _ (layout : Layout) (image : List ℕ) (past : History) (control : Control) (turns : List ProgramTurn) (state : State) (h : Stands layout image (at_moment past control turns state)) where
  tcs_says : (f : ℕ) → held layout past f ≡ PageFrame (tcs_page layout) → IsTcs (length control.stack) control.pending (state.frames f)
  tcs_says f there =
      subst (λ o. OfCopy o (IsTcs (length control.stack) control.pending)) (ap (copy state) (h.tables.one_copy.placed (tcs_page layout) f there)) h.bytes.pages.tcs

  -- the TCS says that three contexts are saved at most
  pub three_saved : (f : ℕ) → has_page (entry_at state.entries f) (tcs_page layout) ≡ true → number_at (state.frames f) 24 4 ≤ 3
  three_saved f has =
      let says = tcs_says f (has_frame layout past state h.tables f (tcs_page layout) has) in
      let told : number_at (state.frames f) 24 4 ≡ length control.stack = says.saved_is in
      let few : length control.stack ≤ 3 = three layout (queue_by layout turns) control.phase control.queue control.stack h.laws.orderly.stack in
      omega arith

  module _ (lp : ℕ) (within : inside past lp ≡ true) where
    not_pending : control.pending ≡ false
    not_pending = by_flag control.pending refl
      where
        by_flag : (b : Bool) → control.pending ≡ b → b ≡ false
        by_flag false e = refl
        by_flag true e =
            absurd (let only = h.laws.orderly.pending_only e in let clash : true ≡ false = sym (h.laws.present.context lp within) ∙ only.0 in cc)

    few : (now : Option Context) → control.now ≡ now → is_some now ≡ true → length control.stack ≤ 2
    few None e some = absurd (cc)
    few (Some context) e some = few_saved layout control.phase (length control.stack) context (subst (NowFits layout control.phase control.stack) e h.laws.orderly.now)

    held_by : (o : Option ℕ) → since past lp ≡ o → HoldsFrames layout (length control.stack) state.entries state.frames (state.processors lp)
    held_by None e = absurd (let outside : inside past lp ≡ false = ap is_some e in let clash : true ≡ false = sym within ∙ outside in cc)
    held_by (Some place) e =
        let stay : IsStaying layout (runs_at layout image control) past control turns lp (state.processors lp) place =
        subst (StaysBy layout (runs_at layout image control) past control turns lp (state.processors lp)) e (h.reached.stays lp) in
        record {
          tcs = frame_has layout past state h.tables (state.processors lp).tcs (tcs_page layout) stay.tcs.frame.holds;
          area = frame_has layout past state h.tables (state.processors lp).ssa (ssa_page layout (length control.stack)) stay.area.frame.holds;
          apart = two_frames layout past (state.processors lp).tcs (state.processors lp).ssa (tcs_page layout) (ssa_page layout (length control.stack))
              stay.tcs.frame.holds stay.area.frame.holds (λ e. absurd (omega arith));
          few = few control.now refl (h.laws.present.context lp within);
          says = subst (λ b. IsTcs (length control.stack) b (state.frames (state.processors lp).tcs)) not_pending (tcs_says (state.processors lp).tcs stay.tcs.frame.holds);
        }

    -- the frames that it holds
    pub holds_frames : HoldsFrames layout (length control.stack) state.entries state.frames (state.processors lp)
    holds_frames = held_by (since past lp) refl

    program_by : (o : Option ℕ) → since past lp ≡ o → (state.processors lp).regs.mode ≡ Mode.Program → HoldsFrames layout 0 state.entries state.frames (state.processors lp)
    program_by None e mode = absurd (let outside : inside past lp ≡ false = ap is_some e in let clash : true ≡ false = sym within ∙ outside in cc)
    program_by (Some place) e mode =
        subst (λ n. HoldsFrames layout n state.entries state.frames (state.processors lp)) (ap length (none_saved layout image past control turns state lp place h e mode)) holds_frames

    -- in the program's mode nothing is saved
    pub program_frames : (state.processors lp).regs.mode ≡ Mode.Program → HoldsFrames layout 0 state.entries state.frames (state.processors lp)
    program_frames mode = program_by (since past lp) refl mode
