-- The relation after a turn in which the program is left with an event.
use Rattle.std.proofs.Common.{◌≡◌, ℕ, ◌*◌, List, [], ◌∷◌, length, refl, ap, sym, ◌∙◌, subst, arith}
use Rattle.std.proofs.lemmas.Bool.{eqb-true, eqb-false}
use Rattle.std.specs.Prelude.{Bool, true, false, Option, Some, None, is_some, ◌==◌, if◌then◌else◌}
use Rattle.ak_core.specs.Layout.{Layout}
use Rattle.ak_core.specs.declared.page.Lp.{Lp}
use Rattle.ak_core.specs.declared.event.Event.{Event}
use Rattle.ak_core.specs.declared.moves.Move.TheVariants.{Run}
use Rattle.ak_core.specs.declared.moves.Answer.{Answer}
use Rattle.ak_model.specs.Paging.Pages.{tcs_page, ssa_page}
use Rattle.ak_model.specs.Paging.Histories.{History}
use Rattle.ak_model.specs.Paging.Holdings.{VaFrame, PageFrame}
use Rattle.ak_model.specs.Paging.Frames.{held, blocked_at}
use Rattle.ak_model.specs.Paging.Handles.{live, page_of}
use Rattle.ak_model.specs.Paging.PageTable.{pte}
use Rattle.ak_model.specs.Paging.Inside.{since}
use Rattle.ak_model.specs.Control.ControlState.{Running, Program, Reason, Control}
use Rattle.ak_model.specs.Control.RuntimeTurn.{shown_fault}
use Rattle.ak_model.specs.Tapes.ProgramTurns.{ProgramTurn}
use Rattle.ak_relation.specs.State.MachineState.{State}
use Rattle.ak_pager.specs.Contexts.{Gives, GivesNow}
use Rattle.ak_model.specs.Laws.OwedAnswers.{oldest, owing_running, owing_by, owing}
use Rattle.ak_relation.specs.Program.FlatPlaces.{IsAtBy}
use Rattle.ak_relation.specs.Program.Turns.{events_by}
use Rattle.ak_ssa.specs.SavedFrames.{SavedCause}
use Rattle.ak_model.specs.Flat.Instructions.{number_at}
use Rattle.ak_track.specs.Steps.{LeavesBy}
use Rattle.ak_relation.specs.State.Tables.{EntriesStand, SealedPageAgrees, MappingStands, TablesStand}
use Rattle.ak_relation.specs.Program.Reaching.{StaysBy, IsForcedBy, BreaksStand}
use Rattle.ak_relation.specs.Relation.Stands.{runs_at, copies_at, Stands}
use Rattle.ak_relation.specs.Premises.Saving.{missed_in, Saves}
use Rattle.ak_core.specs.declared.registers.Mode.{Mode}
use Rattle.ak_core.specs.declared.registers.Regs.{Regs}
use Rattle.ak_model.specs.Sound.Forced.{queue_by}
use Rattle.ak_model.specs.Laws.Orderly.{after_miss_if, ServedBy}
use Rattle.ak_relation.proofs.Flat.FlatLaws.{program_form}
use Rattle.ak_relation.proofs.Program.TurnWords.{inputs_with}
use Rattle.ak_relation.proofs.Program.OwnWords.{saved_fits}
use Rattle.ak_relation.proofs.Program.ProgramTurns.{settled_at}
use Rattle.ak_relation.specs.Relation.Does.{at_moment}
use Rattle.ak_relation.proofs.Exits.TapeGrows.{tape-event}
use Rattle.ak_relation.proofs.Exits.SavedPages.{pages_after, area_copy}
use Rattle.ak_relation.proofs.Exits.Departing.{turn_with, departed, MayDepart, in_tcs, in_area, going, nobody, laws}

module _ (layout : Layout) (image : List ℕ) (past : History) (control : Control) (turns : List ProgramTurn) (old new : State) (lp : Lp) (place all : ℕ)
    (event : Event) (reason : Reason) (cause : SavedCause)
    (h : Stands layout image (at_moment past control turns old)) (is : since past lp.0 ≡ Some place) (now : control.now ≡ Some Program)
    (running : control.phase ≡ Running) (nothing : control.stack ≡ []) (s : Saves layout lp.0 0 true cause old new)
    (may : MayDepart layout (runs_at layout image control) lp.0 past control turns event reason cause) where
  -- the history after the run
  abbrev after : History
  after = (Run lp all, Answer.Exit (shown_fault layout)) ∷ past

  -- the turns with this one
  abbrev more : List ProgramTurn
  more = turn_with lp.0 past control event ∷ turns

  its_tcs : held layout past (old.processors lp.0).tcs ≡ PageFrame (tcs_page layout)
  its_tcs = in_tcs layout image past control turns old new lp place all event reason cause h is now running nothing s may

  its_area : held layout past (old.processors lp.0).ssa ≡ PageFrame (ssa_page layout 0)
  its_area = in_area layout image past control turns old new lp place all event reason cause h is now running nothing s may

  gone : (q : ℕ) → since after q ≡ None
  gone q = nobody layout image past control turns old new lp place all event reason cause h is now running nothing s may q

  -- ---- Tables

  present : (q : ℕ) (b : Bool) → (q == lp.0) ≡ b → (new.processors q).inside ≡ is_some (if b then None else since past q)
  present q true e = ap (λ x. (new.processors x).inside) (eqb-true q lp.0 e) ∙ s.left
  present q false e = ap (λ x. x.inside) (s.others q e) ∙ h.tables.presence.within q

  va_apart : (va f p : ℕ) → held layout past va ≡ VaFrame → held layout past f ≡ PageFrame p → (b : Bool) → (va == f) ≡ b → b ≡ false
  va_apart va f p v e false t = refl
  va_apart va f p v e true t = absurd (let clash : VaFrame ≡ PageFrame p = sym v ∙ ap (held layout past) (eqb-true va f t) ∙ e in cc)

  tables : TablesStand layout after new
  tables = record {
    entries = subst (λ entries. EntriesStand layout entries (held layout past) (blocked_at past)) (sym s.entries) h.tables.entries;
    slots = record {
      versions = λ va i v lt.
          ap (λ bytes. number_at bytes (8 * i) 8)
          (s.frames va (va_apart va (old.processors lp.0).tcs (tcs_page layout) v its_tcs _ refl) (va_apart va (old.processors lp.0).ssa (ssa_page layout 0) v its_area _ refl))
          ∙ h.tables.slots.versions va i v lt;
    };
    sealed_pages = record {
      sealed_page = λ k. subst (λ sealed_pages. SealedPageAgrees layout (sealed_pages k) (live layout past k) (page_of layout past k)) (sym s.sealed_pages) (h.tables.sealed_pages.sealed_page k);
      numbered = s.next ∙ h.tables.sealed_pages.numbered;
    };
    mapping = subst (λ table. MappingStands layout table (pte layout past)) (sym s.table) h.tables.mapping;
    presence = record { within = λ q. present q (q == lp.0) refl };
    tracking = record {
      built = h.tables.tracking.built;
      steps_are = s.track ∙ ap (λ steps. LeavesBy lp.0 ∷ steps) h.tables.tracking.steps_are;
      stamped = λ f t e. ap (λ stamps. stamps f) s.stamps ∙ h.tables.tracking.stamped f t e;
    };
    frames = record { whole = s.whole };
    one_copy = h.tables.one_copy;
  }

  -- ---- Bytes and breaks

  gives : Gives layout control.phase h.bytes.flat Program (old.processors lp.0).regs
  gives = subst (λ x. GivesNow layout control.phase h.bytes.flat x (old.processors lp.0).regs) now
      (h.bytes.registers.given lp.0 (h.tables.presence.within lp.0 ∙ ap is_some is))

  none_saved : length control.stack ≡ 0
  none_saved = ap length nothing

  settled : owing (departed control reason) ≡ owing control
  settled =
      ap (λ p. owing_by p (oldest (record { context = Program; reason = reason } ∷ control.stack) None)) running
      ∙ ap (λ stack. owing_by Running (oldest (record { context = Program; reason = reason } ∷ stack) None)) nothing
      ∙ sym (ap (λ p. owing_by p (oldest control.stack control.now)) running ∙ ap (λ stack. owing_by Running (oldest stack control.now)) nothing ∙ ap owing_running now)

  evidence : IsForcedBy layout (runs_at layout image control) more (Some (new.frames (old.processors lp.0).ssa)) reason
  evidence = may.evidence (old.processors lp.0).regs (new.frames (old.processors lp.0).ssa) s.area

  -- ---- The queue

  queue_is : control.queue ≡ queue_by layout turns
  queue_is =
      subst (λ stack. ServedBy layout (queue_by layout turns) Running control.queue stack) nothing
      (subst (λ p. ServedBy layout (queue_by layout turns) p control.queue control.stack) running h.laws.orderly.served)

  its_mode : (old.processors lp.0).regs.mode ≡ Mode.Program
  its_mode =
      let regs : GivesNow layout control.phase h.bytes.flat (Some Program) (old.processors lp.0).regs =
      subst (λ x. GivesNow layout control.phase h.bytes.flat x (old.processors lp.0).regs) now (h.bytes.registers.given lp.0 (h.tables.presence.within lp.0 ∙ ap is_some is)) in
      let form = program_form layout image control.returned control.count (record { flat = h.bytes.flat; answers = [] })
      (settled_at layout lp.0 old new control image h.bytes.flat now running nothing h.bytes.program) in
      ap (λ (r : Regs). r.mode) regs ∙ form.1

  queued : new.queue ≡ queue_by layout more
  queued =
      s.queue ∙ ap (λ queue. after_miss_if layout queue (missed_in layout queue cause (old.processors lp.0).regs.mode)) (h.queued ∙ sym queue_is)
      ∙ ap (λ mode. after_miss_if layout control.queue (missed_in layout control.queue cause mode)) its_mode
      ∙ ap (after_miss_if layout control.queue) may.miss ∙ may.served

  flushed : (q : ℕ) (b : Bool) → (q == lp.0) ≡ b → (new.processors q).fills ≡ []
  flushed q true e = ap (λ x. (new.processors x).fills) (eqb-true q lp.0 e) ∙ s.flushed
  flushed q false e = ap (λ x. x.fills) (s.others q e) ∙ none (since past q) refl (h.reached.stays q)
    where
      none : (o : Option ℕ) → since past q ≡ o → StaysBy layout (runs_at layout image control) past control turns q (old.processors q) o → (old.processors q).fills ≡ []
      none None f k = k
      none (Some x) f k = absurd (eqb-false q lp.0 e (h.laws.present.alone q lp.0 (ap is_some f) (ap is_some is)))

  -- the relation after the turn
  pub departed_stands : Stands layout image (at_moment after (departed control reason) more new)
  departed_stands = record {
    inputs = inputs_with layout image control h.inputs (departed control reason) (let words = h.inputs.words in record { returned = words.returned; saved = (tt, words.saved); now = tt });
    tape = tape-event layout (runs_at layout image control) control.count (events_by turns) event may.at
        (going layout image past control turns old new lp place all event reason cause h is now running nothing s may) may.missed may.forced h.tape;
    turns = (may.turn_stands, h.turns);
    laws = laws layout image past control turns old new lp place all event reason cause h is now running nothing s may;
    counted = s.count ∙ h.counted;
    queued = queued;
    tables = tables;
    bytes = record {
      flat = h.bytes.flat;
      program = subst (λ o. IsAtBy o layout image control.returned control.count h.bytes.flat) (sym settled) h.bytes.program;
      pages = pages_after layout past old new lp.0 0 true cause h.tables s its_tcs its_area
          control.phase control.queue h.bytes.flat control.stack control.pending Program reason none_saved (omega arith)
          (saved_fits layout image past control turns old h lp.0 place is 0 true cause new s) may.noted gives h.bytes.pages;
      registers = record { given = λ q within. tt };
    };
    reached = record {
      stays = λ q. subst (StaysBy layout (runs_at layout image control) after (departed control reason) more q (new.processors q)) (sym (gone q)) (flushed q (q == lp.0) refl);
      breaks = (
        subst (λ n. IsForcedBy layout (runs_at layout image control) more (copies_at layout past new (ssa_page layout n)) reason) (sym none_saved)
            (subst (λ o. IsForcedBy layout (runs_at layout image control) more o reason) (sym (area_copy layout past old new lp.0 0 true cause h.tables s its_tcs its_area)) evidence),
        subst (BreaksStand layout (runs_at layout image control) more (copies_at layout past new)) (sym nothing) tt,
      );
    };
  }
