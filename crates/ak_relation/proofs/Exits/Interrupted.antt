-- The relation after an interrupt of a processor that is inside.
use Rattle.std.proofs.Common.{◌≡◌, ℕ, ◌*◌, ◌≤◌, List, [], ◌∷◌, length, refl, ap, sym, ◌∙◌, subst, arith}
use Rattle.std.proofs.lemmas.Bool.{eqb-true, eqb-false, lt-ltb}
use Rattle.std.specs.Prelude.{Bool, true, false, ◌||◌, not, nat_lt, Option, Some, None, is_some, ◌==◌, if◌then◌else◌}
use Rattle.ak_core.specs.Layout.{Layout}
use Rattle.ak_core.specs.declared.page.Lp.{Lp}
use Rattle.ak_core.specs.declared.moves.Move.TheVariants.{Interrupt}
use Rattle.ak_core.specs.declared.moves.Answer.TheVariants.{Ok}
use Rattle.ak_model.specs.Paging.Histories.{History}
use Rattle.ak_model.specs.Paging.Pages.{tcs_page, ssa_page}
use Rattle.ak_model.specs.Paging.Frames.{held, blocked_at}
use Rattle.ak_model.specs.Paging.Handles.{live, page_of}
use Rattle.ak_model.specs.Paging.Holdings.{VaFrame, PageFrame}
use Rattle.ak_model.specs.Paging.Inside.{since, inside, someone_inside}
use Rattle.ak_model.specs.Control.ControlState.{Phase, Context, Program, Enter, Probe, Finish, Guard, Leave, Interrupted, Saved, Control}
use Rattle.ak_model.specs.Control.RuntimeTurn.{save}
use Rattle.ak_model.specs.Control.Entering.{interrupted_by}
use Rattle.ak_model.specs.Laws.Presence.{IsPresent}
use Rattle.ak_model.specs.Tapes.ProgramTurns.{ProgramTurn}
use Rattle.ak_model.specs.Sound.Forced.{queue_by}
use Rattle.ak_model.specs.Laws.Orderly.{ContextFits, NowFits, IsOrderly, is_live}
use Rattle.ak_model.proofs.Control.OrderlyMoves.{interrupt_fits}
use Rattle.ak_model.proofs.Control.OneInside.{interrupts}
use Rattle.ak_relation.specs.State.MachineState.{State}
use Rattle.ak_pager.specs.Contexts.{Gives, GivesNow}
use Rattle.ak_model.specs.Laws.OwedAnswers.{oldest, owing_by}
use Rattle.ak_relation.specs.Program.FlatPlaces.{IsAtBy}
use Rattle.ak_model.specs.Laws.Calls.{calls_by, IsAnswered}
use Rattle.ak_relation.specs.Program.Turns.{is_last, LawsStand}
use Rattle.ak_ssa.specs.SavedFrames.{NoCause}
use Rattle.ak_model.specs.Flat.Instructions.{number_at}
use Rattle.ak_track.specs.Steps.{LeavesBy}
use Rattle.ak_relation.specs.State.Tables.{EntriesStand, MappingStands, TablesStand, SealedPageAgrees}
use Rattle.ak_relation.specs.Program.Reaching.{StaysBy, IsStaying}
use Rattle.ak_relation.specs.Relation.Stands.{runs_at, Stands}
use Rattle.ak_relation.specs.Premises.Saving.{Saves}
use Rattle.ak_relation.specs.Relation.Does.{at_moment}
use Rattle.ak_model.proofs.Tapes.Calls.{oldest_saved}
use Rattle.ak_relation.specs.Program.Inputs.{BringsWordNow}
use Rattle.ak_model.proofs.Tapes.CallTurns.{interrupted-answered}
use Rattle.ak_relation.proofs.Program.TurnWords.{inputs_with}
use Rattle.ak_relation.proofs.Program.OwnWords.{saved_fits}
use Rattle.ak_relation.proofs.Leaves.LeafStands.{earlier_more}
use Rattle.ak_model.proofs.Paging.OpenFrames.{known-present}
use Rattle.ak_relation.proofs.Exits.SavedPages.{pages_after, older_breaks}
use Rattle.ak_model.specs.Paging.PageTable.{pte}

-- with a context inside, two are saved at most
pub few_saved : (layout : Layout) (phase : Phase) (d : ℕ) (context : Context) → ContextFits layout phase d context → d ≤ 2
few_saved layout phase d Program h = let e = h.0 in omega arith
few_saved layout phase d (Leave b a) h = let e = h.0 in omega arith
few_saved layout phase d (Enter k v) h = h.1
few_saved layout phase d (Probe i) h = let e = h.0 in omega arith
few_saved layout phase d Finish h = let e = h.0 in omega arith
few_saved layout phase d Guard h = let e = h.0 in omega arith

-- the oldest context is the last of the program just where it was
last_saved : (stack : List Saved) (context : Context) → is_last (record { context = context; reason = Interrupted } ∷ stack) None ≡ is_last stack (Some context)
last_saved [] context = refl
last_saved (saved ∷ older) context = any saved older
  where
    any : (saved : Saved) (older : List Saved) → is_last (saved ∷ older) None ≡ is_last (saved ∷ older) (Some context)
    any saved [] = refl
    any saved (next ∷ older) = deeper next older
      where
        deeper : (next : Saved) (older : List Saved) → is_last (next ∷ older) None ≡ is_last (next ∷ older) (Some context)
        deeper next [] = refl
        deeper next (last ∷ older) = deeper last older

module _ (layout : Layout) (image : List ℕ) (past : History) (control : Control) (turns : List ProgramTurn) (old new : State) (lp : Lp) (place : ℕ) (context : Context)
    (h : Stands layout image (at_moment past control turns old)) (is : since past lp.0 ≡ Some place) (now : control.now ≡ Some context)
    (s : Saves layout lp.0 (length control.stack) control.pending NoCause old new) where
  -- the history after the interrupt
  abbrev after : History
  after = (Interrupt lp, Ok) ∷ past

  -- the control state after it
  abbrev next : Control
  next = save control context Interrupted

  by_now : interrupted_by control control.now ≡ next
  by_now = ap (interrupted_by control) now

  stay : IsStaying layout (runs_at layout image control) past control turns lp.0 (old.processors lp.0) place
  stay = subst (StaysBy layout (runs_at layout image control) past control turns lp.0 (old.processors lp.0)) is (h.reached.stays lp.0)

  low : (p : ℕ) → inside past p ≡ true → nat_lt p layout.lps ≡ true
  low p i = lt-ltb p layout.lps (let known = known-present layout past control h.laws.present in known.low p i)

  laws : LawsStand layout after next turns
  laws =
      let p = interrupts layout past control low (record { alone = h.laws.present.alone; context = h.laws.present.context; someone_is = h.laws.present.someone }) lp.0 (ap is_some is) in
      record {
        orderly = subst (IsOrderly layout (queue_by layout turns) (someone_inside layout after)) by_now (interrupt_fits layout (queue_by layout turns) past control lp.0 h.laws.orderly);
        present = subst (λ c. IsPresent layout (record { past = after; control = c })) by_now (record { alone = p.alone; context = p.context; someone = p.someone_is });
        fresh = h.laws.fresh;
        taken = h.laws.taken;
        earlier = earlier_more (length past) (length after) turns (omega arith) h.laws.earlier;
        answered = subst (IsAnswered (calls_by turns)) by_now (interrupted-answered layout control (calls_by turns) h.laws.answered);
        going = λ live. h.laws.going (ap (λ b. not (is_live control.phase) || b) (ap (is_last control.stack) now ∙ sym (last_saved control.stack context)) ∙ live);
      }

  -- nobody is inside any more
  outside : (q : ℕ) (b : Bool) → (q == lp.0) ≡ b → (if b then None else since past q) ≡ None
  outside q true e = refl
  outside q false e = gone (since past q) refl
    where
      gone : (o : Option ℕ) → since past q ≡ o → o ≡ None
      gone None f = refl
      gone (Some x) f = absurd (eqb-false q lp.0 e (h.laws.present.alone q lp.0 (ap is_some f) (ap is_some is)))

  nobody : (q : ℕ) → since after q ≡ None
  nobody q = outside q (q == lp.0) refl

  present : (q : ℕ) (b : Bool) → (q == lp.0) ≡ b → (new.processors q).inside ≡ is_some (if b then None else since past q)
  present q true e = ap (λ x. (new.processors x).inside) (eqb-true q lp.0 e) ∙ s.left
  present q false e = ap (λ x. x.inside) (s.others q e) ∙ h.tables.presence.within q

  va_apart : (va f p : ℕ) → held layout past va ≡ VaFrame → held layout past f ≡ PageFrame p → (b : Bool) → (va == f) ≡ b → b ≡ false
  va_apart va f p v e false t = refl
  va_apart va f p v e true t = absurd (let clash : VaFrame ≡ PageFrame p = sym v ∙ ap (held layout past) (eqb-true va f t) ∙ e in cc)

  tables : TablesStand layout after new
  tables = record {
    entries = subst (λ all. EntriesStand layout all (held layout past) (blocked_at past)) (sym s.entries) h.tables.entries;
    slots = record {
      versions = λ va i v lt.
          ap (λ bytes. number_at bytes (8 * i) 8)
          (s.frames va (va_apart va (old.processors lp.0).tcs (tcs_page layout) v stay.tcs.frame.holds _ refl) (va_apart va (old.processors lp.0).ssa (ssa_page layout (length control.stack)) v stay.area.frame.holds _ refl))
          ∙ h.tables.slots.versions va i v lt;
    };
    sealed_pages = record {
      sealed_page = λ k. subst (λ all. SealedPageAgrees layout (all k) (live layout past k) (page_of layout past k)) (sym s.sealed_pages) (h.tables.sealed_pages.sealed_page k);
      numbered = s.next ∙ h.tables.sealed_pages.numbered;
    };
    mapping = subst (λ table. MappingStands layout table (pte layout past)) (sym s.table) h.tables.mapping;
    presence = record { within = λ q. present q (q == lp.0) refl };
    tracking = record {
      built = h.tables.tracking.built;
      steps_are = s.track ∙ ap (λ steps. LeavesBy lp.0 ∷ steps) h.tables.tracking.steps_are;
      stamped = λ f t e. ap (λ all. all f) s.stamps ∙ h.tables.tracking.stamped f t e;
    };
    frames = record { whole = s.whole };
    one_copy = h.tables.one_copy;
  }

  few : length control.stack ≤ 2
  few = few_saved layout control.phase (length control.stack) context (subst (NowFits layout control.phase control.stack) now h.laws.orderly.now)

  gives : Gives layout control.phase h.bytes.flat context (old.processors lp.0).regs
  gives = subst (λ x. GivesNow layout control.phase h.bytes.flat x (old.processors lp.0).regs) now
      (h.bytes.registers.given lp.0 (h.tables.presence.within lp.0 ∙ ap is_some is))

  -- the relation after the interrupt
  pub interrupted_stands : Stands layout image (at_moment after next turns new)
  interrupted_stands = record {
    inputs = inputs_with layout image control h.inputs next (let words = h.inputs.words in record { returned = words.returned; saved = (subst BringsWordNow now words.now, words.saved); now = tt });
    tape = h.tape;
    turns = h.turns;
    laws = laws;
    counted = s.count ∙ h.counted;
    queued = s.queue ∙ h.queued;
    tables = tables;
    bytes = record {
      flat = h.bytes.flat;
      program = subst (λ o. IsAtBy o layout image control.returned control.count h.bytes.flat)
          (ap (λ x. owing_by control.phase (oldest control.stack x)) now ∙ sym (ap (owing_by control.phase) (oldest_saved control.stack context Interrupted))) h.bytes.program;
      pages = pages_after layout past old new lp.0 (length control.stack) control.pending NoCause h.tables s stay.tcs.frame.holds stay.area.frame.holds
          control.phase control.queue h.bytes.flat control.stack control.pending context Interrupted refl few
          (saved_fits layout image past control turns old h lp.0 place is (length control.stack) control.pending NoCause new s) refl gives h.bytes.pages;
      registers = record { given = λ q within. tt };
    };
    reached = record {
      stays = λ q. subst (StaysBy layout (runs_at layout image control) after next turns q (new.processors q)) (sym (nobody q)) (flushed q (q == lp.0) refl);
      breaks = (
        tt,
        older_breaks layout past old new lp.0 (length control.stack) control.pending NoCause h.tables s stay.tcs.frame.holds stay.area.frame.holds
            (runs_at layout image control) turns control.stack (omega arith) h.reached.breaks,
      );
    };
  }
    where
      flushed : (q : ℕ) (b : Bool) → (q == lp.0) ≡ b → (new.processors q).fills ≡ []
      flushed q true e = ap (λ x. (new.processors x).fills) (eqb-true q lp.0 e) ∙ s.flushed
      flushed q false e = ap (λ x. x.fills) (s.others q e) ∙ none (since past q) refl (h.reached.stays q)
        where
          none : (o : Option ℕ) → since past q ≡ o → StaysBy layout (runs_at layout image control) past control turns q (old.processors q) o → (old.processors q).fills ≡ []
          none None f k = k
          none (Some x) f k = absurd (eqb-false q lp.0 e (h.laws.present.alone q lp.0 (ap is_some f) (ap is_some is)))
