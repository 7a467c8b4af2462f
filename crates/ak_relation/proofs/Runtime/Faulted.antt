-- A step of the runtime that faults, in any context: its own context is saved, and resuming is refused. With a third one saved the
-- enclave is stuck. The whole relation stands after it.
use Rattle.std.proofs.Common.{◌≡◌, ℕ, ◌≤◌, List, [], ◌∷◌, length, refl, ap, sym, ◌∙◌, subst, arith}
use Rattle.std.proofs.lemmas.Bool.{eqb-true}
use Rattle.std.specs.Prelude.{Bool, true, false, ◌||◌, not, Some, None, is_some, ◌==◌}
use Rattle.ak_core.specs.Layout.{Layout}
use Rattle.ak_core.specs.Mem.{Access}
use Rattle.ak_core.specs.declared.page.Lp.{Lp}
use Rattle.ak_core.specs.declared.moves.Move.TheVariants.{Run}
use Rattle.ak_core.specs.declared.moves.Answer.{Answer}
use Rattle.ak_core.specs.declared.registers.Mode.{Mode}
use Rattle.ak_model.specs.Paging.Pages.{tcs_page, ssa_page}
use Rattle.ak_model.specs.Paging.Histories.{History}
use Rattle.ak_model.specs.Paging.Holdings.{VaFrame, PageFrame}
use Rattle.ak_model.specs.Paging.Frames.{held}
use Rattle.ak_model.specs.Paging.Inside.{since, inside}
use Rattle.ak_model.specs.Control.ControlState.{Context, Program, Enter, Probe, Finish, Guard, Leave, Faulted, Saved, Control}
use Rattle.ak_model.specs.Control.RuntimeTurn.{save, stuck_cause, shown_fault, fault}
use Rattle.ak_model.specs.Control.Runs.{turn}
use Rattle.ak_model.specs.Tapes.ProgramTurns.{ProgramTurn}
use Rattle.ak_model.specs.Laws.Orderly.{after_miss_if, NowFits, is_live}
use Rattle.ak_model.proofs.Control.OrderlySteps.{ClustersFit}
use Rattle.ak_ssa.specs.SavedFrames.{ByPage}
use Rattle.ak_relation.specs.State.MachineState.{State}
use Rattle.ak_pager.specs.Contexts.{Gives, GivesNow, reason_for, IsNoted}
use Rattle.ak_model.specs.Laws.OwedAnswers.{oldest, owing_by}
use Rattle.ak_relation.specs.Program.FlatPlaces.{IsAtBy}
use Rattle.ak_relation.specs.Program.Turns.{is_last}
use Rattle.ak_relation.specs.Program.Reaching.{StaysBy, IsStaying}
use Rattle.ak_relation.specs.Relation.Stands.{runs_at, Stands}
use Rattle.ak_relation.specs.Premises.Saving.{missed_in, Saves}
use Rattle.ak_relation.specs.Premises.Works.{IsStep, KeepsTables, Quits}
use Rattle.ak_relation.specs.Relation.Does.{at_moment}
use Rattle.ak_model.proofs.Tapes.Calls.{oldest_saved}
use Rattle.ak_model.specs.Control.OneTurn.{Leaves}
use Rattle.ak_relation.proofs.Program.TurnWords.{inputs_with, turned_words}
use Rattle.ak_relation.proofs.Program.OwnWords.{saved_fits}
use Rattle.ak_relation.proofs.Exits.SavedPages.{pages_after, older_breaks}
use Rattle.ak_relation.proofs.Exits.Interrupted.{few_saved}
use Rattle.ak_relation.proofs.Exits.LeftTables.{tables_left, nobody_left, stays_left}
use Rattle.ak_relation.proofs.Runtime.StepLaws.{Keeps, laws_leaving}

-- the control state after it
abbrev pub faulted : Control → Context → Access → Control
faulted control context t = record (save control context (Faulted t)) { pending = true; cause = stuck_cause control t }

-- the oldest context is the last of the program just where it was
last_faulted : (stack : List Saved) (context : Context) (t : Access) → is_last (record { context = context; reason = Faulted t } ∷ stack) None ≡ is_last stack (Some context)
last_faulted [] context t = refl
last_faulted (saved ∷ older) context t = any saved older
  where
    any : (saved : Saved) (older : List Saved) → is_last (saved ∷ older) None ≡ is_last (saved ∷ older) (Some context)
    any saved [] = refl
    any saved (next ∷ older) = deeper next older
      where
        deeper : (next : Saved) (older : List Saved) → is_last (next ∷ older) None ≡ is_last (next ∷ older) (Some context)
        deeper next [] = refl
        deeper next (last ∷ older) = deeper last older

-- what is noted of the fault of a step gives its reason
noted_fault : (layout : Layout) (queue : List ℕ) (context : Context) (t : Access) → IsStep context → reason_for layout queue context t ≡ Faulted t
noted_fault layout queue Program t s = absurd s
noted_fault layout queue (Enter k v) t s = refl
noted_fault layout queue (Probe i) t s = refl
noted_fault layout queue Finish t s = refl
noted_fault layout queue Guard t s = refl
noted_fault layout queue (Leave b a) t s = refl

module _ (layout : Layout) (fit : ClustersFit layout) (image : List ℕ) (past : History) (control : Control) (turns : List ProgramTurn) (old new : State) (lp : Lp) (place all : ℕ) (context : Context)
    (h : Stands layout image (at_moment past control turns old)) (is : since past lp.0 ≡ Some place) (step : IsStep context) (now : control.now ≡ Some context) (t : Access)
    (turned : turn layout past control ≡ fault layout control context t) (s : Saves layout lp.0 (length control.stack) true (ByPage t) old new)
    (mode : (old.processors lp.0).regs.mode ≡ Mode.Runtime) where
  -- the history after the run
  abbrev after : History
  after = (Run lp all, Answer.Exit (shown_fault layout)) ∷ past

  within : inside past lp.0 ≡ true
  within = ap is_some is

  stay : IsStaying layout (runs_at layout image control) past control turns lp.0 (old.processors lp.0) place
  stay = subst (StaysBy layout (runs_at layout image control) past control turns lp.0 (old.processors lp.0)) is (h.reached.stays lp.0)

  va_apart : (va f p : ℕ) → held layout past va ≡ VaFrame → held layout past f ≡ PageFrame p → (b : Bool) → (va == f) ≡ b → b ≡ false
  va_apart va f p v e false x = refl
  va_apart va f p v e true x = absurd (let clash : VaFrame ≡ PageFrame p = sym v ∙ ap (held layout past) (eqb-true va f x) ∙ e in cc)

  tables : KeepsTables layout past old new
  tables = record {
    slots = λ g v. s.frames g (va_apart g (old.processors lp.0).tcs (tcs_page layout) v stay.tcs.frame.holds _ refl) (va_apart g (old.processors lp.0).ssa (ssa_page layout (length control.stack)) v stay.area.frame.holds _ refl);
    whole = s.whole;
    entries = s.entries;
    stamps = s.stamps;
    sealed_pages = s.sealed_pages;
    next = s.next;
    table = s.table;
    count = s.count;
    queue = s.queue ∙ ap (λ mode. after_miss_if layout old.queue (missed_in layout old.queue (ByPage t) mode)) mode;
  }

  quits : Quits lp.0 old new
  quits = record { left = s.left; flushed = s.flushed; others = s.others; track = s.track }

  nobody : (q : ℕ) → since after q ≡ None
  nobody = nobody_left layout past (Run lp all) (Answer.Exit (shown_fault layout)) lp.0 (shown_fault layout) refl control h.laws.present within

  -- what it keeps of the laws
  pub keeps : Keeps control (faulted control context t) turns
  keeps = record {
    count = refl;
    rest = refl;
    fresh = h.laws.fresh;
    going = λ live. ap (λ b. not (is_live control.phase) || b) (ap (is_last control.stack) now ∙ sym (last_faulted control.stack context t)) ∙ live;
  }

  few : length control.stack ≤ 2
  few = few_saved layout control.phase (length control.stack) context (subst (NowFits layout control.phase control.stack) now h.laws.orderly.now)

  noted : IsNoted layout control.queue context (Faulted t) (ByPage t)
  noted = record { access = t; noted = refl; gives = noted_fault layout control.queue context t step }

  gives : Gives layout control.phase h.bytes.flat context (old.processors lp.0).regs
  gives = subst (λ x. GivesNow layout control.phase h.bytes.flat x (old.processors lp.0).regs) now
      (h.bytes.registers.given lp.0 (h.tables.presence.within lp.0 ∙ within))

  -- the relation after the fault
  pub faulted_stands : Stands layout image (at_moment after (faulted control context t) turns new)
  faulted_stands = record {
    inputs = inputs_with layout image control h.inputs (faulted control context t) (turned_words layout image control h.inputs past (Leaves (shown_fault layout) (faulted control context t)) turned);
    tape = h.tape;
    turns = h.turns;
    laws = laws_leaving layout fit past control turns h.laws lp.0 within context step now (Run lp all, Answer.Exit (shown_fault layout)) (shown_fault layout) (faulted control context t) turned refl nobody keeps;
    counted = tables.count ∙ h.counted;
    queued = tables.queue ∙ h.queued;
    tables = tables_left layout past (Run lp all) (Answer.Exit (shown_fault layout)) lp.0 (shown_fault layout) refl old new h.tables tables quits;
    bytes = record {
      flat = h.bytes.flat;
      program = subst (λ o. IsAtBy o layout image control.returned control.count h.bytes.flat)
          (ap (λ x. owing_by control.phase (oldest control.stack x)) now ∙ sym (ap (owing_by control.phase) (oldest_saved control.stack context (Faulted t)))) h.bytes.program;
      pages = pages_after layout past old new lp.0 (length control.stack) true (ByPage t) h.tables s stay.tcs.frame.holds stay.area.frame.holds
          control.phase control.queue h.bytes.flat control.stack control.pending context (Faulted t) refl few
          (saved_fits layout image past control turns old h lp.0 place is (length control.stack) true (ByPage t) new s) noted gives h.bytes.pages;
      registers = record { given = λ q i. tt };
    };
    reached = record {
      stays = λ q. stays_left layout past (Run lp all) (Answer.Exit (shown_fault layout)) lp.0 (shown_fault layout) refl control h.laws.present within
          (runs_at layout image control) turns old new (faulted control context t) quits h.reached.stays q (runs_at layout image control);
      breaks = (
        tt,
        older_breaks layout past old new lp.0 (length control.stack) true (ByPage t) h.tables s stay.tcs.frame.holds stay.area.frame.holds
            (runs_at layout image control) turns control.stack (omega arith) h.reached.breaks,
      );
    };
  }
