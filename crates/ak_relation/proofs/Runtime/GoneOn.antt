-- The relation after a step of the runtime that goes on: all that its row does not say.
use Rattle.std.proofs.Common.{◌≡◌, ℕ, ◌*◌, List, ◌++◌, length, refl, ap, sym, ◌∙◌, subst}
use Rattle.std.proofs.lemmas.Bool.{eqb-true, eqb-false}
use Rattle.std.specs.Prelude.{Bool, true, false, Option, Some, None, is_some, ◌==◌}
use Rattle.ak_core.specs.Layout.{Layout}
use Rattle.ak_core.specs.declared.registers.Regs.{Regs}
use Rattle.ak_model.specs.Paging.Histories.{History}
use Rattle.ak_model.specs.Paging.Frames.{held, blocked_at}
use Rattle.ak_model.specs.Paging.Handles.{live, page_of}
use Rattle.ak_model.specs.Paging.PageTable.{pte}
use Rattle.ak_model.specs.Paging.Inside.{since}
use Rattle.ak_model.specs.Flat.FlatRuns.{flat_run}
use Rattle.ak_model.specs.Control.ControlState.{Context, Control}
use Rattle.ak_model.specs.Control.OneTurn.{Goes}
use Rattle.ak_model.specs.Control.Runs.{turn}
use Rattle.ak_model.specs.Tapes.LastMoment.{FlatRuns}
use Rattle.ak_model.specs.Tapes.ProgramTurns.{ProgramTurn, turn_at}
use Rattle.ak_model.proofs.Control.OrderlySteps.{ClustersFit}
use Rattle.ak_relation.specs.State.MachineState.{State}
use Rattle.ak_relation.specs.Program.Turns.{events_by, TapeStands, TurnsStand}
use Rattle.ak_model.specs.Flat.Instructions.{number_at}
use Rattle.ak_relation.specs.State.Tables.{EntriesStand, SealedPageAgrees, MappingStands, TablesStand}
use Rattle.ak_relation.specs.Program.Reaching.{AreReached, CachesGranted, granted_to, HoldsTcs, HoldsArea, StaysBy, IsStaying, BreaksStand}
use Rattle.ak_relation.specs.Relation.Stands.{runs_at, copies_at, BytesStand, Stands}
use Rattle.ak_relation.specs.Premises.Works.{IsStep, KeepsTables, GoesOn}
use Rattle.ak_relation.specs.Relation.Does.{at_moment}
use Rattle.ak_model.proofs.Misses.Granted.{granted-same}
use Rattle.ak_relation.proofs.Program.TurnWords.{inputs_with, turned_words}
use Rattle.ak_relation.proofs.Program.LongerTurns.{all_come, granted-longer, turns-longer, tape-longer}
use Rattle.ak_relation.proofs.Runtime.StepLaws.{Keeps, laws_going}

-- the tables, where the processor stays inside
pub tables_kept : (layout : Layout) (past : History) (lp : ℕ) (regs : Regs) (old new : State) → TablesStand layout past old → KeepsTables layout past old new → GoesOn lp regs old new → TablesStand layout past new
tables_kept layout past lp regs old new h k g = record {
  entries = subst (λ all. EntriesStand layout all (held layout past) (blocked_at past)) (sym k.entries) h.entries;
  slots = record { versions = λ va i v lt. ap (λ bytes. number_at bytes (8 * i) 8) (k.slots va v) ∙ h.slots.versions va i v lt };
  sealed_pages = record {
    sealed_page = λ j. subst (λ all. SealedPageAgrees layout (all j) (live layout past j) (page_of layout past j)) (sym k.sealed_pages) (h.sealed_pages.sealed_page j);
    numbered = k.next ∙ h.sealed_pages.numbered;
  };
  mapping = subst (λ table. MappingStands layout table (pte layout past)) (sym k.table) h.mapping;
  presence = record { within = λ q. present q (q == lp) refl };
  tracking = record {
    built = h.tracking.built;
    steps_are = g.track ∙ h.tracking.steps_are;
    stamped = λ f t x. ap (λ all. all f) k.stamps ∙ h.tracking.stamped f t x;
  };
  frames = record { whole = k.whole };
  one_copy = h.one_copy;
}
  where
    present : (q : ℕ) (b : Bool) → (q == lp) ≡ b → (new.processors q).inside ≡ is_some (since past q)
    present q true t = ap (λ x. (new.processors x).inside) (eqb-true q lp t) ∙ g.inside ∙ ap (λ x. (old.processors x).inside) (sym (eqb-true q lp t)) ∙ h.presence.within q
    present q false t = ap (λ x. x.inside) (g.others q t) ∙ h.presence.within q

module _ (layout : Layout) (fit : ClustersFit layout) (image : List ℕ) (past : History) (control : Control) (turns : List ProgramTurn) (old new : State) (lp place : ℕ) (context : Context) (regs : Regs)
    (h : Stands layout image (at_moment past control turns old)) (is : since past lp ≡ Some place) (step : IsStep context) (now : control.now ≡ Some context)
    (k : KeepsTables layout past old new) (g : GoesOn lp regs old new)
    (next : Control) (more : List ℕ) (grown : control.returned ++ more ≡ next.returned) (same_stack : next.stack ≡ control.stack) where
  -- the flat runs before and after
  abbrev before : FlatRuns
  before = runs_at layout image control

  abbrev longer : FlatRuns
  longer = flat_run layout image (control.returned ++ more)

  same_granted : granted_to layout longer lp past next turns ≡ granted_to layout before lp past control turns
  same_granted =
      granted-longer layout image control.returned more (turn_at lp past next) turns (all_come layout image control.returned more turns h.turns)
      ∙ granted-same layout before (turn_at lp past next) (turn_at lp past control) turns refl refl

  stay : IsStaying layout before past control turns lp (old.processors lp) place
  stay = subst (StaysBy layout before past control turns lp (old.processors lp)) is (h.reached.stays lp)

  staying : IsStaying layout longer past next turns lp (new.processors lp) place
  staying = record {
    fills = subst (AreReached layout past place) (sym g.fills) stay.fills;
    caches = subst (λ fills. CachesGranted fills (granted_to layout longer lp past next turns)) (sym g.fills)
        (subst (CachesGranted (old.processors lp).fills) (sym same_granted) stay.caches);
    tcs = subst (HoldsTcs layout past place) (sym g.tcs) stay.tcs;
    area = subst (HoldsArea layout past place (length next.stack)) (sym g.ssa)
        (subst (λ stack. HoldsArea layout past place (length stack) (old.processors lp).ssa) (sym same_stack) stay.area);
  }

  stays : (q : ℕ) (b : Bool) → (q == lp) ≡ b → StaysBy layout longer past next turns q (new.processors q) (since past q)
  stays q true t = subst (λ x. StaysBy layout longer past next turns x (new.processors x) (since past x)) (sym (eqb-true q lp t))
      (subst (StaysBy layout longer past next turns lp (new.processors lp)) (sym is) staying)
  stays q false t = away (since past q) refl (h.reached.stays q)
    where
      away : (o : Option ℕ) → since past q ≡ o → StaysBy layout before past control turns q (old.processors q) o → StaysBy layout longer past next turns q (new.processors q) o
      away None f s = ap (λ x. x.fills) (g.others q t) ∙ s
      away (Some x) f s = absurd (eqb-false q lp t (h.laws.present.alone q lp (ap is_some f) (ap is_some is)))

  -- the relation after the step, given its bytes
  pub gone_on : turn layout past control ≡ Goes next → is_some next.now ≡ true → Keeps control next turns → BytesStand layout image next (copies_at layout past new) new.processors →
      BreaksStand layout (runs_at layout image next) turns (copies_at layout past new) next.stack → Stands layout image (at_moment past next turns new)
  gone_on turned some keeps bytes breaks = record {
    inputs = inputs_with layout image control h.inputs next (turned_words layout image control h.inputs past (Goes next) turned);
    tape = subst (λ returned. TapeStands layout (flat_run layout image returned) next.count (events_by turns)) grown
        (subst (λ n. TapeStands layout longer n (events_by turns)) (sym keeps.count) (tape-longer layout image control.returned more control.count (events_by turns) h.tape));
    turns = subst (λ returned. TurnsStand layout (flat_run layout image returned) turns) grown (turns-longer layout image control.returned more turns h.turns);
    laws = laws_going layout fit past control turns h.laws lp (ap is_some is) context step now next turned some keeps;
    counted = k.count ∙ h.counted ∙ sym keeps.count;
    queued = k.queue ∙ h.queued;
    tables = tables_kept layout past lp regs old new h.tables k g;
    bytes = bytes;
    reached = record {
      stays = λ q. subst (λ returned. StaysBy layout (flat_run layout image returned) past next turns q (new.processors q) (since past q)) grown (stays q (q == lp) refl);
      breaks = breaks;
    };
  }
