-- The relation after a run that left by a page fault is that after one which left by a vector: no scan looks at the exit.
use Rattle.std.proofs.Common.{◌≡◌, ℕ, List, ◌∷◌, sym, subst}
use Rattle.std.specs.Prelude.{Option, None}
use Rattle.ak_core.specs.Layout.{Layout}
use Rattle.ak_core.specs.declared.page.Lp.{Lp}
use Rattle.ak_core.specs.declared.moves.Move.TheVariants.{Run}
use Rattle.ak_core.specs.declared.moves.Answer.{Answer}
use Rattle.ak_core.specs.declared.moves.Exit.{Exit}
use Rattle.ak_model.specs.Paging.Histories.{History}
use Rattle.ak_model.specs.Paging.Inside.{since}
use Rattle.ak_model.specs.Control.ControlState.{Control}
use Rattle.ak_model.specs.Control.RuntimeTurn.{shown_fault}
use Rattle.ak_model.specs.Tapes.ProgramTurns.{ProgramTurn}
use Rattle.ak_relation.specs.State.MachineState.{State}
use Rattle.ak_relation.specs.Program.Reaching.{StaysBy}
use Rattle.ak_relation.specs.Relation.Stands.{runs_at, Stands}
use Rattle.ak_relation.specs.Relation.Does.{at_moment}

module _ (layout : Layout) (image : List ℕ) (past : History) (control : Control) (turns : List ProgramTurn) (state : State) (lp : Lp) (all v : ℕ) where
  -- the history with a page fault
  abbrev faulted : History
  faulted = (Run lp all, Answer.Exit (shown_fault layout)) ∷ past

  -- the history with a vector
  abbrev raised : History
  raised = (Run lp all, Answer.Exit (Exit.Vector v)) ∷ past

  -- where nobody is inside any more, the one is the other
  pub vector_stands : ((q : ℕ) → since faulted q ≡ None) → Stands layout image (at_moment faulted control turns state) → Stands layout image (at_moment raised control turns state)
  vector_stands nobody h = record {
    inputs = h.inputs;
    tape = h.tape;
    turns = h.turns;
    laws = record {
      orderly = h.laws.orderly;
      present = record { alone = h.laws.present.alone; context = h.laws.present.context; someone = h.laws.present.someone };
      fresh = h.laws.fresh;
      taken = h.laws.taken;
      earlier = h.laws.earlier;
      answered = h.laws.answered;
      going = h.laws.going;
    };
    counted = h.counted;
    queued = h.queued;
    tables = record {
      entries = h.tables.entries;
      slots = h.tables.slots;
      sealed_pages = h.tables.sealed_pages;
      mapping = h.tables.mapping;
      presence = h.tables.presence;
      tracking = h.tables.tracking;
      frames = h.tables.frames;
      one_copy = h.tables.one_copy;
    };
    bytes = h.bytes;
    reached = record { stays = λ q. stays q (since faulted q) (nobody q) (h.reached.stays q); breaks = h.reached.breaks };
  }
    where
      stays : (q : ℕ) (o : Option ℕ) → o ≡ None → StaysBy layout (runs_at layout image control) faulted control turns q (state.processors q) o →
          StaysBy layout (runs_at layout image control) raised control turns q (state.processors q) o
      stays q o e k =
          subst (StaysBy layout (runs_at layout image control) raised control turns q (state.processors q)) (sym e)
          (subst (StaysBy layout (runs_at layout image control) faulted control turns q (state.processors q)) e k)
