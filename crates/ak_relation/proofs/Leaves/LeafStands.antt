-- The relation after a leaf: the tables and fewer copies are all that a leaf has to show.
use Rattle.std.proofs.Math.Path.{fun_ext}
use Rattle.std.proofs.Common.{◌≡◌, ℕ, ◌≤◌, List, [], ◌∷◌, length, arith, refl, ap, sym, ◌∙◌, subst}
use Rattle.std.specs.Prelude.{true, is_some}
use Rattle.std.specs.List.{list_any}
use Rattle.ak_core.specs.Layout.{Layout}
use Rattle.ak_model.specs.Paging.Histories.{History, Pair}
use Rattle.ak_model.specs.Paging.Inside.{since, inside, processors}
use Rattle.ak_model.specs.Control.ControlState.{Control}
use Rattle.ak_model.specs.Laws.Orderly.{IsOrderly}
use Rattle.ak_model.specs.Sound.Forced.{queue_by}
use Rattle.ak_model.specs.Tapes.ProgramTurns.{ProgramTurn}
use Rattle.ak_relation.specs.State.MachineState.{State}
use Rattle.ak_relation.specs.Program.Reaching.{StaysBy, ReachedStands}
use Rattle.ak_relation.specs.Relation.Stands.{runs_at, copies_at, RegistersStand, BytesStand, Stands}
use Rattle.ak_model.specs.Laws.EarlierTurns.{AreEarlier}
use Rattle.ak_relation.specs.Program.Turns.{LawsStand}
use Rattle.ak_relation.specs.Premises.Leaves.{LeafKeeps}
use Rattle.ak_relation.proofs.Leaves.Fewer.{copies-fewer, breaks-fewer}
use Rattle.ak_relation.proofs.Program.Staying.{stays-more}

-- turns of earlier histories stay so
pub earlier_more : (n m : ℕ) (turns : List ProgramTurn) → n ≤ m → AreEarlier n turns → AreEarlier m turns
earlier_more n m [] le h = tt
earlier_more n m (turn ∷ older) le h = let low = h.1 in (h.0, omega arith, earlier_more n m older le h.2)

module _ (layout : Layout) (image : List ℕ) (past : History) (pair : Pair) (control : Control) (turns : List ProgramTurn) (old new : State) (keeps : LeafKeeps layout past pair old new) where
  same_inside : inside (pair ∷ past) ≡ inside past
  same_inside = fun_ext (λ lp. ap is_some (keeps.since_is lp))

  laws : LawsStand layout past control turns → LawsStand layout (pair ∷ past) control turns
  laws h = record {
    orderly = subst (λ f. IsOrderly layout (queue_by layout turns) (list_any f (processors layout)) control) (sym same_inside) h.orderly;
    present = record {
      alone = λ p q a b. h.present.alone p q (subst (λ f. f p ≡ true) same_inside a) (subst (λ f. f q ≡ true) same_inside b);
      context = λ p a. h.present.context p (subst (λ f. f p ≡ true) same_inside a);
      someone = λ a. subst (λ f. list_any f (processors layout) ≡ true) (sym same_inside) (h.present.someone a);
    };
    fresh = h.fresh;
    taken = h.taken;
    earlier = earlier_more (length past) (length (pair ∷ past)) turns (omega arith) h.earlier;
    answered = h.answered;
    going = h.going;
  }

  bytes : BytesStand layout image control (copies_at layout past old) old.processors → BytesStand layout image control (copies_at layout (pair ∷ past) new) new.processors
  bytes h = record {
    flat = h.flat;
    program = h.program;
    pages = copies-fewer layout (copies_at layout (pair ∷ past) new) (copies_at layout past old) keeps.copies control.phase control.queue control.stack control.pending h.flat h.pages;
    registers = subst (λ all. RegistersStand layout control h.flat all) (sym keeps.processors) h.registers;
  }

  reached : ReachedStands layout (runs_at layout image control) past control turns old.processors (copies_at layout past old) →
      ReachedStands layout (runs_at layout image control) (pair ∷ past) control turns new.processors (copies_at layout (pair ∷ past) new)
  reached h = record {
    stays = λ lp.
        subst (λ all. StaysBy layout (runs_at layout image control) (pair ∷ past) control turns lp (all lp) (since (pair ∷ past) lp)) (sym keeps.processors)
        (subst (λ o. StaysBy layout (runs_at layout image control) (pair ∷ past) control turns lp (old.processors lp) o) (sym (keeps.since_is lp))
        (stays-more layout past pair (runs_at layout image control) control turns lp (old.processors lp) (since past lp) refl (keeps.since_is lp) keeps.opened (h.stays lp)));
    breaks = breaks-fewer layout (copies_at layout (pair ∷ past) new) (copies_at layout past old) keeps.copies (runs_at layout image control) turns control.stack h.breaks;
  }

  -- the relation after a leaf
  pub leaf_stands : Stands layout image (record { past = past; control = control; turns = turns; state = old }) →
      Stands layout image (record { past = pair ∷ past; control = control; turns = turns; state = new })
  leaf_stands h = record {
    inputs = h.inputs;
    tape = h.tape;
    turns = h.turns;
    laws = laws h.laws;
    counted = keeps.count ∙ h.counted;
    queued = keeps.queue ∙ h.queued;
    tables = keeps.tables;
    bytes = bytes h.bytes;
    reached = reached h.reached;
  }
