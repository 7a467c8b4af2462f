-- The laws of the control state after a step of the runtime: all that its row does not say, once for all rows.
use Rattle.std.proofs.Common.{◌≡◌, ℕ, ◌+◌, List, ◌∷◌, length, ap, sym, ◌∙◌, subst, arith}
use Rattle.std.specs.Prelude.{Bool, true, false, Some, None, is_some}
use Rattle.ak_core.specs.Layout.{Layout}
use Rattle.ak_core.specs.declared.moves.Exit.{Exit}
use Rattle.ak_model.specs.Paging.Histories.{History, Pair}
use Rattle.ak_model.specs.Paging.Inside.{since, inside, someone_inside}
use Rattle.ak_model.specs.Control.ControlState.{Context, Control}
use Rattle.ak_model.specs.Control.OneTurn.{Turn, Goes, Leaves}
use Rattle.ak_model.specs.Control.Runs.{turn}
use Rattle.ak_model.specs.Tapes.ProgramTurns.{ProgramTurn}
use Rattle.ak_model.specs.Sound.Forced.{queue_by}
use Rattle.ak_model.specs.Laws.Orderly.{after_turn, IsOrderly, TurnIsOrderly}
use Rattle.ak_model.proofs.Control.OrderlySteps.{ClustersFit}
use Rattle.ak_model.proofs.Control.OrderlyTurns.{turn_fits}
use Rattle.ak_model.specs.Laws.Calls.{calls_by, calls_now, TurnIsAnswered}
use Rattle.ak_relation.specs.Program.Turns.{events_by, IsFresh, has_ended, IsGoing, LawsStand}
use Rattle.ak_relation.specs.Premises.Works.{IsStep}
use Rattle.ak_model.proofs.Tapes.CallTurns.{turn-answered}
use Rattle.ak_relation.proofs.Leaves.LeafStands.{earlier_more}
use Rattle.ak_relation.proofs.Runtime.StepTurns.{no_call, no_miss}

-- what a row keeps of the laws that the table does not name
pub record Keeps (control next : Control) (turns : List ProgramTurn) : Type 0 where
  pub count : next.count ≡ control.count
  pub rest : next.rest ≡ control.rest
  pub fresh : IsFresh next.phase next.count next.returned turns
  pub going : has_ended next ≡ false → has_ended control ≡ false

-- with nobody inside, it does not matter whether someone was
empty_orderly : (layout : Layout) (so_far : List ℕ) (someone : Bool) (next : Control) → next.now ≡ None → IsOrderly layout so_far false next → IsOrderly layout so_far someone next
empty_orderly layout so_far someone next none o = record {
  stack = o.stack;
  now = o.now;
  inside = λ i. absurd (let n : is_some next.now ≡ false = ap is_some none in cc);
  phase = o.phase;
  queue = o.queue;
  served = o.served;
  tape = o.tape;
  pending_only = o.pending_only;
  pending_if = o.pending_if;
  stuck = o.stuck;
}

module _ (layout : Layout) (fit : ClustersFit layout) (past : History) (control : Control) (turns : List ProgramTurn) (h : LawsStand layout past control turns)
    (lp : ℕ) (is : inside past lp ≡ true) (context : Context) (step : IsStep context) (now : control.now ≡ Some context) where
  there : someone_inside layout past ≡ true
  there = h.present.someone (h.present.context lp is)

  orderly : IsOrderly layout (queue_by layout turns) true control
  orderly = subst (λ b. IsOrderly layout (queue_by layout turns) b control) there h.orderly

  -- the turn keeps the laws of the table
  fits : (t : Turn) → turn layout past control ≡ t → TurnIsOrderly layout (queue_by layout turns) t
  fits t e = subst (TurnIsOrderly layout (queue_by layout turns)) e
      (subst (λ so_far. TurnIsOrderly layout so_far (turn layout past control)) (ap (after_turn layout (queue_by layout turns) control) now ∙ no_miss layout (queue_by layout turns) control context step)
      (turn_fits layout (queue_by layout turns) fit past control orderly))

  answered : (t : Turn) → turn layout past control ≡ t → TurnIsAnswered (calls_by turns) t
  answered t e =
      let none : calls_now control control.now + calls_by turns ≡ calls_by turns = let z = ap (calls_now control) now ∙ no_call control context step in omega arith in
      subst (TurnIsAnswered (calls_by turns)) e
      (subst (λ n. TurnIsAnswered n (turn layout past control)) none (turn-answered layout control (calls_by turns) h.answered past h.orderly.stack h.orderly.now))

  going : (next : Control) → Keeps control next turns → has_ended next ≡ false → IsGoing next.count (events_by turns)
  going next k live = subst (λ n. IsGoing n (events_by turns)) (sym k.count) (h.going (k.going live))

  -- a step that goes on
  pub laws_going : (next : Control) → turn layout past control ≡ Goes next → is_some next.now ≡ true → Keeps control next turns → LawsStand layout past next turns
  laws_going next e some k = record {
    orderly = subst (λ b. IsOrderly layout (queue_by layout turns) b next) (sym there) (fits (Goes next) e);
    present = record { alone = h.present.alone; context = λ p i. some; someone = λ i. there };
    fresh = k.fresh;
    taken = k.rest ∙ h.taken;
    earlier = h.earlier;
    answered = answered (Goes next) e;
    going = going next k;
  }

  -- a step that leaves, at a history after which nobody is inside
  pub laws_leaving : (pair : Pair) (exit : Exit) (next : Control) → turn layout past control ≡ Leaves exit next → next.now ≡ None → ((q : ℕ) → since (pair ∷ past) q ≡ None) →
      Keeps control next turns → LawsStand layout (pair ∷ past) next turns
  laws_leaving pair exit next e none nobody k = record {
    orderly = empty_orderly layout (queue_by layout turns) (someone_inside layout (pair ∷ past)) next none (fits (Leaves exit next) e);
    present = record { alone = λ p q a b. absurd (away p a); context = λ p a. absurd (away p a); someone = λ a. absurd (let n : is_some next.now ≡ false = ap is_some none in cc) };
    fresh = k.fresh;
    taken = k.rest ∙ h.taken;
    earlier = earlier_more (length past) (length (pair ∷ past)) turns (omega arith) h.earlier;
    answered = answered (Leaves exit next) e;
    going = going next k;
  }
    where
      away : (q : ℕ) → inside (pair ∷ past) q ≡ true → ⊥
      away q i = let n : inside (pair ∷ past) q ≡ false = ap is_some (nobody q) in let f : true ≡ false = sym i ∙ n in cc
