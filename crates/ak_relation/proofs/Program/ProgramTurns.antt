-- What follows in the definitions from a turn of the program that gives no event: the mode in the registers tells that the program
-- goes on.
use Rattle.std.proofs.Common.{◌≡◌, ℕ, ◌+◌, List, [], ◌∷◌, refl, ap, sym, ◌∙◌, subst, arith}
use Rattle.std.proofs.lemmas.Bool.Decides.{nat_tests}
use Rattle.std.specs.Prelude.{true, false, Option, Some, None, is_some, ◌==◌}
use Rattle.std.specs.Bool.{then_some}
use Rattle.ak_core.specs.Layout.{Layout}
use Rattle.ak_core.specs.declared.registers.Mode.{Mode}
use Rattle.ak_core.specs.declared.registers.Regs.{Regs}
use Rattle.ak_core.specs.declared.event.Event.{Event}
use Rattle.ak_model.specs.Paging.Histories.{History}
use Rattle.ak_model.specs.Flat.FlatRuns.{Flat}
use Rattle.ak_model.specs.Control.ControlState.{Phase, Running, Context, Program, Enter, Probe, Finish, Guard, Leave, Control}
use Rattle.ak_model.specs.Control.Runs.{turn_of}
use Rattle.ak_model.specs.Control.EventTurn.{count_of, due, event_turn}
use Rattle.ak_model.specs.Tapes.ProgramTurns.{ProgramTurn, turn_in}
use Rattle.ak_model.specs.Laws.Premises.{IsLater}
use Rattle.ak_pager.specs.Contexts.{GivesNow}
use Rattle.ak_model.specs.Laws.OwedAnswers.{Settled, oldest, owing_running, owing_by, owing}
use Rattle.ak_relation.specs.Program.FlatPlaces.{IsAtBy, Reaches}
use Rattle.ak_relation.specs.State.MachineState.{State}
use Rattle.ak_relation.specs.Relation.Does.{with_rest, TurnFollows}
use Rattle.ak_relation.proofs.Program.OrdinaryTurns.{new_turn, counted}

-- ---- What the registers tell

mode_clash : (r : Regs) → r.mode ≡ Mode.Runtime → r.mode ≡ Mode.Program → ⊥
mode_clash r a b = let e : Mode.Runtime ≡ Mode.Program = sym a ∙ b in cc

-- in program mode the context is the program
pub program_now : (layout : Layout) (phase : Phase) (flat : Flat) (now : Option Context) (regs : Regs) → GivesNow layout phase flat now regs → is_some now ≡ true →
    regs.mode ≡ Mode.Program → now ≡ Some Program
program_now layout phase flat (Some Program) regs h some mode = refl
program_now layout phase flat (Some (Enter k v)) regs h some mode = absurd (mode_clash regs (ap (λ r. r.mode) h) mode)
program_now layout phase flat (Some (Probe i)) regs h some mode = absurd (let a = h.0 in mode_clash regs a.mode mode)
program_now layout phase flat (Some Finish) regs h some mode = absurd (let a = h.0 in mode_clash regs a.mode mode)
program_now layout phase flat (Some Guard) regs h some mode = absurd (mode_clash regs h.mode mode)
program_now layout phase flat (Some (Leave b a)) regs h some mode = absurd (let e = h.0 in mode_clash regs e.mode mode)
program_now layout phase flat None regs h some mode = absurd (cc)

-- ---- No event is due

none_due : (later : List Event) (count : ℕ) → IsLater later (count + 1) → due count later ≡ None
none_due [] count h = refl
none_due (event ∷ rest) count h =
    let other : (count_of event == count) ≡ false = let n = count_of event in grind (arith, nat_tests) in ap (λ b. then_some b event) other

-- events after the next count are after this one
pub later_less : (later : List Event) (count : ℕ) → IsLater later (count + 1) → IsLater later count
later_less [] count h = tt
later_less (event ∷ rest) count h = omega arith

module _ (layout : Layout) (lp : ℕ) (past : History) (control : Control) (now : control.now ≡ Some Program) where
  -- what follows in the definitions
  pub follows : (later : List Event) → IsLater later (control.count + 1) →
      TurnFollows layout lp past None (with_rest control later) (with_rest (counted control) later) (new_turn lp past control ∷ [])
  follows later ok = record {
    turned = ap (turn_of layout past (with_rest control later)) now ∙ ap (event_turn layout (with_rest control later)) (none_due later control.count ok);
    made_are = ap (turn_in lp past (with_rest control later)) now
        ∙ ap (λ (o : Option Event). (let made : ProgramTurn = record { lp = lp; past = past; count = control.count; event = o } in made) ∷ []) (none_due later control.count ok);
  }

module _ (layout : Layout) (lp : ℕ) (old new : State) where
  -- the flat run comes to its state
  pub settled_at : (control : Control) (image : List ℕ) (flat : Flat) → control.now ≡ Some Program → control.phase ≡ Running → control.stack ≡ [] →
      IsAtBy (owing control) layout image control.returned control.count flat → Reaches layout image control.returned control.count flat
  settled_at control image flat now running nothing at =
      let settled : owing control ≡ Settled = ap (λ p. owing_by p (oldest control.stack control.now)) running ∙ ap (λ s. owing_by Running (oldest s control.now)) nothing ∙ ap owing_running now in
      subst (λ o. IsAtBy o layout image control.returned control.count flat) settled at
