-- A turn of the program that completes a call, as `IsTurn`.
use Rattle.std.proofs.Common.{◌≡◌, ℕ, List, [], ◌∷◌, refl, ap, sym, ◌∙◌, subst, arith}
use Rattle.std.specs.Prelude.{false, Option, Some, None, is_some}
use Rattle.ak_core.specs.Layout.{Layout}
use Rattle.ak_core.specs.declared.event.Event.{Event}
use Rattle.ak_core.specs.declared.event.Event.TheVariants.{Call}
use Rattle.ak_core.specs.declared.registers.Mode.{Mode}
use Rattle.ak_model.specs.Paging.Histories.{History}
use Rattle.ak_model.specs.Paging.Inside.{since, inside}
use Rattle.ak_model.specs.Control.ControlState.{Program, Control}
use Rattle.ak_model.specs.Control.Runs.{turn_of}
use Rattle.ak_model.specs.Control.EventTurn.{event_turn}
use Rattle.ak_model.specs.Tapes.ProgramTurns.{ProgramTurn, turn_in}
use Rattle.ak_relation.specs.State.MachineState.{State}
use Rattle.ak_relation.specs.Premises.CallingOut.{ShowsCall}
use Rattle.ak_relation.specs.Relation.Does.{with_rest, TurnFollows, at_moment, GoesTo, IsTurn}
use Rattle.ak_relation.proofs.Exits.Departing.{turn_with}
use Rattle.ak_relation.proofs.Program.CalledTurn.{called}
use Rattle.ak_relation.proofs.Program.CalledStands.{called_stands}
use Rattle.ak_relation.proofs.Exits.EventTurns.{due_now}
use Rattle.ak_relation.proofs.Program.Seen.{now_program, phase_running, none_saved, comes_at, sees}

module _ (layout : Layout) (lp : ℕ) (past : History) (control : Control) (b a : ℕ) (now : control.now ≡ Some Program) where
  follows : (later : List Event) →
      TurnFollows layout lp past None (with_rest control (Call control.count b a ∷ later)) (with_rest (called control b a) later) (turn_with lp past control (Call control.count b a) ∷ [])
  follows later = record {
    turned = ap (turn_of layout past (with_rest control (Call control.count b a ∷ later))) now
        ∙ ap (event_turn layout (with_rest control (Call control.count b a ∷ later))) (due_now (Call control.count b a) control.count refl);
    made_are = ap (turn_in lp past (with_rest control (Call control.count b a ∷ later))) now
        ∙ ap (λ (o : Option Event). (let made : ProgramTurn = record { lp = lp; past = past; count = control.count; event = o } in made) ∷ []) (due_now (Call control.count b a) control.count refl);
  }

module _ (layout : Layout) (lp : ℕ) (old new : State) where
  -- a call
  pub call_turns : (b a : ℕ) → (old.processors lp).regs.mode ≡ Mode.Program → ShowsCall layout lp old new b a → IsTurn layout lp old new None (Some (Call old.count b a))
  call_turns b a mode shows image past control turns within h all = by_place (since past lp) refl
    where
      by_place : (o : Option ℕ) → since past lp ≡ o → GoesTo layout image (TurnFollows layout lp past None) (at_moment past control turns old) past new (Some (Call old.count b a))
      by_place None e = absurd (let f : inside past lp ≡ false = ap is_some e in cc)
      by_place (Some place) e =
          let shown = shows h.bytes.flat (sees layout image past control turns old lp place h e mode) in
          let now = now_program layout image past control turns old lp place h e mode in
          subst (λ (n : ℕ). GoesTo layout image (TurnFollows layout lp past None) (at_moment past control turns old) past new (Some (Call n b a))) (sym h.counted)
          (record {
            control = called control b a;
            turns = turn_with lp past control (Call control.count b a) ∷ turns;
            made = turn_with lp past control (Call control.count b a) ∷ [];
            does = record { turns = refl; traced = λ later ok. follows layout lp past control b a now later; due = λ later ok. omega arith };
            told = refl;
            stands = called_stands layout image past control turns old new lp place h.bytes.flat shown.0 b a h e now (phase_running layout image past control turns old lp place h e mode)
                (none_saved layout image past control turns old lp place h e mode) refl (comes_at layout image past control turns old lp place h e mode) shown.1;
          })
