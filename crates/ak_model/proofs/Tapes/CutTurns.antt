-- Program turns over a tape that is cut short, or made longer, are the same as far as the tape is.
use Rattle.std.proofs.Common.{◌≡◌, ℕ, ◌≤◌, List, [], ◌∷◌, ◌++◌, length, refl, subst}
use Rattle.std.specs.Prelude.{Bool, true, false, nat_le, ◌==◌}
use Rattle.std.specs.Bool.{then_some}
use Rattle.std.proofs.lemmas.Bool.{le-leb}
use Rattle.ak_core.specs.Layout.{Layout}
use Rattle.ak_core.specs.declared.event.Event.{Event}
use Rattle.ak_core.specs.declared.moves.Move.{Move}
use Rattle.ak_model.specs.Control.ControlState.{Control}
use Rattle.ak_model.specs.Control.EventTurn.{count_of, due, event_turn, program_turn}
use Rattle.ak_model.specs.Laws.Premises.{all_but_last, IsLater}
use Rattle.ak_model.specs.Control.Trace.{trace}
use Rattle.ak_model.specs.Tapes.ProgramTurns.{program_turns}
use Rattle.ak_model.proofs.Tapes.RunsOverTapes.{after}
use Rattle.ak_model.proofs.Tapes.CutTraces.{taken_rest, cut_ok, cut_back, no_due, more_ok, more_back}
use Rattle.ak_model.proofs.Tapes.TurnsOverTapes.{program_turns-same}

abbrev at_rest : List Event → Control → Control
at_rest rest control = record control { rest = rest }

module _ (layout : Layout) where
  -- ---- A tape without its last k events

  module _ (k : ℕ) where
    abbrev Untaken : List Event → ℕ → Type 0
    Untaken rest count = k ≤ length rest

    cut_tests : (control : Control) (x : Event) (rest : List Event) (b c : Bool) → (count_of x == control.count) ≡ b → nat_le k (length rest) ≡ c → k ≤ length (after (event_turn layout (at_rest (x ∷ rest) control) (then_some b x))).rest → due control.count (all_but_last k (x ∷ rest)) ≡ then_some b x
    cut_tests control x rest true true eb ec h = rw (ec, eb) refl
    cut_tests control x rest true false eb ec h =
        let fits : k ≤ length rest = subst (λ r. k ≤ length r) (taken_rest layout control x rest) h in
        let yes : nat_le k (length rest) ≡ true = le-leb k (length rest) fits in
        cc
    cut_tests control x rest false true eb ec h = rw (ec, eb) refl
    cut_tests control x rest false false eb ec h = rw ec refl

    cut_by : (control : Control) (rest : List Event) → k ≤ length (after (program_turn layout (at_rest rest control))).rest → due control.count (all_but_last k rest) ≡ due control.count rest
    cut_by control [] h = refl
    cut_by control (x ∷ rest) h =
        cut_tests control x rest (count_of x == control.count) (nat_le k (length rest)) refl refl h

    cut_due : (control : Control) → k ≤ length (after (program_turn layout control)).rest → due control.count (all_but_last k control.rest) ≡ due control.count control.rest
    cut_due control h = cut_by control control.rest h

    -- where the last k events are not taken, the turns without them are the same
    pub turns-cut : (tape : List Event) (moves : List Move) → k ≤ length (trace layout tape moves).control.rest → program_turns layout (all_but_last k tape) moves ≡ program_turns layout tape moves
    turns-cut tape moves h = program_turns-same layout (all_but_last k) Untaken (cut_ok layout k) (cut_back layout k) cut_due tape moves h

  -- ---- A tape with more events

  module _ (more : List Event) where
    abbrev longer : List Event → List Event
    longer rest = rest ++ more

    abbrev Before : List Event → ℕ → Type 0
    Before rest count = IsLater more count

    more_by : (control : Control) (rest : List Event) → IsLater more (after (program_turn layout (at_rest rest control))).count → due control.count (rest ++ more) ≡ due control.count rest
    more_by control [] h = no_due layout more control.count more h
    more_by control (x ∷ rest) h = refl

    more_due : (control : Control) → IsLater more (after (program_turn layout control)).count → due control.count (control.rest ++ more) ≡ due control.count control.rest
    more_due control h = more_by control control.rest h

    -- more events that are not due yet change no turn so far
    pub turns-append : (tape : List Event) (moves : List Move) → IsLater more (trace layout tape moves).control.count → program_turns layout (tape ++ more) moves ≡ program_turns layout tape moves
    turns-append tape moves h = program_turns-same layout longer Before (more_ok layout more) (more_back layout more) more_due tape moves h
