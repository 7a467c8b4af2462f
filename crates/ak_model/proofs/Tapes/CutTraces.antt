-- A trace over a tape that is cut short, or made longer, is the same as far as the tape is.
use Rattle.std.proofs.Common.{◌≡◌, ℕ, suc, ◌+◌, ◌≤◌, List, [], ◌∷◌, ◌++◌, length, arith, refl, ap, subst}
use Rattle.std.specs.Prelude.{Bool, true, false, if◌then◌else◌, Some, None, nat_le, ◌==◌}
use Rattle.std.specs.Bool.{then_some}
use Rattle.std.proofs.lemmas.Bool.{le-leb, ne_eqb}
use Rattle.ak_core.specs.Layout.{Layout}
use Rattle.ak_core.specs.declared.event.Event.{Event}
use Rattle.ak_core.specs.declared.event.Event.TheVariants.{Call, Miss, Trap, Break}
use Rattle.ak_core.specs.declared.moves.Move.{Move}
use Rattle.ak_model.specs.Control.ControlState.{Control}
use Rattle.ak_model.specs.Control.OneTurn.{Turn}
use Rattle.ak_model.specs.Control.EventTurn.{count_of, due, event_turn, program_turn}
use Rattle.ak_model.specs.Laws.Premises.{all_but_last, IsLater}
use Rattle.ak_model.specs.Control.Trace.{trace}
use Rattle.ak_model.proofs.Paging.Tests.{either_way}
use Rattle.ak_model.proofs.Tapes.StepsReadNoTape.{on_turn}
use Rattle.ak_model.proofs.Tapes.RunsOverTapes.{after, tape_map, moment_map, trace_maps}

abbrev at_rest : List Event → Control → Control
at_rest rest control = record control { rest = rest }

module _ (layout : Layout) where
  if_maps : (b : Bool) (f : Control → Control) (t u t' u' : Turn) → t' ≡ on_turn f t → u' ≡ on_turn f u → (if b then t' else u') ≡ on_turn f (if b then t else u)
  if_maps true f t u t' u' d e = d
  if_maps false f t u t' u' d e = e

  -- a taken event leaves the rest
  pub taken_rest : (control : Control) (x : Event) (rest : List Event) → (after (event_turn layout (at_rest (x ∷ rest) control) (Some x))).rest ≡ rest
  taken_rest control (Call i b a) rest = refl
  taken_rest control (Miss i c) rest = refl
  taken_rest control (Break i) rest = refl
  taken_rest control (Trap i v) rest = either_way (λ t. (after t).rest ≡ rest) (v == 14) _ _ refl refl

  taken_count : (control : Control) (x : Event) (rest : List Event) → control.count ≤ (after (event_turn layout (at_rest (x ∷ rest) control) (Some x))).count
  taken_count control (Call i b a) rest = omega arith
  taken_count control (Miss i c) rest = omega arith
  taken_count control (Break i) rest = omega arith
  taken_count control (Trap i v) rest = either_way (λ t. control.count ≤ (after t).count) (v == 14) _ _ (omega arith) (omega arith)

  -- a taken event over another rest
  taken_maps : (g : List Event → List Event) (control : Control) (x : Event) (rest : List Event) → event_turn layout (at_rest (x ∷ g rest) control) (Some x) ≡ on_turn (tape_map g) (event_turn layout (at_rest (x ∷ rest) control) (Some x))
  taken_maps g control (Call i b a) rest = refl
  taken_maps g control (Miss i c) rest = refl
  taken_maps g control (Break i) rest = refl
  taken_maps g control (Trap i v) rest = if_maps (v == 14) (tape_map g) _ _ _ _ refl refl

  -- ---- A tape without its last k events

  module _ (k : ℕ) where
    abbrev Untaken : List Event → ℕ → Type 0
    Untaken rest count = k ≤ length rest

    cut_tests : (control : Control) (x : Event) (rest : List Event) (b c : Bool) → (count_of x == control.count) ≡ b → nat_le k (length rest) ≡ c → k ≤ length (after (event_turn layout (at_rest (x ∷ rest) control) (then_some b x))).rest → program_turn layout (at_rest (all_but_last k (x ∷ rest)) control) ≡ on_turn (tape_map (all_but_last k)) (event_turn layout (at_rest (x ∷ rest) control) (then_some b x))
    cut_tests control x rest true true eb ec h = rw (ec, eb) (taken_maps (all_but_last k) control x rest)
    cut_tests control x rest true false eb ec h =
        let fits : k ≤ length rest = subst (λ r. k ≤ length r) (taken_rest control x rest) h in
        let yes : nat_le k (length rest) ≡ true = le-leb k (length rest) fits in
        cc
    cut_tests control x rest false true eb ec h = rw (ec, eb) refl
    cut_tests control x rest false false eb ec h = rw ec refl

    cut_by : (control : Control) (rest : List Event) → k ≤ length (after (program_turn layout (at_rest rest control))).rest → program_turn layout (at_rest (all_but_last k rest) control) ≡ on_turn (tape_map (all_but_last k)) (program_turn layout (at_rest rest control))
    cut_by control [] h = refl
    cut_by control (x ∷ rest) h = cut_tests control x rest (count_of x == control.count) (nat_le k (length rest)) refl refl h

    pub cut_ok : (control : Control) → k ≤ length (after (program_turn layout control)).rest → program_turn layout (tape_map (all_but_last k) control) ≡ on_turn (tape_map (all_but_last k)) (program_turn layout control)
    cut_ok control h = cut_by control control.rest h

    back_tests : (control : Control) (x : Event) (rest : List Event) (b : Bool) → k ≤ length (after (event_turn layout (at_rest (x ∷ rest) control) (then_some b x))).rest → k ≤ suc (length rest)
    back_tests control x rest true h =
        let fits : k ≤ length rest = subst (λ r. k ≤ length r) (taken_rest control x rest) h in omega arith
    back_tests control x rest false h = h

    back_by : (control : Control) (rest : List Event) → k ≤ length (after (program_turn layout (at_rest rest control))).rest → k ≤ length rest
    back_by control [] h = h
    back_by control (x ∷ rest) h = back_tests control x rest (count_of x == control.count) h

    pub cut_back : (control : Control) → k ≤ length (after (program_turn layout control)).rest → k ≤ length control.rest
    cut_back control h = back_by control control.rest h

    -- where the last k events are not taken, the trace without them is the same
    pub trace-cut : (tape : List Event) (moves : List Move) → k ≤ length (trace layout tape moves).control.rest → trace layout (all_but_last k tape) moves ≡ moment_map (all_but_last k) (trace layout tape moves)
    trace-cut tape moves h = trace_maps layout (all_but_last k) Untaken cut_ok cut_back tape moves h

  -- ---- A tape with more events

  module _ (more : List Event) where
    abbrev pub longer : List Event → List Event
    longer rest = rest ++ more

    abbrev pub Before : List Event → ℕ → Type 0
    Before rest count = IsLater more count

    later_down : (events : List Event) (m n : ℕ) → m ≤ n → IsLater events n → IsLater events m
    later_down [] m n le h = tt
    later_down (event ∷ rest) m n le h = omega arith

    pub no_due : (count : ℕ) (events : List Event) → IsLater events (count + 1) → due count events ≡ None
    no_due count [] h = refl
    no_due count (event ∷ rest) h =
        let differ : (count_of event == count) ≡ false = ne_eqb (count_of event) count (λ e. omega arith) in
        ap (λ b. then_some b event) differ

    more_tests : (control : Control) (x : Event) (rest : List Event) (b : Bool) → event_turn layout (at_rest (x ∷ (rest ++ more)) control) (then_some b x) ≡ on_turn (tape_map longer) (event_turn layout (at_rest (x ∷ rest) control) (then_some b x))
    more_tests control x rest true = taken_maps longer control x rest
    more_tests control x rest false = refl

    more_by : (control : Control) (rest : List Event) → IsLater more (after (program_turn layout (at_rest rest control))).count → program_turn layout (at_rest (rest ++ more) control) ≡ on_turn (tape_map longer) (program_turn layout (at_rest rest control))
    more_by control [] h = ap (event_turn layout (at_rest more control)) (no_due control.count more h)
    more_by control (x ∷ rest) h = more_tests control x rest (count_of x == control.count)

    pub more_ok : (control : Control) → IsLater more (after (program_turn layout control)).count → program_turn layout (tape_map longer control) ≡ on_turn (tape_map longer) (program_turn layout control)
    more_ok control h = more_by control control.rest h

    grows_tests : (control : Control) (x : Event) (rest : List Event) (b : Bool) → control.count ≤ (after (event_turn layout (at_rest (x ∷ rest) control) (then_some b x))).count
    grows_tests control x rest true = taken_count control x rest
    grows_tests control x rest false = omega arith

    grows_by : (control : Control) (rest : List Event) → control.count ≤ (after (program_turn layout (at_rest rest control))).count
    grows_by control [] = omega arith
    grows_by control (x ∷ rest) = grows_tests control x rest (count_of x == control.count)

    pub more_back : (control : Control) → IsLater more (after (program_turn layout control)).count → IsLater more control.count
    more_back control h =
        later_down more control.count (after (program_turn layout control)).count (grows_by control control.rest) h

    -- more events that are not due yet change nothing
    pub trace-append : (tape : List Event) (moves : List Move) → IsLater more (trace layout tape moves).control.count → trace layout (tape ++ more) moves ≡ moment_map longer (trace layout tape moves)
    trace-append tape moves h = trace_maps layout longer Before more_ok more_back tape moves h
