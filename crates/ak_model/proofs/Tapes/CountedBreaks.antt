-- The breaks of a trace are those of its tape that were taken, and a tape has one at most.
use Rattle.std.proofs.Common.{◌≡◌, ◌+◌, ◌≤◌, List, [], ◌∷◌, refl, ap, sym, ◌∙◌, arith}
use Rattle.std.specs.Prelude.{true, Option, Some, None}
use Rattle.std.proofs.lemmas.Bool.{and_parts}
use Rattle.ak_core.specs.Layout.{Layout}
use Rattle.ak_core.specs.declared.event.Event.{Event}
use Rattle.ak_core.specs.declared.event.Event.TheVariants.{Call, Miss, Trap, Break}
use Rattle.ak_core.specs.declared.moves.Move.{Move}
use Rattle.ak_model.specs.Control.Trace.{trace}
use Rattle.ak_model.specs.Tapes.Tape.{may_follow, is_tape}
use Rattle.ak_model.specs.Tapes.ProgramTurns.{ProgramTurn, program_turns}
use Rattle.ak_model.specs.Laws.CountedBreaks.{break_in, breaks_by, breaks_on}
use Rattle.ak_model.proofs.Tapes.EventsTaken.{with_event, taken, trace-taken}

with_count : (event : Option Event) (rest : List Event) → breaks_on (with_event event rest) ≡ break_in event + breaks_on rest
with_count None rest = omega arith
with_count (Some event) rest = refl

taken_count : (turns : List ProgramTurn) (rest : List Event) → breaks_on (taken turns rest) ≡ breaks_by turns + breaks_on rest
taken_count [] rest = omega arith
taken_count (turn ∷ older) rest =
    let all = taken_count older (with_event turn.event rest) in
    let one = with_count turn.event rest in
    omega (arith, all, one)

-- the breaks of the turns, and those that are left, are those of the tape
pub breaks-taken : (layout : Layout) (tape : List Event) (moves : List Move) → breaks_by (program_turns layout tape moves) + breaks_on (trace layout tape moves).control.rest ≡ breaks_on tape
breaks-taken layout tape moves =
    sym (taken_count (program_turns layout tape moves) (trace layout tape moves).control.rest) ∙ ap breaks_on (trace-taken layout tape moves)

-- nothing comes after a break
pub one_break : (tape : List Event) → is_tape tape ≡ true → breaks_on tape ≤ 1
one_break [] h = omega arith
one_break (Break i ∷ []) h = omega arith
one_break (Break i ∷ next ∷ rest) h = absurd (cc)
one_break (Call i b a ∷ rest) h = let e = one_break rest (and_parts (may_follow (Call i b a) rest) (is_tape rest) h).1 in omega (arith, e)
one_break (Miss i c ∷ rest) h = let e = one_break rest (and_parts (may_follow (Miss i c) rest) (is_tape rest) h).1 in omega (arith, e)
one_break (Trap i v ∷ rest) h = let e = one_break rest (and_parts (may_follow (Trap i v) rest) (is_tape rest) h).1 in omega (arith, e)

pub at_most_one : (layout : Layout) (tape : List Event) (moves : List Move) → is_tape tape ≡ true → breaks_by (program_turns layout tape moves) ≤ 1
at_most_one layout tape moves h =
    let all = breaks-taken layout tape moves in
    let one = one_break tape h in
    omega (arith, all, one)

pub exactly_one : (layout : Layout) (tape : List Event) (moves : List Move) → is_tape tape ≡ true → 1 ≤ breaks_on tape → breaks_on (trace layout tape moves).control.rest ≡ 0 → breaks_by (program_turns layout tape moves) ≡ 1
exactly_one layout tape moves h some none =
    let all = breaks-taken layout tape moves in
    let one = one_break tape h in
    omega (arith, all, one, some, none)
