-- The outputs of the flat run are those of the calls on its tape; so what was shown is a beginning of them.
use Rattle.std.proofs.Common.{◌≡◌, ℕ, zero, suc, ◌<◌, ◌≤◌, List, [], ◌∷◌, ◌++◌, arith, refl, ap, sym, ◌∙◌, subst, append-nil}
use Rattle.std.proofs.lemmas.Bool.{eqb-true, ltb-true, leb-true, and_parts}
use Rattle.std.proofs.lemmas.Bool.Decides.{nat_tests}
use Rattle.std.specs.Prelude.{Bool, true, false, if◌then◌else◌, option_map, option_and_then, Option, Some, None, ◌==◌}
use Rattle.ak_core.specs.Layout.{Layout}
use Rattle.ak_core.specs.Journal.{with_more}
use Rattle.ak_core.specs.declared.event.Event.{Event}
use Rattle.ak_core.specs.declared.event.Event.TheVariants.{Call, Miss, Trap, Break}
use Rattle.ak_model.specs.Flat.FlatRuns.{End, FlatRun, ending, flat_run, output_of_call, output_of, output_at, outputs}
use Rattle.ak_model.specs.Control.EventTurn.{count_of}
use Rattle.ak_model.specs.Tapes.Tape.{may_follow, is_tape}
use Rattle.ak_model.specs.Tapes.ProgramTurns.{ProgramTurn}
use Rattle.ak_model.specs.Laws.Premises.{IsLater, IsCounted}
use Rattle.ak_model.specs.Laws.ShownOutputs.{output_in, one_more, outputs_by, Unshown, Pending, Lost, IsShown}
use Rattle.ak_model.specs.Sound.Events.{completed_by, ending_at, call_at}
use Rattle.ak_model.specs.Sound.Forced.{EachTurn}
use Rattle.ak_model.specs.Sound.Outputs.{IsPrefixOf}
use Rattle.ak_model.proofs.Tapes.TurnEvents.{EachEvent, HoldsAt}
use Rattle.ak_relation.specs.Program.Turns.{listed, events_by}

-- ---- Events of a tape by their counts

-- each event has this count at least
abbrev FromCount : ℕ → List Event → Type 0
FromCount low events = EachEvent (λ event. low ≤ count_of event) events

next_later : (low : ℕ) (event : Event) (rest : List Event) → may_follow event rest ≡ true → low ≤ count_of event → IsLater rest low
next_later low event [] h le = tt
next_later low (Call i zero a) (next ∷ rest) h le = absurd (cc)
next_later low (Call i (suc b) a) (next ∷ rest) h le = let lt = ltb-true i (count_of next) h in omega arith
next_later low (Miss i c) (next ∷ rest) h le = let more = leb-true i (count_of next) h in omega arith
next_later low (Trap i v) (next ∷ rest) h le = absurd (cc)
next_later low (Break i) (next ∷ rest) h le = absurd (cc)

after_call : (i b a : ℕ) (rest : List Event) → may_follow (Call i b a) rest ≡ true → IsLater rest (suc i)
after_call i b a [] h = tt
after_call i zero a (next ∷ rest) h = absurd (cc)
after_call i (suc b) a (next ∷ rest) h = let lt = ltb-true i (count_of next) h in omega arith

-- from the first event on counts do not fall
from_first : (low : ℕ) (tape : List Event) → is_tape tape ≡ true → IsLater tape low → FromCount low tape
from_first low [] h le = tt
from_first low (event ∷ rest) h le =
    let parts = and_parts (may_follow event rest) (is_tape rest) h in
    (le, from_first low rest parts.1 (next_later low event rest parts.0 le))

-- no call is at a count below all
none_at : (low i : ℕ) (tape : List Event) → FromCount low tape → i < low → call_at tape i ≡ None
none_at low i [] h lt = refl
none_at low i (Call j b a ∷ rest) h lt =
    let other : (j == i) ≡ false = let le = h.0 in grind (arith, nat_tests) in rw other (none_at low i rest h.1 lt)
none_at low i (Miss j c ∷ rest) h lt = none_at low i rest h.1 lt
none_at low i (Trap j v ∷ rest) h lt = none_at low i rest h.1 lt
none_at low i (Break j ∷ rest) h lt = none_at low i rest h.1 lt

-- ---- Outputs below a count

-- the output of a call, if there is one
abbrev output_by_call : Option (ℕ × ℕ) → Option ℕ
output_by_call None = None
output_by_call (Some call) = output_of_call call.0 call.1

-- the outputs of the calls that a tape has below a count
abbrev pub outputs_below : List Event → ℕ → List ℕ
outputs_below tape zero = []
outputs_below tape (suc i) = with_more (outputs_below tape i) (output_by_call (call_at tape i))

module _ (layout : Layout) where
  by_end : (end : End) (call : Option (ℕ × ℕ)) → completed_by end ≡ Some call → output_of end ≡ output_by_call call
  by_end (End.Next flat) call e = let is : None ≡ call = cc in ap output_by_call is
  by_end (End.Call b a flat) call e = let is : Some (b, a) ≡ call = cc in ap output_by_call is
  by_end (End.Vector v) call e = absurd (cc)

  by_run : (run : Option FlatRun) (call : Option (ℕ × ℕ)) → option_and_then completed_by (option_map (λ r. ending layout r.flat) run) ≡ Some call → output_at layout run ≡ output_by_call call
  by_run None call e = absurd (cc)
  by_run (Some run) call e = by_end (ending layout run.flat) call e

  -- where completed instructions are those of the flat run, its outputs are those of the tape's calls
  pub flat_below : (image returned : List ℕ) (events : List Event) (n : ℕ) →
      ((i : ℕ) → i < n → option_and_then completed_by (ending_at layout (flat_run layout image returned) i) ≡ Some (call_at events i)) →
      outputs layout image returned n ≡ outputs_below events n
  flat_below image returned events zero h = refl
  flat_below image returned events (suc i) h =
      ap (λ xs. with_more xs (output_at layout (flat_run layout image returned i))) (flat_below image returned events i (λ j lt. h j (omega arith)))
      ∙ ap (with_more (outputs_below events i)) (by_run (flat_run layout image returned i) (call_at events i) (h i (omega arith)))

empty_below : (low n : ℕ) (tape : List Event) → FromCount low tape → n ≤ low → outputs_below tape n ≡ []
empty_below low zero tape h le = refl
empty_below low (suc i) tape h le =
    ap (λ call. with_more (outputs_below tape i) (output_by_call call)) (none_at low i tape h (omega arith)) ∙ empty_below low i tape h (omega arith)

-- ---- All outputs of a tape

-- an output, if there is one, before others
abbrev with_first : Option ℕ → List ℕ → List ℕ
with_first None outputs = outputs
with_first (Some output) outputs = output ∷ outputs

-- the outputs of the calls on a tape, in order
abbrev pub outputs_on : List Event → List ℕ
outputs_on [] = []
outputs_on (event ∷ rest) = with_first (output_in (Some event)) (outputs_on rest)

alone : (o : Option ℕ) → with_more [] o ≡ with_first o []
alone None = refl
alone (Some output) = refl

first_then : (o p : Option ℕ) (outputs : List ℕ) → with_more (with_first o outputs) p ≡ with_first o (with_more outputs p)
first_then None p outputs = refl
first_then (Some x) None outputs = refl
first_then (Some x) (Some y) outputs = refl

-- an event that is no call
skipped : (event : Event) (rest : List Event) (n : ℕ) → ((i : ℕ) → call_at (event ∷ rest) i ≡ call_at rest i) → outputs_below (event ∷ rest) n ≡ outputs_below rest n
skipped event rest zero h = refl
skipped event rest (suc i) h =
    ap (λ xs. with_more xs (output_by_call (call_at (event ∷ rest) i))) (skipped event rest i h)
    ∙ ap (λ call. with_more (outputs_below rest i) (output_by_call call)) (h i)

-- a call before the others
module _ (j b a : ℕ) (rest : List Event) (later : FromCount (suc j) rest) where
  call_is : (i : ℕ) (same : Bool) → (j == i) ≡ same → call_at (Call j b a ∷ rest) i ≡ (if same then Some (b, a) else call_at rest i)
  call_is i same e = rw e refl

  from_it : (events : List Event) → FromCount (suc j) events → FromCount j events
  from_it [] h = tt
  from_it (event ∷ events) h = (let le = h.0 in omega arith, from_it events h.1)

  first_call : (n : ℕ) → j < n → outputs_below (Call j b a ∷ rest) n ≡ with_first (output_of_call b a) (outputs_below rest n)
  first_call zero lt = absurd (omega arith)
  first_call (suc i) lt = by_place (j == i) refl (λ less. first_call i less)
    where
      by_place : (same : Bool) → (j == i) ≡ same → (j < i → outputs_below (Call j b a ∷ rest) i ≡ with_first (output_of_call b a) (outputs_below rest i)) →
          outputs_below (Call j b a ∷ rest) (suc i) ≡ with_first (output_of_call b a) (outputs_below rest (suc i))
      by_place true e earlier =
          let is = eqb-true j i e in
          ap (λ call. with_more (outputs_below (Call j b a ∷ rest) i) (output_by_call call)) (call_is i true e)
          ∙ ap (λ xs. with_more xs (output_of_call b a)) (empty_below j i (Call j b a ∷ rest) (omega arith, from_it rest later) (omega arith))
          ∙ alone (output_of_call b a)
          ∙ ap (with_first (output_of_call b a)) (sym (empty_below (suc j) (suc i) rest later (omega arith)))
      by_place false e earlier =
          let less : j < i = grind (arith, nat_tests) in
          ap (λ call. with_more (outputs_below (Call j b a ∷ rest) i) (output_by_call call)) (call_is i false e)
          ∙ ap (λ xs. with_more xs (output_by_call (call_at rest i))) (earlier less)
          ∙ first_then (output_of_call b a) (output_by_call (call_at rest i)) (outputs_below rest i)

-- a call is of an instruction before this count
abbrev pub IsCallBelow : ℕ → Event → Type 0
IsCallBelow n (Call i b a) = i < n
IsCallBelow n _ = Unit {0}

none_below : (n : ℕ) → outputs_below [] n ≡ []
none_below zero = refl
none_below (suc i) = none_below i

-- where all calls are below a count, their outputs are all
pub all_below : (n : ℕ) (tape : List Event) → is_tape tape ≡ true → EachEvent (IsCallBelow n) tape → outputs_below tape n ≡ outputs_on tape
all_below n [] h below = none_below n
all_below n (Call j b a ∷ rest) h below =
    let parts = and_parts (may_follow (Call j b a) rest) (is_tape rest) h in
    first_call j b a rest (from_first (suc j) rest parts.1 (after_call j b a rest parts.0)) n below.0
    ∙ ap (with_first (output_of_call b a)) (all_below n rest parts.1 below.1)
all_below n (Miss j c ∷ rest) h below =
    skipped (Miss j c) rest n (λ i. refl) ∙ all_below n rest (and_parts (may_follow (Miss j c) rest) (is_tape rest) h).1 below.1
all_below n (Trap j v ∷ rest) h below =
    skipped (Trap j v) rest n (λ i. refl) ∙ all_below n rest (and_parts (may_follow (Trap j v) rest) (is_tape rest) h).1 below.1
all_below n (Break j ∷ rest) h below =
    skipped (Break j) rest n (λ i. refl) ∙ all_below n rest (and_parts (may_follow (Break j) rest) (is_tape rest) h).1 below.1

-- ---- Outputs and calls of turns

last_output : (o : Option ℕ) → with_first o [] ≡ one_more [] o
last_output None = refl
last_output (Some output) = refl

first_last : (o p : Option ℕ) (outputs : List ℕ) → with_first o (one_more outputs p) ≡ one_more (with_first o outputs) p
first_last None p outputs = refl
first_last (Some x) None outputs = refl
first_last (Some x) (Some y) outputs = refl

on_more : (events : List Event) (event : Option Event) → outputs_on (events ++ listed event) ≡ one_more (outputs_on events) (output_in event)
on_more [] None = refl
on_more [] (Some event) = last_output (output_in (Some event))
on_more (first ∷ events) event =
    ap (with_first (output_in (Some first))) (on_more events event) ∙ first_last (output_in (Some first)) (output_in event) (outputs_on events)

-- the outputs that turns called for are those of their events
pub of_turns : (turns : List ProgramTurn) → outputs_on (events_by turns) ≡ outputs_by turns
of_turns [] = refl
of_turns (turn ∷ older) = on_more (events_by older) turn.event ∙ ap (λ xs. one_more xs (output_in turn.event)) (of_turns older)

below_more : (n : ℕ) (events : List Event) (event : Option Event) → EachEvent (IsCallBelow n) events → EachEvent (IsCallBelow n) (listed event) → EachEvent (IsCallBelow n) (events ++ listed event)
below_more n [] event h last = last
below_more n (first ∷ events) event h last = (h.0, below_more n events event h.1 last)

-- an event stands at this count, if there is one
abbrev pub StandsAt : Layout → ProgramTurn → Type 0
StandsAt layout turn = HoldsAt layout (λ event. Unit {0}) turn.count turn.event

one_below : (layout : Layout) (n count : ℕ) (event : Option Event) → IsCounted n count event → HoldsAt layout (λ event. Unit {0}) count event → EachEvent (IsCallBelow n) (listed event)
one_below layout n count None low at = tt
one_below layout n count (Some (Call i b a)) low at = let e = at.0 in (omega arith, tt)
one_below layout n count (Some (Miss i c)) low at = (tt, tt)
one_below layout n count (Some (Trap i v)) low at = (tt, tt)
one_below layout n count (Some (Break i)) low at = (tt, tt)

-- the calls of turns are below the count that they came to
pub calls_below : (layout : Layout) (n : ℕ) (turns : List ProgramTurn) → EachTurn (λ turn. λ older. IsCounted n turn.count turn.event) turns →
    EachTurn (λ turn. λ older. StandsAt layout turn) turns → EachEvent (IsCallBelow n) (events_by turns)
calls_below layout n [] low at = tt
calls_below layout n (turn ∷ older) low at =
    below_more n (events_by older) turn.event (calls_below layout n older low.1 at.1) (one_below layout n turn.count turn.event low.0 at.0)

-- ---- What was shown

with_last : (outputs : List ℕ) (o : Option ℕ) → IsPrefixOf outputs (one_more outputs o)
with_last outputs None = ([], append-nil outputs)
with_last outputs (Some output) = (output ∷ [], refl)

-- the shown outputs are a beginning of those that were called for
pub shown_first : (u : Unshown) (called shown : List ℕ) → IsShown u called shown → IsPrefixOf shown called
shown_first (Pending output) called shown h = subst (IsPrefixOf shown) (sym h) (with_last shown output)
shown_first Lost called shown h = subst (IsPrefixOf shown) (sym h.1) (with_last shown h.0)
