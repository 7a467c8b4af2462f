-- The tape of a program that goes on, with one more event at its count.
use Rattle.std.proofs.Common.{◌≡◌, ℕ, zero, suc, ◌+◌, ◌<◌, List, [], ◌∷◌, ◌++◌, refl, ap, sym, ◌∙◌, subst, arith}
use Rattle.std.proofs.lemmas.Bool.{eqb-true, lt-ltb, le-leb}
use Rattle.std.proofs.lemmas.Bool.Decides.{nat_tests}
use Rattle.std.specs.Prelude.{Bool, true, false, ◌&&◌, option_and_then, Some, None, ◌==◌}
use Rattle.ak_core.specs.Layout.{Layout}
use Rattle.ak_core.specs.declared.event.Event.{Event}
use Rattle.ak_core.specs.declared.event.Event.TheVariants.{Call, Miss, Trap, Break}
use Rattle.ak_model.specs.Clusters.Queue.{after_miss}
use Rattle.ak_model.specs.Tapes.Tape.{may_precede, may_follow, is_tape}
use Rattle.ak_model.specs.Tapes.LastMoment.{FlatRuns}
use Rattle.ak_model.specs.Sound.Events.{completed_by, ending_at, call_of, call_at, TrapIsForced, TrapsAreForced}
use Rattle.ak_model.specs.Laws.Premises.{MissesFit}
use Rattle.ak_model.specs.Control.EventTurn.{count_of}
use Rattle.ak_relation.specs.Program.Turns.{IsGoing, TapeStands}

-- ---- Order

join : (a b : Bool) → a ≡ true → b ≡ true → (a && b) ≡ true
join true true e f = refl
join false b e f = absurd (cc)
join true false e f = absurd (cc)

split : (a b : Bool) → (a && b) ≡ true → (a ≡ true) × (b ≡ true)
split true true e = (refl, refl)
split true false e = absurd (cc)
split false b e = absurd (cc)

follows : (x : Event) (rest : List Event) (e : Event) → may_precede x (count_of e) ≡ true → may_follow x rest ≡ true → may_follow x (rest ++ e ∷ []) ≡ true
follows x [] e last h = last
follows x (y ∷ rest) e last h = h

ordered : (count : ℕ) (events : List Event) (e : Event) → count_of e ≡ count → IsGoing count events → is_tape events ≡ true → is_tape (events ++ e ∷ []) ≡ true
ordered count [] e is h tape = refl
ordered count (Call i zero a ∷ rest) e is h tape = absurd h
ordered count (Trap i v ∷ rest) e is h tape = absurd h
ordered count (Break i ∷ rest) e is h tape = absurd h
ordered count (Call i (suc b) a ∷ rest) e is h tape =
    let parts = split (may_follow (Call i (suc b) a) rest) (is_tape rest) tape in
    let low = h.0 in
    join _ _ (follows (Call i (suc b) a) rest e (lt-ltb i (count_of e) (omega arith)) parts.0) (ordered count rest e is h.1 parts.1)
ordered count (Miss i c ∷ rest) e is h tape =
    let parts = split (may_follow (Miss i c) rest) (is_tape rest) tape in
    let low = h.0 in
    join _ _ (follows (Miss i c) rest e (le-leb i (count_of e) (omega arith)) parts.0) (ordered count rest e is h.1 parts.1)

-- ---- Misses, calls and traps

-- the queue after these events' misses
abbrev pub queue_past : Layout → List ℕ → List Event → List ℕ
queue_past layout queue [] = queue
queue_past layout queue (Miss i c ∷ events) = queue_past layout (after_miss layout queue c) events
queue_past layout queue (event ∷ events) = queue_past layout queue events

fits_more : (layout : Layout) (queue : List ℕ) (events : List Event) (e : Event) → MissesFit layout queue events → MissesFit layout (queue_past layout queue events) (e ∷ []) →
    MissesFit layout queue (events ++ e ∷ [])
fits_more layout queue [] e h last = last
fits_more layout queue (Miss i c ∷ events) e h last = (h.0, h.1, fits_more layout (after_miss layout queue c) events e h.2 last)
fits_more layout queue (Call i b a ∷ events) e h last = fits_more layout queue events e h last
fits_more layout queue (Trap i v ∷ events) e h last = fits_more layout queue events e h last
fits_more layout queue (Break i ∷ events) e h last = fits_more layout queue events e h last

other_call : (i : ℕ) (e : Event) → (count_of e == i) ≡ false → call_at (e ∷ []) i ≡ None
other_call i (Call j b a) h = rw h refl
other_call i (Miss j c) h = refl
other_call i (Trap j v) h = refl
other_call i (Break j) h = refl

call_more : (events : List Event) (e : Event) (i : ℕ) → call_at (e ∷ []) i ≡ None → call_at (events ++ e ∷ []) i ≡ call_at events i
call_more [] e i none = none
call_more (event ∷ events) e i none = ap (call_of i event) (call_more events e i none)

traps_more : (layout : Layout) (runs : FlatRuns) (events : List Event) (e : Event) → TrapsAreForced layout runs events → TrapIsForced layout runs e → TrapsAreForced layout runs (events ++ e ∷ [])
traps_more layout runs [] e h last = (last, tt)
traps_more layout runs (event ∷ events) e h last = (h.0, traps_more layout runs events e h.1 last)

-- ---- One more event

module _ (layout : Layout) (runs : FlatRuns) (count : ℕ) (events : List Event) (e : Event) (at : count_of e ≡ count) (going : IsGoing count events)
    (fits : MissesFit layout (queue_past layout [] events) (e ∷ [])) (forced : TrapIsForced layout runs e) (h : TapeStands layout runs count events) where
  below : (i : ℕ) → i < count → option_and_then completed_by (ending_at layout runs i) ≡ Some (call_at (events ++ e ∷ []) i)
  below i lt =
      let other : (count_of e == i) ≡ false = let n = count_of e in grind (arith, nat_tests) in
      h.completed i lt ∙ ap Some (sym (call_more events e i (other_call i e other)))

  -- an event that completes nothing: a miss, a break or a trap
  pub tape-event : TapeStands layout runs count (events ++ e ∷ [])
  tape-event = record {
    ordered = ordered count events e at going h.ordered;
    fit = fits_more layout _ events e h.fit fits;
    completed = below;
    traps = traps_more layout runs events e h.traps forced;
  }

  call_there : (b a : ℕ) (all : List Event) → IsGoing count all → call_at (all ++ Call count b a ∷ []) count ≡ Some (b, a)
  call_there b a [] g = let same : (count == count) ≡ true = grind (arith, nat_tests) in rw same refl
  call_there b a (Call i zero x ∷ all) g = absurd g
  call_there b a (Trap i v ∷ all) g = absurd g
  call_there b a (Break i ∷ all) g = absurd g
  call_there b a (Miss i c ∷ all) g = call_there b a all g.1
  call_there b a (Call i (suc n) x ∷ all) g =
      let other : (i == count) ≡ false = let lt = g.0 in grind (arith, nat_tests) in rw other (call_there b a all g.1)

  -- a call, which completes its instruction
  pub tape-call : (b a : ℕ) → e ≡ Call count b a → option_and_then completed_by (ending_at layout runs count) ≡ Some (Some (b, a)) → TapeStands layout runs (count + 1) (events ++ e ∷ [])
  tape-call b a is ends = record {
    ordered = ordered count events e at going h.ordered;
    fit = fits_more layout _ events e h.fit fits;
    completed = λ i lt. by_place i (i == count) refl lt;
    traps = traps_more layout runs events e h.traps forced;
  }
    where
      by_place : (i : ℕ) (t : Bool) → (i == count) ≡ t → i < count + 1 → option_and_then completed_by (ending_at layout runs i) ≡ Some (call_at (events ++ e ∷ []) i)
      by_place i true t lt =
          subst (λ j. option_and_then completed_by (ending_at layout runs j) ≡ Some (call_at (events ++ e ∷ []) j)) (sym (eqb-true i count t))
          (ends ∙ ap Some (sym (ap (λ x. call_at (events ++ x ∷ []) count) is ∙ call_there b a events going)))
      by_place i false t lt = below i (grind (arith, nat_tests))
