-- Tapes that end with a break, and what they are without it.
use Rattle.std.proofs.Common.{◌≡◌, ℕ, suc, ◌≤◌, List, [], ◌∷◌, length, arith, refl}
use Rattle.std.specs.Prelude.{Bool, true, false, ◌||◌, Some, nat_le}
use Rattle.std.proofs.lemmas.Bool.{and_parts, le-leb}
use Rattle.ak_core.specs.Layout.{Layout}
use Rattle.ak_core.specs.declared.event.Event.{Event}
use Rattle.ak_core.specs.declared.event.Event.TheVariants.{Call, Miss, Trap, Break}
use Rattle.ak_model.specs.Control.EventTurn.{count_of}
use Rattle.ak_model.specs.Tapes.Tape.{may_precede, is_tape}
use Rattle.ak_model.specs.Laws.Premises.{all_but_last, MissesFit}
use Rattle.ak_model.specs.Laws.ToldFault.{is_break}
use Rattle.ak_model.specs.Stops.ShownStop.{has_break}
use Rattle.ak_model.specs.Clusters.Queue.{after_miss}

-- the last of these events is a break
abbrev pub ends_broken : List Event → Bool
ends_broken [] = false
ends_broken (event ∷ []) = is_break (Some event)
ends_broken (event ∷ next ∷ rest) = ends_broken (next ∷ rest)

-- so there is one
pub some_left : (tape : List Event) → ends_broken tape ≡ true → 1 ≤ length tape
some_left [] h = absurd (cc)
some_left (event ∷ rest) h = omega arith

-- nothing comes after a break
none_follows : (event : Event) (j : ℕ) → may_precede event j ≡ true → is_break (Some event) ≡ false
none_follows (Miss i c) j h = refl
none_follows (Call i b a) j h = refl
none_follows (Trap i v) j h = refl
none_follows (Break i) j h = absurd (cc)

-- the break of a tape is its last event
pub break_is_last : (tape : List Event) → is_tape tape ≡ true → has_break tape ≡ true → ends_broken tape ≡ true
break_is_last [] t h = h
break_is_last (event ∷ []) t h = by (is_break (Some event)) h
  where
    by : (b : Bool) → (b || false) ≡ true → b ≡ true
    by true e = refl
    by false e = e
break_is_last (event ∷ next ∷ rest) t h =
    let parts = and_parts (may_precede event (count_of next)) (is_tape (next ∷ rest)) t in
    let first : is_break (Some event) ≡ false = none_follows event (count_of next) parts.0 in
    let later : has_break (next ∷ rest) ≡ true = rw first at h in
    break_is_last (next ∷ rest) parts.1 later

-- without its last event a tape has none
pub unbroken_before : (tape : List Event) → is_tape tape ≡ true → has_break (all_but_last 1 tape) ≡ false
unbroken_before [] t = refl
unbroken_before (event ∷ []) t = refl
unbroken_before (event ∷ next ∷ rest) t =
    let parts = and_parts (may_precede event (count_of next)) (is_tape (next ∷ rest)) t in
    let first : is_break (Some event) ≡ false = none_follows event (count_of next) parts.0 in
    let more : nat_le 1 (suc (length rest)) ≡ true = le-leb 1 (suc (length rest)) (omega arith) in
    rw (more, first) (unbroken_before (next ∷ rest) parts.1)

-- and its misses fit as before
pub fit_before : (layout : Layout) (queue : List ℕ) (tape : List Event) → MissesFit layout queue tape → MissesFit layout queue (all_but_last 1 tape)
fit_before layout queue [] h = tt
fit_before layout queue (event ∷ []) h = tt
fit_before layout queue (Miss i c ∷ next ∷ rest) h =
    let more : nat_le 1 (suc (length rest)) ≡ true = le-leb 1 (suc (length rest)) (omega arith) in
    rw more (h.0, h.1, fit_before layout (after_miss layout queue c) (next ∷ rest) h.2)
fit_before layout queue (Call i b a ∷ next ∷ rest) h =
    let more : nat_le 1 (suc (length rest)) ≡ true = le-leb 1 (suc (length rest)) (omega arith) in
    rw more (fit_before layout queue (next ∷ rest) h)
fit_before layout queue (Trap i v ∷ next ∷ rest) h =
    let more : nat_le 1 (suc (length rest)) ≡ true = le-leb 1 (suc (length rest)) (omega arith) in
    rw more (fit_before layout queue (next ∷ rest) h)
fit_before layout queue (Break i ∷ next ∷ rest) h =
    let more : nat_le 1 (suc (length rest)) ≡ true = le-leb 1 (suc (length rest)) (omega arith) in
    rw more (fit_before layout queue (next ∷ rest) h)
