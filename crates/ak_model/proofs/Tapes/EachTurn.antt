-- Facts on each of a list of turns, the newest first, and on what breaks.
use Rattle.std.proofs.Common.{◌≡◌, ℕ, List, [], ◌∷◌, ◌++◌, refl, ap, sym, subst}
use Rattle.std.specs.Prelude.{false, reverse, filter_map, Option, Some, None}
use Rattle.std.proofs.lemmas.List.{reverse-append}
use Rattle.ak_core.specs.Layout.{Layout}
use Rattle.ak_core.specs.Mem.{Access}
use Rattle.ak_core.specs.declared.event.Event.{Event}
use Rattle.ak_core.specs.declared.event.Event.TheVariants.{Call, Miss, Trap, Break}
use Rattle.ak_model.specs.Clusters.Queue.{queue_after}
use Rattle.ak_model.specs.Tapes.ProgramTurns.{ProgramTurn}
use Rattle.ak_model.specs.Sound.Forced.{EachTurn, missed_by, queue_by, FaultsIn, IfBroken}
use Rattle.ak_model.specs.Laws.ToldFault.{is_break}
use Rattle.ak_model.proofs.Tapes.TurnByTurn.{newest-first}

-- what follows for each turn from a fact on it
pub each-from : (P Q : ProgramTurn → List ProgramTurn → Type 0) → ((turn : ProgramTurn) (older : List ProgramTurn) → P turn older → Q turn older) → (turns : List ProgramTurn) → EachTurn P turns → EachTurn Q turns
each-from P Q from [] p = tt
each-from P Q from (turn ∷ older) p = (from turn older p.0, each-from P Q from older p.1)

-- and from two
pub each-from_both : (P Q R : ProgramTurn → List ProgramTurn → Type 0) → ((turn : ProgramTurn) (older : List ProgramTurn) → P turn older → Q turn older → R turn older) → (turns : List ProgramTurn) → EachTurn P turns → EachTurn Q turns → EachTurn R turns
each-from_both P Q R from [] p q = tt
each-from_both P Q R from (turn ∷ older) p q =
    (from turn older p.0 q.0, each-from_both P Q R from older p.1 q.1)

module _ (P : ProgramTurn → List ProgramTurn → Type 0) where
  -- before the first turn of a run
  pub each-none : (older : List ProgramTurn) → EachTurn P older → EachTurn P (reverse [] ++ older)
  each-none older h = h

  -- one more turn of a run
  pub each-newest : (made : List ProgramTurn) (turn : ProgramTurn) (older : List ProgramTurn) → P turn (reverse made ++ older) → EachTurn P (reverse made ++ older) → EachTurn P (reverse (made ++ turn ∷ []) ++ older)
  each-newest made turn older p h = subst (EachTurn P) (sym (newest-first made turn older)) (p, h)

-- a fact on each turn alone, of lists put together and turned round
module _ (P : ProgramTurn → Type 0) where
  pub alone-append : (made older : List ProgramTurn) → EachTurn (λ turn. λ older. P turn) made → EachTurn (λ turn. λ older. P turn) older → EachTurn (λ turn. λ older. P turn) (made ++ older)
  alone-append [] older h k = k
  alone-append (turn ∷ made) older h k = (h.0, alone-append made older h.1 k)

  pub alone-reverse : (made : List ProgramTurn) → EachTurn (λ turn. λ older. P turn) made → EachTurn (λ turn. λ older. P turn) (reverse made)
  alone-reverse [] h = tt
  alone-reverse (turn ∷ made) h =
      subst (EachTurn (λ turn. λ older. P turn)) (sym (reverse-append (turn ∷ []) made))
      (alone-append (reverse made) (turn ∷ []) (alone-reverse made h.1) (h.0, tt))

-- without a miss
none_missed : (turns : List ProgramTurn) → EachTurn (λ turn. λ older. missed_by turn.event ≡ None) turns → filter_map (λ turn. missed_by turn.event) turns ≡ []
none_missed [] h = refl
none_missed (turn ∷ older) h = rw h.0 (none_missed older h.1)

-- after no miss no cluster is in
pub queue_by-none : (layout : Layout) (turns : List ProgramTurn) → EachTurn (λ turn. λ older. missed_by turn.event ≡ None) turns → queue_by layout turns ≡ []
queue_by-none layout turns h = ap (λ misses. queue_after layout (reverse misses)) (none_missed turns h)

-- ---- Breaks

-- what follows of a break from a fact on it
pub broken-from : (P Q : Type 0) (event : Option Event) → (P → Q) → IfBroken event P → IfBroken event Q
broken-from P Q None from h = tt
broken-from P Q (Some (Call i b a)) from h = tt
broken-from P Q (Some (Miss i c)) from h = tt
broken-from P Q (Some (Trap i v)) from h = tt
broken-from P Q (Some (Break i)) from h = from h

-- there is none where the fact does not hold
pub not-broken_by : (P : Type 0) (event : Option Event) → (P → ⊥) → IfBroken event P → is_break event ≡ false
not-broken_by P None never h = refl
not-broken_by P (Some (Call i b a)) never h = refl
not-broken_by P (Some (Miss i c)) never h = refl
not-broken_by P (Some (Trap i v)) never h = refl
not-broken_by P (Some (Break i)) never h = absurd (never h)

-- an access that may fault by one word may by a weaker one
pub faults-from : (layout : Layout) (queue : List ℕ) (P Q : Access → Type 0) → ((t : Access) → P t → Q t) → FaultsIn layout queue P → FaultsIn layout queue Q
faults-from layout queue P Q from h = record { access = h.access; faults = from h.access h.faults; inside = h.inside }
