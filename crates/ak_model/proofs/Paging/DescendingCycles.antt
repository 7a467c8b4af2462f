-- The places of the cycles descend.
use Rattle.std.proofs.Common.{◌≡◌, ℕ, suc, ◌+◌, ◌-◌, ◌≤◌, List, [], ◌∷◌, length, map, refl, ap, sym, ◌∙◌, arith}
use Rattle.std.specs.Prelude.{Bool, true, false, ◌&&◌, ◌||◌, take_while, cond, nat_lt, Some}
use Rattle.std.specs.List.{list_any}
use Rattle.std.proofs.lemmas.Bool.{ltb-false, le-ltb}
use Rattle.std.proofs.lemmas.List.Sums.{take_while-cons}
use Rattle.ak_core.specs.Layout.{Layout}
use Rattle.ak_model.specs.Paging.Histories.{History, Change, Unchanged, Maps, Blocks, Cycles, WritesOut, Loads, Removes, MakesVa, Discards, Enters, Resumes, Exits, Interrupts, change_of}
use Rattle.ak_model.specs.Paging.Frames.{blocked_at}
use Rattle.ak_model.specs.Paging.Tracking.{Cycle, without, cycles, cycles_after, is_over, over_after, tracked}
use Rattle.ak_model.specs.Laws.Waiting.{Descend}

-- ---- Places descend

descend_more : (n m : ℕ) (all : List Cycle) → n ≤ m → Descend n all → Descend m all
descend_more n m [] le h = tt
descend_more n m (cycle ∷ older) le h = let high = h.1 in (h.0, omega arith, h.2)

descend_without : (lp n : ℕ) (all : List Cycle) → Descend n all → Descend n (map (without lp) all)
descend_without lp n [] h = tt
descend_without lp n (cycle ∷ older) h = (h.0, h.1, descend_without lp (cycle.at - 1) older h.2)

module _ (layout : Layout) where
  descend_after : (past : History) (c : Change) (all : List Cycle) → Descend (length past) all → Descend (length past + 1) (cycles_after layout past c all)
  descend_after past Cycles all h = (omega arith, omega arith, descend_more (length past) (length past + 1 - 1) all (omega arith) h)
  descend_after past (Exits lp exit) all h = descend_without lp _ all (descend_more (length past) _ all (omega arith) h)
  descend_after past (Interrupts lp) all h = descend_without lp _ all (descend_more (length past) _ all (omega arith) h)
  descend_after past Unchanged all h = descend_more (length past) _ all (omega arith) h
  descend_after past (Maps p f flags) all h = descend_more (length past) _ all (omega arith) h
  descend_after past (Blocks f) all h = descend_more (length past) _ all (omega arith) h
  descend_after past (WritesOut f va i k) all h = descend_more (length past) _ all (omega arith) h
  descend_after past (Loads f k p va i blocked) all h = descend_more (length past) _ all (omega arith) h
  descend_after past (Removes f) all h = descend_more (length past) _ all (omega arith) h
  descend_after past (MakesVa f) all h = descend_more (length past) _ all (omega arith) h
  descend_after past (Discards k) all h = descend_more (length past) _ all (omega arith) h
  descend_after past (Enters lp v) all h = descend_more (length past) _ all (omega arith) h
  descend_after past (Resumes lp) all h = descend_more (length past) _ all (omega arith) h

  -- the places of the cycles strictly descend, from the newest move's on
  pub cycles-descend : (past : History) → Descend (length past) (cycles layout past)
  cycles-descend [] = tt
  cycles-descend (pair ∷ past) =
      let e : length past + 1 ≡ suc (length past) = omega arith in
      descend_more (length past + 1) (suc (length past)) _ (omega arith) (descend_after past (change_of pair) (cycles layout past) (cycles-descend past))

-- ---- A bound

-- cycles at this place at most
abbrev pub AtMost : ℕ → List Cycle → Type 0
AtMost n [] = Unit {0}
AtMost n (cycle ∷ older) = (cycle.at ≤ n) × AtMost n older

-- at a later place too
pub at_most_more : (n m : ℕ) (all : List Cycle) → n ≤ m → AtMost n all → AtMost m all
at_most_more n m [] le h = tt
at_most_more n m (cycle ∷ older) le h = let low = h.0 in (omega arith, at_most_more n m older le h.1)

-- a processor left
pub at_most_without : (lp n : ℕ) (all : List Cycle) → AtMost n all → AtMost n (map (without lp) all)
at_most_without lp n [] h = tt
at_most_without lp n (cycle ∷ older) h = (h.0, at_most_without lp n older h.1)

-- cycles that descend
pub descend_most : (n : ℕ) (all : List Cycle) → Descend n all → AtMost n all
descend_most n [] h = tt
descend_most n (cycle ∷ older) h = let high = h.1 in (h.1, at_most_more (cycle.at - 1) n older (omega arith) (descend_most (cycle.at - 1) older h.2))

-- ---- The cycles since a block

none_after : (place n : ℕ) (all : List Cycle) → n ≤ place → AtMost n all → list_any (λ cycle. nat_lt place cycle.at && is_over cycle) all ≡ false
none_after place n [] le h = refl
none_after place n (cycle ∷ older) le h =
    let low = h.0 in
    let early : nat_lt place cycle.at ≡ false = le-ltb place cycle.at (omega arith) in
    rw early (none_after place n older le h.1)

leading : (place n : ℕ) (all : List Cycle) → Descend n all → list_any (λ cycle. nat_lt place cycle.at && is_over cycle) all ≡ list_any is_over (take_while (λ cycle. nat_lt place cycle.at) all)
leading place n [] h = refl
leading place n (cycle ∷ older) h =
    by_order (leading place (cycle.at - 1) older h.2) (nat_lt place cycle.at) refl
    ∙ ap (list_any is_over) (sym (take_while-cons (λ (one : Cycle). nat_lt place one.at) cycle older))
  where
    by_order : list_any (λ cycle. nat_lt place cycle.at && is_over cycle) older ≡ list_any is_over (take_while (λ cycle. nat_lt place cycle.at) older) → (b : Bool) → nat_lt place cycle.at ≡ b → list_any (λ cycle. nat_lt place cycle.at && is_over cycle) (cycle ∷ older) ≡ list_any is_over (cond (nat_lt place cycle.at) (cycle ∷ take_while (λ (one : Cycle). nat_lt place one.at) older) [])
    by_order rest true e = rw e (ap (λ b. is_over cycle || b) rest)
    by_order rest false e =
        let low = ltb-false place cycle.at e in
        rw e (none_after place (cycle.at - 1) older (omega arith) (descend_most (cycle.at - 1) older h.2))

-- a frame is tracked where, of the cycles since its block, one is over
pub tracked-leading : (layout : Layout) (past : History) (f place : ℕ) → blocked_at past f ≡ Some place → tracked layout past f ≡ list_any is_over (take_while (λ cycle. nat_lt place cycle.at) (cycles layout past))
tracked-leading layout past f place e =
    ap (λ block. over_after block (cycles layout past)) e ∙ leading place (length past) (cycles layout past) (cycles-descend layout past)
