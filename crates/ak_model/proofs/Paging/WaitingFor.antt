-- A cycle that began after a processor entered waits for it as long as it is inside. So a frame that was blocked since is not tracked.
use Rattle.std.proofs.Common.{◌≡◌, ℕ, ◌+◌, ◌<◌, List, [], ◌∷◌, length, map, refl, ap, ◌∙◌, arith}
use Rattle.std.proofs.lemmas.Bool.{ltb-true, eqb-true}
use Rattle.std.proofs.lemmas.Bool.Decides.{nat_tests}
use Rattle.std.specs.Prelude.{Bool, true, false, ◌&&◌, ◌||◌, not, filter, cond, nat_lt, Option, Some, None, is_some, ◌==◌, if◌then◌else◌}
use Rattle.std.specs.List.{list_any}
use Rattle.ak_core.specs.Layout.{Layout}
use Rattle.ak_model.specs.Paging.Histories.{History, Change, Unchanged, Maps, Blocks, Cycles, WritesOut, Loads, Removes, MakesVa, Discards, Enters, Resumes, Exits, Interrupts, change_of}
use Rattle.ak_model.specs.Paging.Inside.{since, since_after, inside, processors}
use Rattle.ak_model.specs.Paging.Tracking.{Cycle, without, cycles, cycles_after, is_over, over_after}
use Rattle.ak_model.proofs.Paging.Tests.{any_in_range}
use Rattle.ak_model.proofs.Paging.DescendingCycles.{cycles-descend, AtMost, descend_most}

-- ---- Lists of processors

-- the processor is one of these
abbrev among : ℕ → List ℕ → Bool
among lp all = list_any (λ q. q == lp) all

among-filter : (test : ℕ → Bool) (lp : ℕ) (xs : List ℕ) → test lp ≡ true → among lp xs ≡ true → among lp (filter test xs) ≡ true
among-filter test lp [] t h = h
among-filter test lp (x ∷ xs) t h = by_first (among-filter test lp xs t) (x == lp) (test x) refl refl h
  where
    by_first : (among lp xs ≡ true → among lp (filter test xs) ≡ true) → (b k : Bool) → (x == lp) ≡ b → test x ≡ k → (b || list_any (λ q. q == lp) xs) ≡ true → list_any (λ q. q == lp) (cond k (x ∷ filter test xs) (filter test xs)) ≡ true
    by_first rest true true e f h = ap (λ b. b || list_any (λ q. q == lp) (filter test xs)) e
    by_first rest true false e f h = absurd (let g : test x ≡ true = ap test (eqb-true x lp e) ∙ t in cc)
    by_first rest false true e f h = ap (λ b. b || list_any (λ q. q == lp) (filter test xs)) e ∙ rest h
    by_first rest false false e f h = rest h

among-length : (lp : ℕ) (xs : List ℕ) → among lp xs ≡ true → (length xs == 0) ≡ false
among-length lp [] h = absurd (cc)
among-length lp (x ∷ xs) h = let n = length xs in grind (arith, nat_tests)

same_id : (n m : ℕ) → n ≡ m → (n == m) ≡ true
same_id n m e = grind (arith, nat_tests)

among-processors : (layout : Layout) (lp : ℕ) → lp < layout.lps → among lp (processors layout) ≡ true
among-processors layout lp lt = any_in_range (λ q. q == lp) layout.lps 0 lp (omega arith) (omega arith) (same_id lp lp refl)

-- ---- The cycles since an entering

-- each cycle after this place waits for the processor
abbrev AllWaitFor : ℕ → ℕ → List Cycle → Type 0
AllWaitFor lp place [] = Unit {0}
AllWaitFor lp place (cycle ∷ older) = (place < cycle.at → among lp cycle.waiting ≡ true) × AllWaitFor lp place older

none_since : (lp place : ℕ) (all : List Cycle) → AtMost place all → AllWaitFor lp place all
none_since lp place [] h = tt
none_since lp place (cycle ∷ older) h = (λ lt. absurd (let le = h.0 in omega arith), none_since lp place older h.1)

other_left : (lp q place : ℕ) (all : List Cycle) → (lp == q) ≡ false → AllWaitFor lp place all → AllWaitFor lp place (map (without q) all)
other_left lp q place [] e h = tt
other_left lp q place (cycle ∷ older) e h =
    (λ lt. among-filter (λ r. not (r == q)) lp cycle.waiting (ap not e) (h.0 lt), other_left lp q place older e h.1)

some_is : (a b : ℕ) → Some a ≡ Some b → a ≡ b
some_is a b h = cc

module _ (layout : Layout) (lp : ℕ) (known : lp < layout.lps) where
  entered : (past : History) (b : Bool) (place : ℕ) (before : Option ℕ) → (if b then Some (length past + 1) else before) ≡ Some place →
      AtMost (length past) (cycles layout past) → (before ≡ Some place → AllWaitFor lp place (cycles layout past)) → AllWaitFor lp place (cycles layout past)
  entered past true place before h low old =
      let e : length past + 1 ≡ place = some_is _ _ h in none_since lp place (cycles layout past) (more (cycles layout past) low)
    where
      more : (all : List Cycle) → AtMost (length past) all → AtMost place all
      more [] low = tt
      more (cycle ∷ older) low = let e : length past + 1 ≡ place = some_is _ _ h in let le = low.0 in (omega arith, more older low.1)
  entered past false place before h low old = old h

  left : (past : History) (q place : ℕ) (b : Bool) (before : Option ℕ) → (lp == q) ≡ b → (if b then None else before) ≡ Some place →
      (before ≡ Some place → AllWaitFor lp place (cycles layout past)) → AllWaitFor lp place (map (without q) (cycles layout past))
  left past q place true before e h old = absurd (cc)
  left past q place false before e h old = other_left lp q place (cycles layout past) e (old h)

  one_more : (past : History) (c : Change) (place : ℕ) → since_after c lp (length past + 1) (since past lp) ≡ Some place →
      AtMost (length past) (cycles layout past) → (since past lp ≡ Some place → AllWaitFor lp place (cycles layout past)) →
      AllWaitFor lp place (cycles_after layout past c (cycles layout past))
  one_more past (Enters q v) place h low old = entered past (lp == q) place (since past lp) h low old
  one_more past (Resumes q) place h low old = entered past (lp == q) place (since past lp) h low old
  one_more past (Exits q exit) place h low old = left past q place (lp == q) (since past lp) refl h old
  one_more past (Interrupts q) place h low old = left past q place (lp == q) (since past lp) refl h old
  one_more past Cycles place h low old =
      (λ lt. among-filter (inside past) lp (processors layout) (ap is_some h) (among-processors layout lp known), old h)
  one_more past Unchanged place h low old = old h
  one_more past (Maps p f flags) place h low old = old h
  one_more past (Blocks f) place h low old = old h
  one_more past (WritesOut f va i k) place h low old = old h
  one_more past (Loads f k p va i blocked) place h low old = old h
  one_more past (Removes f) place h low old = old h
  one_more past (MakesVa f) place h low old = old h
  one_more past (Discards k) place h low old = old h

  all_wait : (past : History) (place : ℕ) → since past lp ≡ Some place → AllWaitFor lp place (cycles layout past)
  all_wait [] place h = tt
  all_wait (pair ∷ past) place h =
      one_more past (change_of pair) place h (descend_most (length past) (cycles layout past) (cycles-descend layout past)) (all_wait past place)

  not_over : (place block : ℕ) (all : List Cycle) → place < block → AllWaitFor lp place all → over_after (Some block) all ≡ false
  not_over place block [] lt h = refl
  not_over place block (cycle ∷ older) lt h = by_order (not_over place block older lt h.1) (nat_lt block cycle.at) refl
    where
      by_order : over_after (Some block) older ≡ false → (b : Bool) → nat_lt block cycle.at ≡ b → ((nat_lt block cycle.at && is_over cycle) || over_after (Some block) older) ≡ false
      by_order rest true e =
          let after = ltb-true block cycle.at e in
          let waits : is_over cycle ≡ false = among-length lp cycle.waiting (h.0 (omega arith)) in
          rw (e, waits) rest
      by_order rest false e = rw e rest

  -- a frame that was blocked after the processor entered is not tracked while it is inside
  pub not_tracked_since : (past : History) (place block : ℕ) → since past lp ≡ Some place → place < block → over_after (Some block) (cycles layout past) ≡ false
  not_tracked_since past place block is lt = not_over place block (cycles layout past) lt (all_wait past place is)
