-- A cycle waits for just those processors that were inside before it and have not left since.
use Rattle.std.proofs.Common.{◌≡◌, ℕ, suc, ◌+◌, ◌-◌, ◌<◌, ◌≤◌, List, [], ◌∷◌, length, drop, map, arith, refl, ap, sym, ◌∙◌}
use Rattle.std.specs.Prelude.{Bool, true, false, not, ◌&&◌, ◌||◌, filter, cond, nat_le, ◌==◌}
use Rattle.std.proofs.lemmas.Bool.{le-leb, lt-leb}
use Rattle.ak_core.specs.Layout.{Layout}
use Rattle.ak_model.specs.Paging.Histories.{History, Pair, first, Change, Unchanged, Maps, Blocks, Cycles, WritesOut, Loads, Removes, MakesVa, Discards, Enters, Resumes, Exits, Interrupts, change_of}
use Rattle.ak_model.specs.Paging.Inside.{inside, processors}
use Rattle.ak_model.specs.Laws.Waiting.{leaves, left_since, Waits, AllWait}
use Rattle.ak_model.specs.Paging.Tracking.{Cycle, without, cycles, cycles_after}

filter_all : (test : ℕ → Bool) (xs : List ℕ) → ((x : ℕ) → test x ≡ true) → filter test xs ≡ xs
filter_all test [] h = refl
filter_all test (x ∷ xs) h = let e = h x in rw e (ap (λ l. x ∷ l) (filter_all test xs h))

filter_same : (f g : ℕ → Bool) (xs : List ℕ) → ((x : ℕ) → f x ≡ g x) → filter f xs ≡ filter g xs
filter_same f g [] h = refl
filter_same f g (x ∷ xs) h =
    ap (λ b. cond b (x ∷ filter f xs) (filter f xs)) (h x) ∙ ap (λ l. cond (g x) (x ∷ l) l) (filter_same f g xs h)

twice_by : (f g : ℕ → Bool) (x : ℕ) (xs : List ℕ) (b : Bool) → g x ≡ b → filter f (filter g xs) ≡ filter (λ y. f y && g y) xs → filter f (cond b (x ∷ filter g xs) (filter g xs)) ≡ cond (f x && b) (x ∷ filter (λ y. f y && g y) xs) (filter (λ y. f y && g y) xs)
twice_by f g x xs true e h = both (f x)
  where
    both : (c : Bool) → cond c (x ∷ filter f (filter g xs)) (filter f (filter g xs)) ≡ cond (c && true) (x ∷ filter (λ y. f y && g y) xs) (filter (λ y. f y && g y) xs)
    both true = ap (λ l. x ∷ l) h
    both false = h
twice_by f g x xs false e h = none (f x)
  where
    none : (c : Bool) → filter f (filter g xs) ≡ cond (c && false) (x ∷ filter (λ y. f y && g y) xs) (filter (λ y. f y && g y) xs)
    none true = h
    none false = h

filter_twice : (f g : ℕ → Bool) (xs : List ℕ) → filter f (filter g xs) ≡ filter (λ y. f y && g y) xs
filter_twice f g [] = refl
filter_twice f g (x ∷ xs) = twice_by f g x xs (g x) refl (filter_twice f g xs)

-- nobody leaves after the newest place
none_after : (past : History) (t q : ℕ) → length past < t → left_since past t q ≡ false
none_after [] t q h = refl
none_after (pair ∷ past) t q h =
    let late : nat_le t (length past) ≡ false = lt-leb t (length past) (omega arith) in
    rw late (neither (leaves (change_of pair) q) (none_after past t q (omega arith)))
  where
    neither : (b : Bool) → left_since past t q ≡ false → ((b && false) || left_since past t q) ≡ false
    neither true e = e
    neither false e = e

module _ (layout : Layout) where
  same_first : (pair : Pair) (past : History) (t : ℕ) → 1 ≤ t → t ≤ length past → first (pair ∷ past) (t - 1) ≡ first past (t - 1)
  same_first pair past t low high =
      let e : suc (length past) - (t - 1) ≡ suc (length past - (t - 1)) = omega arith in
      ap (λ n. drop n (pair ∷ past)) e

  -- nobody leaves by this change
  stays_fine : (pair : Pair) (past : History) (cycle : Cycle) → ((q : ℕ) → leaves (change_of pair) q ≡ false) → Waits layout past cycle → Waits layout (pair ∷ past) cycle
  stays_fine pair past cycle none h = record {
    low = h.low;
    high = let e = h.high in omega arith;
    waiting = h.waiting
        ∙ ap (λ older. filter (λ q. not (left_since past cycle.at q)) (filter (inside older) (processors layout))) (sym (same_first pair past cycle.at h.low h.high))
        ∙ filter_same _ _ (filter (inside (first (pair ∷ past) (cycle.at - 1))) (processors layout)) (λ q. let e = none q in rw e refl);
  }

  all_stay : (pair : Pair) (past : History) (all : List Cycle) → ((q : ℕ) → leaves (change_of pair) q ≡ false) → AllWait layout past all → AllWait layout (pair ∷ past) all
  all_stay pair past [] none h = tt
  all_stay pair past (cycle ∷ older) none h = (stays_fine pair past cycle none h.0, all_stay pair past older none h.1)

  -- a processor leaves
  left_fine : (pair : Pair) (past : History) (cycle : Cycle) (lp : ℕ) → ((q : ℕ) → leaves (change_of pair) q ≡ (q == lp)) → Waits layout past cycle → Waits layout (pair ∷ past) (without lp cycle)
  left_fine pair past cycle lp is h = record {
    low = h.low;
    high = let e = h.high in omega arith;
    waiting =
        ap (filter (λ q. not (q == lp))) h.waiting
        ∙ filter_twice (λ q. not (q == lp)) (λ q. not (left_since past cycle.at q)) (filter (inside (first past (cycle.at - 1))) (processors layout))
        ∙ ap (λ older. filter (λ q. not (q == lp) && not (left_since past cycle.at q)) (filter (inside older) (processors layout))) (sym (same_first pair past cycle.at h.low h.high))
        ∙ filter_same _ _ (filter (inside (first (pair ∷ past) (cycle.at - 1))) (processors layout)) (λ q. at q);
  }
    where
      either : (a b : Bool) → (not a && not b) ≡ not ((a && true) || b)
      either true b = refl
      either false b = refl

      at : (q : ℕ) → (not (q == lp) && not (left_since past cycle.at q)) ≡ not (left_since (pair ∷ past) cycle.at q)
      at q =
          let e = is q in let early : nat_le cycle.at (length past) ≡ true = le-leb cycle.at (length past) h.high in
          rw (e, early) (either (q == lp) (left_since past cycle.at q))

  all_left : (pair : Pair) (past : History) (all : List Cycle) (lp : ℕ) → ((q : ℕ) → leaves (change_of pair) q ≡ (q == lp)) → AllWait layout past all → AllWait layout (pair ∷ past) (map (without lp) all)
  all_left pair past [] lp is h = tt
  all_left pair past (cycle ∷ older) lp is h = (left_fine pair past cycle lp is h.0, all_left pair past older lp is h.1)

  -- a new cycle
  new_fine : (pair : Pair) (past : History) → Waits layout (pair ∷ past) (record { at = length past + 1; waiting = filter (inside past) (processors layout) })
  new_fine pair past =
      let at : suc (length past) - (length past + 1 - 1) ≡ 1 = omega arith in
      let same : first (pair ∷ past) (length past + 1 - 1) ≡ past = ap (λ n. drop n (pair ∷ past)) at in
      record {
        low = omega arith;
        high = omega arith;
        waiting = sym (ap (λ older. filter (λ q. not (left_since (pair ∷ past) (length past + 1) q)) (filter (inside older) (processors layout))) same
            ∙ filter_all _ (filter (inside past) (processors layout)) (λ q. none q));
      }
    where
      neither : (a b : Bool) → b ≡ false → not ((a && false) || b) ≡ true
      neither true b e = ap not e
      neither false b e = ap not e

      none : (q : ℕ) → not (left_since (pair ∷ past) (length past + 1) q) ≡ true
      none q =
          let late : nat_le (length past + 1) (length past) ≡ false = lt-leb (length past + 1) (length past) (omega arith) in
          rw late (neither (leaves (change_of pair) q) (left_since past (length past + 1) q) (none_after past (length past + 1) q (omega arith)))

  -- the cycles after one more pair, by its change
  one_more : (pair : Pair) (past : History) (c : Change) → change_of pair ≡ c → AllWait layout past (cycles layout past) → AllWait layout (pair ∷ past) (cycles_after layout past c (cycles layout past))
  one_more pair past Cycles e h =
      (new_fine pair past, all_stay pair past (cycles layout past) (λ q. ap (λ c. leaves c q) e) h)
  one_more pair past (Exits lp exit) e h = all_left pair past (cycles layout past) lp (λ q. ap (λ c. leaves c q) e) h
  one_more pair past (Interrupts lp) e h = all_left pair past (cycles layout past) lp (λ q. ap (λ c. leaves c q) e) h
  one_more pair past Unchanged e h = all_stay pair past (cycles layout past) (λ q. ap (λ c. leaves c q) e) h
  one_more pair past (Maps p f flags) e h = all_stay pair past (cycles layout past) (λ q. ap (λ c. leaves c q) e) h
  one_more pair past (Blocks f) e h = all_stay pair past (cycles layout past) (λ q. ap (λ c. leaves c q) e) h
  one_more pair past (WritesOut f va i k) e h = all_stay pair past (cycles layout past) (λ q. ap (λ c. leaves c q) e) h
  one_more pair past (Loads f k p va i blocked) e h = all_stay pair past (cycles layout past) (λ q. ap (λ c. leaves c q) e) h
  one_more pair past (Removes f) e h = all_stay pair past (cycles layout past) (λ q. ap (λ c. leaves c q) e) h
  one_more pair past (MakesVa f) e h = all_stay pair past (cycles layout past) (λ q. ap (λ c. leaves c q) e) h
  one_more pair past (Discards k) e h = all_stay pair past (cycles layout past) (λ q. ap (λ c. leaves c q) e) h
  one_more pair past (Enters lp v) e h = all_stay pair past (cycles layout past) (λ q. ap (λ c. leaves c q) e) h
  one_more pair past (Resumes lp) e h = all_stay pair past (cycles layout past) (λ q. ap (λ c. leaves c q) e) h

  -- each cycle waits for the processors that were inside before it and have not left since
  pub cycles-wait : (past : History) → AllWait layout past (cycles layout past)
  cycles-wait [] = tt
  cycles-wait (pair ∷ past) = one_more pair past (change_of pair) refl (cycles-wait past)
