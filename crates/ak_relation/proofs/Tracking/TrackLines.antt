-- The cycles of the steps and those of the history, side by side: so a frame is tracked by the one just where it is by the other.
use Rattle.std.proofs.Common.{◌≡◌, ℕ, ◌+◌, ◌≤◌, List, [], ◌∷◌, ◌++◌, length, map, refl, ap, sym, ◌∙◌, arith}
use Rattle.std.proofs.lemmas.Bool.{le-ltb}
use Rattle.std.specs.Prelude.{Bool, true, false, ◌&&◌, ◌||◌, not, filter, replicate, nat_lt, Option, Some, None, is_some, ◌==◌, if◌then◌else◌}
use Rattle.ak_model.specs.Paging.Histories.{History, Change, Unchanged, Maps, Blocks, Cycles, WritesOut, Loads, Removes, MakesVa, Discards, Enters, Resumes, Exits, Interrupts, change_of}
use Rattle.ak_model.specs.Paging.Frames.{blocked_after, blocks_first}
use Rattle.ak_model.specs.Paging.Inside.{since, since_after, inside}
use Rattle.ak_model.specs.Paging.Tracking.{Cycle, without, is_over, over_after, last_is_over}
use Rattle.ak_track.specs.Steps.{TrackStep, Cycled, inside_by}
use Rattle.ak_relation.specs.State.TrackSteps.{steps_after, steps_of}
use Rattle.ak_model.proofs.Paging.DescendingCycles.{AtMost}
use Rattle.ak_relation.proofs.Tracking.TrackBounds.{AreBuilt, built_without, nobody}

-- ---- Who is inside

within : (c : Change) (lp n : ℕ) (before : Option ℕ) (steps base : List TrackStep) → is_some before ≡ inside_by (steps ++ base) lp →
    is_some (since_after c lp n before) ≡ inside_by (steps_after c steps ++ base) lp
within (Enters q v) lp n before steps base h = by_test (lp == q) h
  where
    by_test : (b : Bool) → is_some before ≡ inside_by (steps ++ base) lp → is_some (if b then Some n else before) ≡ (if b then true else inside_by (steps ++ base) lp)
    by_test true h = refl
    by_test false h = h
within (Resumes q) lp n before steps base h = by_test (lp == q) h
  where
    by_test : (b : Bool) → is_some before ≡ inside_by (steps ++ base) lp → is_some (if b then Some n else before) ≡ (if b then true else inside_by (steps ++ base) lp)
    by_test true h = refl
    by_test false h = h
within (Exits q exit) lp n before steps base h = by_test (lp == q) h
  where
    by_test : (b : Bool) → is_some before ≡ inside_by (steps ++ base) lp → is_some (if b then None else before) ≡ (if b then false else inside_by (steps ++ base) lp)
    by_test true h = refl
    by_test false h = h
within (Interrupts q) lp n before steps base h = by_test (lp == q) h
  where
    by_test : (b : Bool) → is_some before ≡ inside_by (steps ++ base) lp → is_some (if b then None else before) ≡ (if b then false else inside_by (steps ++ base) lp)
    by_test true h = refl
    by_test false h = h
within Cycles lp n before steps base h = h
within Unchanged lp n before steps base h = h
within (Maps p f flags) lp n before steps base h = h
within (Blocks f) lp n before steps base h = h
within (WritesOut f va i k) lp n before steps base h = h
within (Loads f k p va i blocked) lp n before steps base h = h
within (Removes f) lp n before steps base h = h
within (MakesVa f) lp n before steps base h = h
within (Discards k) lp n before steps base h = h

-- a processor is inside by the steps just where it is by the history
pub inside-steps : (built : ℕ) (past : History) (lp : ℕ) → inside past lp ≡ inside_by (steps_of past ++ replicate built Cycled) lp
inside-steps built [] lp = sym (nobody built lp)
inside-steps built (pair ∷ past) lp =
    within (change_of pair) lp (length past + 1) (since past lp) (steps_of past) (replicate built Cycled) (inside-steps built past lp)

-- ---- Lines

module _ (built : ℕ) where
  -- a block and its stamp are before the same cycles
  abbrev pub SameOrder : Option ℕ → Option ℕ → Cycle → Cycle → Type 0
  SameOrder None None c d = Unit {0}
  SameOrder (Some place) (Some stamp) c d = nat_lt place c.at ≡ nat_lt (built + stamp) d.at
  SameOrder None (Some stamp) c d = ⊥
  SameOrder (Some place) None c d = ⊥

  -- the same cycles, over those of the build
  abbrev pub Lined : Option ℕ → Option ℕ → List Cycle → List Cycle → Type 0
  Lined o s [] base = AreBuilt built base
  Lined o s (c ∷ cs) [] = ⊥
  Lined o s (c ∷ cs) (d ∷ ds) = (c.waiting ≡ d.waiting) × SameOrder o s c d × Lined o s cs ds

  -- a processor leaves
  pub lined_without : (lp : ℕ) (o s : Option ℕ) (cs ds : List Cycle) → Lined o s cs ds → Lined o s (map (without lp) cs) (map (without lp) ds)
  lined_without lp o s [] ds h = built_without lp built ds h
  lined_without lp o s (c ∷ cs) [] h = absurd h
  lined_without lp o s (c ∷ cs) (d ∷ ds) h =
      (ap (filter (λ q. not (q == lp))) h.0, order o s h.1, lined_without lp o s cs ds h.2)
    where
      order : (o s : Option ℕ) → SameOrder o s c d → SameOrder o s (without lp c) (without lp d)
      order None None h = tt
      order (Some x) (Some y) h = h
      order None (Some y) h = h
      order (Some x) None h = h

  -- no block
  lined_none : (o s : Option ℕ) (cs ds : List Cycle) → Lined o s cs ds → Lined None None cs ds
  lined_none o s [] ds h = h
  lined_none o s (c ∷ cs) [] h = h
  lined_none o s (c ∷ cs) (d ∷ ds) h = (h.0, tt, lined_none o s cs ds h.2)

  -- a new block, after all cycles
  lined_new : (n k : ℕ) (o s : Option ℕ) (cs ds : List Cycle) → AtMost n cs → AtMost (built + k) ds → Lined o s cs ds → Lined (Some n) (Some k) cs ds
  lined_new n k o s [] ds low high h = h
  lined_new n k o s (c ∷ cs) [] low high h = h
  lined_new n k o s (c ∷ cs) (d ∷ ds) low high h =
      (h.0, le-ltb n c.at low.0 ∙ sym (le-ltb (built + k) d.at high.0), lined_new n k o s cs ds low.1 high.1 h.2)

  lined_if : (b : Bool) (o s x y : Option ℕ) (cs ds : List Cycle) → Lined x y cs ds → Lined o s cs ds → Lined (if b then x else o) (if b then y else s) cs ds
  lined_if true o s x y cs ds h k = h
  lined_if false o s x y cs ds h k = k

  -- the block of a frame after one more change
  pub lined_block : (c : Change) (f n k : ℕ) (o s : Option ℕ) (cs ds : List Cycle) → is_some s ≡ is_some o → AtMost n cs → AtMost (built + k) ds →
      Lined o s cs ds → Lined (blocked_after c f n o) (blocked_after c f k s) cs ds
  lined_block (Blocks g) f n k o s cs ds both low high h = first_block o s both h
    where
      first_block : (o s : Option ℕ) → is_some s ≡ is_some o → Lined o s cs ds → Lined (if f == g then blocks_first o n else o) (if f == g then blocks_first s k else s) cs ds
      first_block None None both h = lined_if (f == g) None None (Some n) (Some k) cs ds (lined_new n k None None cs ds low high h) h
      first_block (Some x) (Some y) both h = lined_if (f == g) (Some x) (Some y) (Some x) (Some y) cs ds h h
      first_block None (Some y) both h = absurd (cc)
      first_block (Some x) None both h = absurd (cc)
  lined_block (Loads g l p va i true) f n k o s cs ds both low high h = lined_if (f == g) o s (Some n) (Some k) cs ds (lined_new n k o s cs ds low high h) h
  lined_block (Loads g l p va i false) f n k o s cs ds both low high h = lined_if (f == g) o s None None cs ds (lined_none o s cs ds h) h
  lined_block (MakesVa g) f n k o s cs ds both low high h = lined_if (f == g) o s None None cs ds (lined_none o s cs ds h) h
  lined_block (WritesOut g va i l) f n k o s cs ds both low high h = lined_if (f == g) o s None None cs ds (lined_none o s cs ds h) h
  lined_block (Removes g) f n k o s cs ds both low high h = lined_if (f == g) o s None None cs ds (lined_none o s cs ds h) h
  lined_block Unchanged f n k o s cs ds both low high h = h
  lined_block (Maps p g flags) f n k o s cs ds both low high h = h
  lined_block Cycles f n k o s cs ds both low high h = h
  lined_block (Discards l) f n k o s cs ds both low high h = h
  lined_block (Enters lp v) f n k o s cs ds both low high h = h
  lined_block (Resumes lp) f n k o s cs ds both low high h = h
  lined_block (Exits lp exit) f n k o s cs ds both low high h = h
  lined_block (Interrupts lp) f n k o s cs ds both low high h = h

  -- ---- What lines tell

  over_built : (n : ℕ) (base : List Cycle) → built ≤ n → AreBuilt built base → over_after (Some n) base ≡ false
  over_built n [] le h = refl
  over_built n (d ∷ ds) le h = let low = h.0 in let e : nat_lt n d.at ≡ false = le-ltb n d.at (omega arith) in rw e (over_built n ds le h.2)

  -- a cycle since the block is over just where one since the stamp is
  pub lined-over : (place stamp : ℕ) (cs ds : List Cycle) → Lined (Some place) (Some stamp) cs ds → over_after (Some place) cs ≡ over_after (Some (built + stamp)) ds
  lined-over place stamp [] ds h = sym (over_built (built + stamp) ds (omega arith) h)
  lined-over place stamp (c ∷ cs) [] h = absurd h
  lined-over place stamp (c ∷ cs) (d ∷ ds) h =
      ap (λ b. (b && is_over c) || over_after (Some place) cs) h.1
      ∙ ap (λ w. (nat_lt (built + stamp) d.at && (length w == 0)) || over_after (Some place) cs) h.0
      ∙ ap (λ b. (nat_lt (built + stamp) d.at && is_over d) || b) (lined-over place stamp cs ds h.2)

  -- and so is the last cycle
  pub lined-last : (o s : Option ℕ) (cs ds : List Cycle) → Lined o s cs ds → last_is_over cs ≡ last_is_over ds
  lined-last o s [] [] h = refl
  lined-last o s [] (d ∷ ds) h = sym (ap (λ w. length w == 0) h.1)
  lined-last o s (c ∷ cs) [] h = absurd h
  lined-last o s (c ∷ cs) (d ∷ ds) h = ap (λ w. length w == 0) h.0
