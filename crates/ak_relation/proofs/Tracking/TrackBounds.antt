-- How far the places of cycles and stamps go.
use Rattle.std.proofs.Common.{◌≡◌, ℕ, zero, suc, ◌≤◌, List, [], ◌∷◌, length, map, refl, ap, ◌∙◌, arith}
use Rattle.std.specs.Prelude.{Bool, false, not, filter, cond, replicate, ◌==◌}
use Rattle.ak_model.specs.Paging.Histories.{History, Change, Unchanged, Maps, Blocks, Cycles, WritesOut, Loads, Removes, MakesVa, Discards, Enters, Resumes, Exits, Interrupts, change_of}
use Rattle.ak_model.specs.Paging.Tracking.{Cycle, without}
use Rattle.ak_model.proofs.Paging.BlockPlaces.{Bounded, bounded_more, bounded_after}
use Rattle.ak_track.specs.Steps.{TrackStep, Cycled, inside_by}
use Rattle.ak_relation.specs.State.TrackSteps.{steps_after, steps_of, stamp_of}

-- ---- Stamps

steps_grow : (c : Change) (steps : List TrackStep) → length steps ≤ length (steps_after c steps)
steps_grow (Enters lp v) steps = omega arith
steps_grow (Resumes lp) steps = omega arith
steps_grow (Exits lp exit) steps = omega arith
steps_grow (Interrupts lp) steps = omega arith
steps_grow Cycles steps = omega arith
steps_grow Unchanged steps = omega arith
steps_grow (Maps p f flags) steps = omega arith
steps_grow (Blocks f) steps = omega arith
steps_grow (WritesOut f va i k) steps = omega arith
steps_grow (Loads f k p va i blocked) steps = omega arith
steps_grow (Removes f) steps = omega arith
steps_grow (MakesVa f) steps = omega arith
steps_grow (Discards k) steps = omega arith

-- a stamp is not to come
pub stamp_bounded : (past : History) (f : ℕ) → Bounded (length (steps_of past)) (stamp_of past f)
stamp_bounded [] f = tt
stamp_bounded (pair ∷ past) f =
    let grow = steps_grow (change_of pair) (steps_of past) in
    bounded_after (change_of pair) f (length (steps_of past)) (length (steps_of (pair ∷ past))) (stamp_of past f) grow
    (bounded_more (length (steps_of past)) (length (steps_of (pair ∷ past))) _ grow (stamp_bounded past f))

-- ---- The cycles of the build

-- cycles of the build: early ones, which wait for nobody
abbrev pub AreBuilt : ℕ → List Cycle → Type 0
AreBuilt built [] = Unit {0}
AreBuilt built (cycle ∷ older) = (cycle.at ≤ built) × (cycle.waiting ≡ []) × AreBuilt built older

-- before a later place too
pub built_more : (n m : ℕ) (all : List Cycle) → n ≤ m → AreBuilt n all → AreBuilt m all
built_more n m [] le h = tt
built_more n m (cycle ∷ older) le h = let low = h.0 in (omega arith, h.1, built_more n m older le h.2)

-- a processor left
pub built_without : (lp n : ℕ) (all : List Cycle) → AreBuilt n all → AreBuilt n (map (without lp) all)
built_without lp n [] h = tt
built_without lp n (cycle ∷ older) h = (h.0, ap (filter (λ q. not (q == lp))) h.1, built_without lp n older h.2)

-- tests that agree
pub filter_same : (f g : ℕ → Bool) (xs : List ℕ) → ((x : ℕ) → f x ≡ g x) → filter f xs ≡ filter g xs
filter_same f g [] h = refl
filter_same f g (x ∷ xs) h =
    ap (λ b. cond b (x ∷ filter f xs) (filter f xs)) (h x) ∙ ap (λ l. cond (g x) (x ∷ l) l) (filter_same f g xs h)

-- cycles let nobody in
pub nobody : (n lp : ℕ) → inside_by (replicate n Cycled) lp ≡ false
nobody zero lp = refl
nobody (suc n) lp = nobody n lp
