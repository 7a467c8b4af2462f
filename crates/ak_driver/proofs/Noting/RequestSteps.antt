-- What is kept of the clusters and the request, step by step.
use Rattle.std.proofs.Common.{◌≡◌, ℕ, zero, suc, ◌+◌, ◌≤◌, Bool, true, false, ◌==◌, if◌then◌else◌, List, [], ◌∷◌, ◌++◌, length, take, drop, refl, ap, ◌∙◌, subst, arith}
use Rattle.std.specs.Prelude.{Option, Some, None, min, nat_lt}
use Rattle.ak_core.specs.Layout.{Layout, IsValid, number_on, numbers_from}
use Rattle.ak_core.specs.declared.moves.Exit.{Exit}
use Rattle.ak_core.specs.declared.moves.Exit.TheVariants.{Still, Pf, Vector, Call, Ask, Ready, Nothing, Stopped, Ended, Trapped}
use Rattle.ak_model.specs.Kernels.Counted.{Service, with_served, service_by, service_after}
use Rattle.ak_driver.specs.Changes.{told}
use Rattle.ak_driver.specs.NotedRequests.{RequestNote, asked_in, note_by, note_after, open_request, AreRequests}
use Rattle.ak_driver.specs.declared.changes.Change.{Change}
use Rattle.ak_driver.specs.declared.changes.Change.TheVariants.{Unchanged, Maps, Blocks, Cycles, WritesOut, Loads, Removes, MakesVa, Discards, Enters, Resumes, Exits, Interrupts}

-- as many as there are, at most
drop-min : (xs : List ℕ) (d : ℕ) → drop (min (length xs) d) xs ≡ drop d xs
drop-min [] d = by (min 0 d) d
  where
    by : (a b : ℕ) → drop {A = ℕ} a [] ≡ drop {A = ℕ} b []
    by zero zero = refl
    by zero (suc b) = refl
    by (suc a) zero = refl
    by (suc a) (suc b) = refl
drop-min (x ∷ xs) zero = let e : min (suc (length xs)) 0 ≡ 0 = omega arith in ap (λ (n : ℕ). drop n (x ∷ xs)) e
drop-min (x ∷ xs) (suc d) =
    let e : min (suc (length xs)) (suc d) ≡ suc (min (length xs) d) = omega arith in
    ap (λ (n : ℕ). drop n (x ∷ xs)) e ∙ drop-min xs d

take-min : (xs : List ℕ) (d : ℕ) → take (min (length xs) d) xs ≡ take d xs
take-min [] d = by (min 0 d) d
  where
    by : (a b : ℕ) → take {A = ℕ} a [] ≡ take {A = ℕ} b []
    by zero zero = refl
    by zero (suc b) = refl
    by (suc a) zero = refl
    by (suc a) (suc b) = refl
take-min (x ∷ xs) zero = let e : min (suc (length xs)) 0 ≡ 0 = omega arith in ap (λ (n : ℕ). take n (x ∷ xs)) e
take-min (x ∷ xs) (suc d) =
    let e : min (suc (length xs)) (suc d) ≡ suc (min (length xs) d) = omega arith in
    ap (λ (n : ℕ). take n (x ∷ xs)) e ∙ ap (λ l. x ∷ l) (take-min xs d)

module _ (kept : RequestNote) (before : Service) (h : AreRequests kept before) where
  asked_step : (d c : ℕ) → AreRequests (note_by (Ask d c) kept) (service_by (Ask d c) before)
  asked_step d c = record {
    queue_is = drop-min (drop kept.dropped kept.clusters) d ∙ ap (drop d) h.queue_is;
    request_is = ap (λ xs. Some (record { dropped = xs; cluster = c })) (take-min (drop kept.dropped kept.clusters) d ∙ ap (take d) h.queue_is);
  }

  served_step : (o : Option ℕ) → kept.asked ≡ o → AreRequests (asked_in kept o) (with_served before (open_request o (take kept.dropped kept.clusters)))
  served_step None e = h
  served_step (Some c) e = record { queue_is = ap (λ xs. xs ++ c ∷ []) h.queue_is; request_is = refl }

  exit_step : (exit : Exit) → AreRequests (note_by exit kept) (service_by exit before)
  exit_step (Ask d c) = asked_step d c
  exit_step Ready =
      subst (λ s. AreRequests (asked_in kept kept.asked) s) (ap (with_served before) h.request_is) (served_step kept.asked refl)
  exit_step Still = h
  exit_step (Pf base code) = h
  exit_step (Vector v) = h
  exit_step (Call b a) = h
  exit_step Nothing = h
  exit_step Stopped = h
  exit_step (Ended s) = h
  exit_step (Trapped v) = h

  -- what is kept after one more change
  pub requests_step : (change : Change) → AreRequests (note_after change kept) (service_after (told change) before)
  requests_step (Exits lp exit) = exit_step exit
  requests_step Unchanged = h
  requests_step (Maps p f flags) = h
  requests_step (Blocks f) = h
  requests_step Cycles = h
  requests_step (WritesOut f va i k) = h
  requests_step (Loads f k p va i blocked) = h
  requests_step (Removes f) = h
  requests_step (MakesVa f) = h
  requests_step (Discards k) = h
  requests_step (Enters lp v) = h
  requests_step (Resumes lp) = h
  requests_step (Interrupts lp) = h

-- ---- How many clusters there are

some_is : (a b : ℕ) → Some a ≡ Some b → a ≡ b
some_is a b h = cc

numbers_most : (clusters : List ℕ) (next m : ℕ) → numbers_from clusters next ≡ Some m → m ≤ next + length clusters
numbers_most [] next m e = let s = some_is next m e in omega arith
numbers_most (c ∷ rest) next m e = known (numbers_most rest) (nat_lt c next) e
  where
    new : ((next m : ℕ) → numbers_from rest next ≡ Some m → m ≤ next + length rest) → (b : Bool) → number_on (if b then Some (next + 1) else None) (numbers_from rest) ≡ Some m → m ≤ next + length (c ∷ rest)
    new most true e = let s = most (next + 1) m e in omega arith
    new most false e = absurd (cc)

    known : ((next m : ℕ) → numbers_from rest next ≡ Some m → m ≤ next + length rest) → (b : Bool) → number_on (if b then Some next else (if c == next then Some (next + 1) else None)) (numbers_from rest) ≡ Some m → m ≤ next + length (c ∷ rest)
    known most true e = let s = most next m e in omega arith
    known most false e = new most (c == next) e

-- a layout has no more clusters than pages
pub few_clusters : (layout : Layout) → IsValid layout → layout.clusters ≤ 512
few_clusters layout valid =
    let a = numbers_most layout.cluster_of 0 layout.clusters valid.numbered in
    let b = valid.clustered in let c = valid.few_pages in omega arith
