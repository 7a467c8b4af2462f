-- The fewest clusters leave the queue.
use Rattle.std.proofs.Common.{◌≡◌, ℕ, zero, suc, ◌+◌, ◌≤◌, List, [], ◌∷◌, ◌++◌, drop, arith, refl}
use Rattle.std.specs.Prelude.{Bool, true, false, fold, nat_le, if◌then◌else◌}
use Rattle.std.proofs.lemmas.Bool.{leb-true, leb-false}
use Rattle.ak_core.specs.Layout.{Layout, size_of}
use Rattle.ak_model.specs.Clusters.Queue.{total_size, drops, after_miss, queue_after}

-- the rest of the queue and c fit the budget
abbrev pub FitsWith : Layout → List ℕ → ℕ → Type 0
FitsWith layout queue c = total_size layout queue + size_of layout.cluster_of c ≤ layout.budget

module _ (layout : Layout) (c : ℕ) where
  fit_tests : (x : ℕ) (queue : List ℕ) (b : Bool) → nat_le (total_size layout (x ∷ queue) + size_of layout.cluster_of c) layout.budget ≡ b → FitsWith layout (drop (drops layout queue c) queue) c → FitsWith layout (drop (if b then 0 else suc (drops layout queue c)) (x ∷ queue)) c
  fit_tests x queue true e h = leb-true _ _ e
  fit_tests x queue false e h = h

  -- what is left fits, where c alone does
  pub drops_fit : (queue : List ℕ) → size_of layout.cluster_of c ≤ layout.budget → FitsWith layout (drop (drops layout queue c) queue) c
  drops_fit [] h = omega arith
  drops_fit (x ∷ queue) h = fit_tests x queue (nat_le (total_size layout (x ∷ queue) + size_of layout.cluster_of c) layout.budget) refl (drops_fit queue h)

  least_tests : (x : ℕ) (queue : List ℕ) (b : Bool) → nat_le (total_size layout (x ∷ queue) + size_of layout.cluster_of c) layout.budget ≡ b → ((d : ℕ) → FitsWith layout (drop d queue) c → drops layout queue c ≤ d) → (d : ℕ) → FitsWith layout (drop d (x ∷ queue)) c → (if b then 0 else suc (drops layout queue c)) ≤ d
  least_tests x queue true e ih d h = omega arith
  least_tests x queue false e ih zero h = absurd (omega (arith, leb-false _ _ e))
  least_tests x queue false e ih (suc d) h = let le = ih d h in omega arith

  -- and no fewer would do
  pub drops_least : (queue : List ℕ) (d : ℕ) → FitsWith layout (drop d queue) c → drops layout queue c ≤ d
  drops_least [] d h = omega arith
  drops_least (x ∷ queue) d h = least_tests x queue (nat_le (total_size layout (x ∷ queue) + size_of layout.cluster_of c) layout.budget) refl (drops_least queue) d h

-- one more miss
fold_more : {A B : Type 0} (f : B → A → B) (b : B) (xs : List A) (x : A) → fold f b (xs ++ x ∷ []) ≡ f (fold f b xs) x
fold_more f b [] x = refl
fold_more f b (y ∷ xs) x = fold_more f (f b y) xs x

pub queue_after-more : (layout : Layout) (misses : List ℕ) (c : ℕ) → queue_after layout (misses ++ c ∷ []) ≡ after_miss layout (queue_after layout misses) c
queue_after-more layout misses c = fold_more (after_miss layout) [] misses c
