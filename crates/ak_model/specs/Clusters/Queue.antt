-- The clusters that are in: first in, first out, within the budget of pages. (The Autarky paper's page clusters.)
use Rattle.std.specs.Prelude.{ℕ, suc, ◌+◌, Bool, List, [], ◌∷◌, ◌++◌, drop, nat_le, fold, sum_by, ◌==◌, if◌then◌else◌}
use Rattle.std.specs.List.{list_any}
use Rattle.ak_core.specs.Layout.{Layout, size_of}

-- how many pages these clusters have together
abbrev pub total_size : Layout → List ℕ → ℕ
total_size layout queue = sum_by (size_of layout.cluster_of) queue

-- how many clusters must leave the front so that the rest and c fit the budget: the fewest that will do
abbrev pub drops : Layout → List ℕ → ℕ → ℕ
drops layout [] c = 0
drops layout (x ∷ queue) c =
    if nat_le (total_size layout (x ∷ queue) + size_of layout.cluster_of c) layout.budget then 0 else suc (drops layout queue c)

-- the queue after a miss of c was served
abbrev pub after_miss : Layout → List ℕ → ℕ → List ℕ
after_miss layout queue c = drop (drops layout queue c) queue ++ c ∷ []

-- the queue after these misses, in order. After the build no cluster is in
abbrev pub queue_after : Layout → List ℕ → List ℕ
queue_after layout misses = fold (after_miss layout) [] misses

-- the cluster stands in the queue
abbrev pub is_in : List ℕ → ℕ → Bool
is_in queue c = list_any (λ x. x == c) queue
