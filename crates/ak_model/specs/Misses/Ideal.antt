-- The misses that the program's own accesses force: those of a cache of whole clusters, first in, first out.
use Rattle.std.specs.Prelude.{length, ℕ, zero, suc, not, List, [], ◌∷◌, fold, find, Option, Some, None}
use Rattle.ak_core.specs.Layout.{Layout}
use Rattle.ak_core.specs.Mem.{Access}
use Rattle.ak_model.specs.Paging.Pages.{cluster_at}
use Rattle.ak_model.specs.Clusters.Queue.{after_miss, is_in}
use Rattle.ak_model.specs.Flat.FlatRuns.{FlatRun, flat_run}
use Rattle.ak_model.specs.Misses.Reached.{accesses_next, permitted_accesses}

-- the accesses of a run's next instruction, up to the first forbidden one
abbrev pub accesses_of : Layout → Option FlatRun → List Access
accesses_of layout run = permitted_accesses layout (accesses_next layout run)

-- the first access whose cluster is out
abbrev pub first_out : Layout → List ℕ → List Access → Option Access
first_out layout queue accesses = find (λ t. not (is_in queue (cluster_at layout t.page.0))) accesses

-- a miss, and what comes after it
abbrev pub missed : Layout → List ℕ → Option Access → (List ℕ → List ℕ) → List ℕ
missed layout queue None next = []
missed layout queue (Some t) next = let c = cluster_at layout t.page.0 in c ∷ next (after_miss layout queue c)

-- the misses of these accesses, n at most: while a cluster of theirs is out, the first such is missed and the accesses
-- begin anew
abbrev pub misses_of : Layout → List Access → ℕ → List ℕ → List ℕ
misses_of layout accesses zero queue = []
misses_of layout accesses (suc n) queue = missed layout queue (first_out layout queue accesses) (misses_of layout accesses n)

-- the misses of these accesses, from this queue on. Each access gives one miss at most, since its cluster stays in
abbrev pub misses_from : Layout → List Access → List ℕ → List ℕ
misses_from layout accesses queue = misses_of layout accesses (length accesses) queue

-- the clusters that are in before instruction i
abbrev pub ideal_queue : Layout → List ℕ → List ℕ → ℕ → List ℕ
ideal_queue layout image answers zero = []
ideal_queue layout image answers (suc i) =
    fold (after_miss layout) (ideal_queue layout image answers i)
    (misses_from layout (accesses_of layout (flat_run layout image answers i)) (ideal_queue layout image answers i))

-- the misses of instruction i; none where the flat run does not come to it
abbrev pub ideal : Layout → List ℕ → List ℕ → ℕ → List ℕ
ideal layout image answers i =
    misses_from layout (accesses_of layout (flat_run layout image answers i)) (ideal_queue layout image answers i)
