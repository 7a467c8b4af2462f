-- Queues of different clusters, each below 512; and how many leave.
use Rattle.std.proofs.Common.{◌≡◌, ℕ, zero, suc, ◌+◌, ◌<◌, ◌≤◌, Bool, true, false, eqb, List, [], ◌∷◌, ◌++◌, length, drop, refl, sym, subst, arith}
use Rattle.std.proofs.lemmas.Bool.{or_parts, eqb-true, eqb-false, ne_eqb}
use Rattle.std.proofs.lemmas.Bool.Decides.{nat_tests}
use Rattle.std.proofs.lemmas.List.Elements.{All-drop, All-push, All-head, All-tail}
use Rattle.std.proofs.lemmas.List.Sums.{sum_by-cons}
use Rattle.std.proofs.lemmas.Map.Steps.{length-le_from_distinct_below}
use Rattle.std.specs.Prelude.{All, nat_le, ◌==◌, ◌||◌}
use Rattle.std.specs.List.{IsDistinct as HasDistinctKeys, AllByRecursion, list_any}
use Rattle.ak_core.specs.Layout.{Layout, size_of}
use Rattle.ak_model.specs.Clusters.Queue.{drops, is_in, total_size}
use Rattle.ak_model.specs.Laws.Orderly.{IsDistinct}
use Rattle.ak_model.proofs.Clusters.DistinctQueues.{distinct-append}
use Rattle.ak_cluster.specs.QueueBytes.{IsQueue}

-- ---- How many there are

-- a cluster that is out differs from each that is in
apart : (queue : List ℕ) (c : ℕ) → is_in queue c ≡ false → AllByRecursion (λ y. eqb c y ≡ false) queue
apart [] c out = tt
apart (x ∷ queue) c out =
    let parts = or_parts (x == c) (is_in queue c) out in
    (ne_eqb c x (λ same. eqb-false x c parts.0 (sym same)), apart queue c parts.1)

distinct_keys : (queue : List ℕ) → IsDistinct queue → HasDistinctKeys eqb queue
unfolding HasDistinctKeys
distinct_keys [] h = tt
distinct_keys (c ∷ queue) h = (apart queue c h.0, distinct_keys queue h.1)

below_by : (b rest : Bool) (x q : ℕ) → eqb q x ≡ b → (b || rest) ≡ true → x < 512 → (rest ≡ true → q < 512) → q < 512
below_by true rest x q is there low more = let same = eqb-true q x is in omega arith
below_by false rest x q is there low more = more there

below : (queue : List ℕ) → All (λ c. c < 512) queue → (q : ℕ) → list_any (eqb q) queue ≡ true → q < 512
below [] h q there = cc
below (x ∷ queue) h q there =
    below_by (eqb q x) (list_any (eqb q) queue) x q refl there (All-head (λ c. c < 512) x queue h) (below queue (All-tail (λ c. c < 512) x queue h) q)

-- a queue has 512 clusters at most
pub few_clusters : (queue : List ℕ) → IsQueue queue → length queue ≤ 512
few_clusters queue h = length-le_from_distinct_below queue 512 (distinct_keys queue h.distinct) (below queue h.known)

-- ---- What comes and leaves

-- there is room for one that is out
pub room_for : (queue : List ℕ) (c : ℕ) → IsQueue queue → c < 512 → is_in queue c ≡ false → length queue < 512
room_for queue c h low out =
    let front : IsQueue (c ∷ queue) = record { distinct = (out, h.distinct); known = grind arith } in omega (arith, few_clusters (c ∷ queue) front)

pub queue-append : (queue : List ℕ) (c : ℕ) → IsQueue queue → c < 512 → is_in queue c ≡ false → IsQueue (queue ++ c ∷ [])
queue-append queue c h low out = record {
  distinct = distinct-append queue c h.distinct out;
  known = All-push (λ c. c < 512) queue c h.known low;
}

distinct-drop : (n : ℕ) (queue : List ℕ) → IsDistinct queue → IsDistinct (drop n queue)
distinct-drop zero queue h = h
distinct-drop (suc n) [] h = tt
distinct-drop (suc n) (x ∷ queue) h = distinct-drop n queue h.1

pub queue-drop : (n : ℕ) (queue : List ℕ) → IsQueue queue → IsQueue (drop n queue)
queue-drop n queue h = record { distinct = distinct-drop n queue h.distinct; known = All-drop (λ c. c < 512) n queue h.known }

-- ---- How many leave

-- none leaves a queue that fits
pub none_leaves : (layout : Layout) (queue : List ℕ) (c : ℕ) → total_size layout queue + size_of layout.cluster_of c ≤ layout.budget → drops layout queue c ≡ 0
none_leaves layout [] c h = refl
none_leaves layout (x ∷ queue) c h =
    let t : nat_le (total_size layout (x ∷ queue) + size_of layout.cluster_of c) layout.budget ≡ true = grind (arith, nat_tests) in rw t refl

-- the first one leaves a queue that does not fit
pub one_leaves : (layout : Layout) (queue rest : List ℕ) (x c total : ℕ) → queue ≡ x ∷ rest → total ≡ total_size layout queue + size_of layout.cluster_of c →
    layout.budget < total → (total ≡ size_of layout.cluster_of x + (total_size layout rest + size_of layout.cluster_of c)) × (drops layout queue c ≡ suc (drops layout rest c))
one_leaves layout queue rest x c total is sum over =
    let Leaves : List ℕ → Type 0 =
    λ q. total ≡ total_size layout q + size_of layout.cluster_of c →
    (total ≡ size_of layout.cluster_of x + (total_size layout rest + size_of layout.cluster_of c)) × (drops layout q c ≡ suc (drops layout rest c)) in
    subst Leaves (sym is) (λ s. (
      omega (arith, sum_by-cons (size_of layout.cluster_of) x rest),
      (let t : nat_le (total_size layout (x ∷ rest) + size_of layout.cluster_of c) layout.budget ≡ false = grind (arith, nat_tests) in rw t refl),
    )) sum
