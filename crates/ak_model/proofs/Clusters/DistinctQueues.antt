-- Queues of clusters: what leaves and what comes in keeps them distinct and within the budget.
use Rattle.std.proofs.Common.{◌≡◌, ℕ, zero, suc, ◌+◌, ◌<◌, ◌≤◌, List, [], ◌∷◌, ◌++◌, drop, arith, refl, sym, subst}
use Rattle.std.specs.Prelude.{false, ◌==◌}
use Rattle.std.proofs.lemmas.Bool.{or_parts, or_from, eqb-false, ne_eqb}
use Rattle.std.proofs.lemmas.List.Elements.{All-drop, All-push}
use Rattle.std.proofs.lemmas.List.Sums.{sum_by-append}
use Rattle.ak_core.specs.Layout.{Layout, size_of}
use Rattle.ak_model.specs.Clusters.Queue.{total_size, drops, is_in}
use Rattle.ak_model.specs.Laws.Orderly.{IsDistinct, QueueFits}
use Rattle.ak_model.proofs.Clusters.FewestLeave.{drops_fit}

-- what is out stays out, where some leave
pub out-drop : (d : ℕ) (queue : List ℕ) (c : ℕ) → is_in queue c ≡ false → is_in (drop d queue) c ≡ false
out-drop zero queue c h = h
out-drop (suc d) [] c h = refl
out-drop (suc d) (x ∷ queue) c h = out-drop d queue c (or_parts (x == c) (is_in queue c) h).1

-- what is out stays out, where another comes in
out-append : (queue : List ℕ) (x c : ℕ) → is_in queue c ≡ false → (x == c) ≡ false → is_in (queue ++ x ∷ []) c ≡ false
out-append [] x c h e = or_from (x == c) false e refl
out-append (y ∷ queue) x c h e =
    let parts = or_parts (y == c) (is_in queue c) h in
    or_from (y == c) (is_in (queue ++ x ∷ []) c) parts.0 (out-append queue x c parts.1 e)

-- the other way round
differs : (a b : ℕ) → (a == b) ≡ false → (b == a) ≡ false
differs a b e = ne_eqb b a (λ same. eqb-false a b e (sym same))

distinct-drop : (d : ℕ) (queue : List ℕ) → IsDistinct queue → IsDistinct (drop d queue)
distinct-drop zero queue h = h
distinct-drop (suc d) [] h = tt
distinct-drop (suc d) (x ∷ queue) h = distinct-drop d queue h.1

pub distinct-append : (queue : List ℕ) (c : ℕ) → IsDistinct queue → is_in queue c ≡ false → IsDistinct (queue ++ c ∷ [])
distinct-append [] c h out = (refl, tt)
distinct-append (x ∷ queue) c h out =
    let parts = or_parts (x == c) (is_in queue c) out in
    (out-append queue c x h.0 (differs x c parts.0), distinct-append queue c h.1 parts.1)

module _ (layout : Layout) where
  total-append : (queue : List ℕ) (c : ℕ) → total_size layout (queue ++ c ∷ []) ≡ total_size layout queue + size_of layout.cluster_of c
  total-append queue c = let e = sum_by-append (size_of layout.cluster_of) queue (c ∷ []) in omega arith

  -- what must leave for a missed cluster has left: the rest fits, with it and without it
  pub dropped_fits : (queue : List ℕ) (c : ℕ) → size_of layout.cluster_of c ≤ layout.budget → QueueFits layout queue → QueueFits layout (drop (drops layout queue c) queue) × (total_size layout (drop (drops layout queue c) queue) + size_of layout.cluster_of c ≤ layout.budget)
  dropped_fits queue c small h =
      let d = drops layout queue c in
      let fits : total_size layout (drop d queue) + size_of layout.cluster_of c ≤ layout.budget = drops_fit layout c queue small in (
        record {
          distinct = distinct-drop d queue h.distinct;
          known = All-drop (λ x. x < layout.clusters) d queue h.known;
          small = omega arith;
        },
        fits,
      )

  -- the asked cluster comes in
  pub appended_fits : (queue : List ℕ) (c : ℕ) → c < layout.clusters → is_in queue c ≡ false → total_size layout queue + size_of layout.cluster_of c ≤ layout.budget → QueueFits layout queue → QueueFits layout (queue ++ c ∷ [])
  appended_fits queue c known out fits h = record {
    distinct = distinct-append queue c h.distinct out;
    known = All-push (λ x. x < layout.clusters) queue c h.known known;
    small = subst (λ n. n ≤ layout.budget) (sym (total-append queue c)) fits;
  }
