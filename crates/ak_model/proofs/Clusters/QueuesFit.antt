-- The clusters that are in after misses that fit: different ones of the layout, within the budget.
use Rattle.std.proofs.Common.{◌≡◌, ℕ, ◌<◌, List, [], ◌∷◌, drop, refl, sym, ap, subst}
use Rattle.std.specs.Prelude.{false, fold, Option, Some, None}
use Rattle.ak_core.specs.Layout.{Layout, IsValid}
use Rattle.ak_core.specs.declared.event.Event.{Event}
use Rattle.ak_core.specs.declared.event.Event.TheVariants.{Call, Miss, Trap, Break}
use Rattle.ak_model.specs.Clusters.Queue.{drops, after_miss, queue_after, is_in}
use Rattle.ak_model.specs.Laws.Orderly.{QueueFits}
use Rattle.ak_model.specs.Laws.MissedClusters.{AreOut}
use Rattle.ak_model.specs.Tapes.LastMoment.{FlatRuns}
use Rattle.ak_model.specs.Tapes.ProgramTurns.{ProgramTurn}
use Rattle.ak_model.specs.Sound.Forced.{EachTurn, missed_by, queue_by}
use Rattle.ak_model.specs.Sound.ForcedMisses.{MissedBy}
use Rattle.ak_model.proofs.Clusters.DistinctQueues.{out-drop, dropped_fits, appended_fits}
use Rattle.ak_model.proofs.Clusters.ValidClusters.{clusters_fit, none_fit}
use Rattle.ak_model.proofs.Tapes.EventsTaken.{cluster_below, without_miss, with_miss}

module _ (layout : Layout) (valid : IsValid layout) where
  -- one miss
  pub miss_fits : (queue : List ℕ) (c : ℕ) → c < layout.clusters → is_in queue c ≡ false → QueueFits layout queue → QueueFits layout (after_miss layout queue c)
  miss_fits queue c known out h =
      let d = drops layout queue c in
      let dropped = dropped_fits layout queue c ((clusters_fit layout valid).small c known) h in
      appended_fits layout (drop d queue) c known (out-drop d queue c out) dropped.1 dropped.0

  all_fit : (queue misses : List ℕ) → AreOut layout queue misses → QueueFits layout queue → QueueFits layout (fold (after_miss layout) queue misses)
  all_fit queue [] h fits = fits
  all_fit queue (c ∷ misses) h fits =
      all_fit (after_miss layout queue c) misses h.2 (miss_fits queue c h.0 h.1 fits)

  -- the clusters that are in after these misses
  pub misses_fit : (misses : List ℕ) → AreOut layout [] misses → QueueFits layout (queue_after layout misses)
  misses_fit misses h = all_fit [] misses h (none_fit layout)

module _ (layout : Layout) (valid : IsValid layout) (runs : FlatRuns) where
  turn_fits : (turn : ProgramTurn) (older : List ProgramTurn) (event : Option Event) → turn.event ≡ event → MissedBy layout runs turn older event → QueueFits layout (queue_by layout older) → QueueFits layout (queue_by layout (turn ∷ older))
  turn_fits turn older None e h k = subst (QueueFits layout) (sym (without_miss layout valid runs turn older (ap missed_by e))) k
  turn_fits turn older (Some (Call i b a)) e h k = subst (QueueFits layout) (sym (without_miss layout valid runs turn older (ap missed_by e))) k
  turn_fits turn older (Some (Trap i v)) e h k = subst (QueueFits layout) (sym (without_miss layout valid runs turn older (ap missed_by e))) k
  turn_fits turn older (Some (Break i)) e h k = subst (QueueFits layout) (sym (without_miss layout valid runs turn older (ap missed_by e))) k
  turn_fits turn older (Some (Miss i c)) e h k =
      let known = subst (λ x. x < layout.clusters) h.cluster (cluster_below layout valid h.access.page.0) in
      subst (QueueFits layout) (sym (with_miss layout valid runs turn older c (ap missed_by e))) (miss_fits layout valid (queue_by layout older) c known h.out k)

  -- the misses of turns that are forced
  pub turns_fit : (turns : List ProgramTurn) → EachTurn (λ turn. λ older. MissedBy layout runs turn older turn.event) turns → QueueFits layout (queue_by layout turns)
  turns_fit [] h = none_fit layout
  turns_fit (turn ∷ older) h = turn_fits turn older turn.event refl h.0 (turns_fit older h.1)

  -- at each turn
  pub each_fits : (turns : List ProgramTurn) → EachTurn (λ turn. λ older. MissedBy layout runs turn older turn.event) turns → EachTurn (λ turn. λ older. QueueFits layout (queue_by layout older)) turns
  each_fits [] h = tt
  each_fits (turn ∷ older) h = (turns_fit older h.1, each_fits older h.1)
