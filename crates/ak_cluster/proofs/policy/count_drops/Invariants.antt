use Rattle.std.proofs.Common.{◌≡◌, ◌+◌, drop}
use Rattle.ak_core.specs.Layout.{size_of}
use Rattle.ak_model.specs.Clusters.Queue.{total_size, drops}
use Rattle.ak_cluster.proofs.policy.count_drops.Given as goal

abbrev pub invariant-loop-i : goal.invariant-loop-i
invariant-loop-i l = record {
  total : l.total ≡ total_size l.layout (drop l.i l.queue) + size_of l.layout.cluster_of l.c;
  count : l.i + drops l.layout (drop l.i l.queue) l.c ≡ drops l.layout l.queue l.c;
}
