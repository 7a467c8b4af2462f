use Rattle.std.proofs.Common.{◌≡◌, ◌≤◌, ◌*◌, take}
use Rattle.ak_model.specs.Clusters.Queue.{total_size}
use Rattle.ak_cluster.proofs.policy.total_size.Given as goal

abbrev pub invariant-loop-x : goal.invariant-loop-x
invariant-loop-x l = record {
  total : l.total ≡ total_size l.layout (take l.x-index l.queue);
  small : l.total ≤ 512 * l.x-index;
}
