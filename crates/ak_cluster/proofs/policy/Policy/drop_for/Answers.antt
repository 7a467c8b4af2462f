use Rattle.std.proofs.Common.{subst, sym}
use Rattle.ak_cluster.specs.QueueBytes.{IsQueue}
use Rattle.ak_cluster.proofs.Queues.{queue-drop}
use Rattle.ak_cluster.proofs.policy.Policy.drop_for.Goals as goal

pub invariant_of-self : goal.invariant_of-self
invariant_of-self c =
    subst IsQueue (sym c.loop-dropped.invariant.left)
    (queue-drop c.loop-dropped._dropped c.args.self.now (subst IsQueue c.self.view_is c.self.invariant))
