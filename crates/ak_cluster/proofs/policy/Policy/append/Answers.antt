use Rattle.std.proofs.Common.{◌≡◌, false, rules, subst, sym}
use Rattle.ak_model.specs.Clusters.Queue.{is_in}
use Rattle.ak_cluster.specs.QueueBytes.{IsQueue}
use Rattle.ak_cluster.proofs.Queues.{room_for, queue-append}
use Rattle.ak_cluster.proofs.policy.Policy.append.Goals as goal

pub push-requires : goal.push-requires
push-requires c =
    let out : is_in c.self.inside.queue.items c.args.c ≡ false = search rules in
    let room = room_for c.self.inside.queue.items c.args.c c.self.invariant c.requires.known out in
    search rules

pub invariant_of-self : goal.invariant_of-self
invariant_of-self c =
    let out : is_in c.self.inside.queue.items c.args.c ≡ false = search rules in
    subst IsQueue (sym c.push.ensures.items) (queue-append c.self.inside.queue.items c.args.c c.self.invariant c.requires.known out)
