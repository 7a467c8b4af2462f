use Rattle.std.proofs.Common.{◌≡◌, ap, arith, length, rules, subst, sym}
use Rattle.ak_model.specs.Flat.Instructions.{number_at}
use Rattle.ak_cluster.specs.QueueBytes.{IsQueue}
use Rattle.ak_cluster.proofs.Bytes.{one_queue}
use Rattle.ak_cluster.proofs.Queues.{few_clusters}
use Rattle.ak_cluster.proofs.policy.Policy.load.Goals as goal

pub loop-i-init : goal.loop-i-init
loop-i-init c =
    let given = c.requires.queue in
    let few = few_clusters given.0 given.2 in
    let size = given.1.size in
    record {
      size = c.count_in-count.ensures;
      small = omega (arith, c.count_in-count.ensures, size, few);
      count = search rules;
      clusters = λ k inside. absurd (omega (arith, ap length c.new-queue.ensures));
    }

-- as many were read as the bytes say
size_is : (c : goal.After-loop-i) → length c.loop-i.queue.items ≡ number_at c.args.state.now 24 8
size_is c = omega (arith, c.loop-i.invariant.count, c.loop-i.invariant.size, c.loop-i.auto.i-end, c.loop-i-test.false)

pub invariant_of-result : goal.invariant_of-result
invariant_of-result c =
    let given = c.requires.queue in
    subst IsQueue
    (sym (one_queue c.args.state.now c.loop-i.queue.items given.0 (size_is c) c.loop-i.invariant.clusters given.1))
    given.2

pub returns : goal.returns
returns c queue has = one_queue c.args.state.now c.loop-i.queue.items queue (size_is c) c.loop-i.invariant.clusters has
