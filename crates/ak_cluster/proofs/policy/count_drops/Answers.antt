use Rattle.std.proofs.Common.{◌≡◌, ◌+◌, drop, arith, get_or, ap, ◌∙◌}
use Rattle.std.proofs.lemmas.List.{drop_more}
use Rattle.ak_core.specs.Layout.{size_of}
use Rattle.ak_cluster.proofs.Queues.{none_leaves, one_leaves}
use Rattle.ak_cluster.proofs.policy.count_drops.Goals as goal

pub returns-then-total-budget-clause-count : goal.returns-then-total-budget-clause-count
returns-then-total-budget-clause-count c =
    let layout = c.args.layout.now in
    omega (arith, c.loop-i.invariant.count, none_leaves layout (drop c.loop-i.i c.args.queue.now) c.args.c (omega (arith, c.loop-i.invariant.total, c.if-total-budget.true, c.budget.ensures)))

pub loop-i-preserved : goal.loop-i-preserved
loop-i-preserved c =
    let layout = c.args.layout.now in
    let queue = c.args.queue.now in
    let i = c.loop-i.i in
    let x = get_or queue i 0 in
    let inside = c.loop-i-test.true in
    let size : c.size_of-total.result ≡ size_of layout.cluster_of x = c.size_of-total.ensures.size ∙ ap (size_of layout.cluster_of) c.from.ensures in
    let leaves = one_leaves layout (drop i queue) (drop (i + 1) queue) x c.args.c c.loop-i.total (drop_more queue i 0 inside) c.loop-i.invariant.total (omega (arith, c.budget.ensures, c.if-total-budget.false)) in
    record {
      total = omega (arith, leaves.0, size);
      count = omega (arith, leaves.1, c.loop-i.invariant.count);
    }
