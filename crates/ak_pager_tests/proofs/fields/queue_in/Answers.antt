use Rattle.std.proofs.Common.{◌≡◌, ℕ, ◌+◌, ◌*◌, ◌<◌, List, length, false, subst, sym, ap, ◌∙◌, arith}
use Rattle.std.specs.Prelude.{All, slice_index}
use Rattle.std.proofs.lemmas.List.Elements.{All-push}
use Rattle.ak_model.specs.Clusters.Queue.{is_in}
use Rattle.ak_model.specs.Flat.Instructions.{number_at}
use Rattle.ak_model.specs.Laws.Orderly.{IsDistinct}
use Rattle.ak_model.proofs.Clusters.DistinctQueues.{distinct-append}
use Rattle.ak_pager_tests.proofs.Witnesses.{reads-push, says_clusters}
use Rattle.ak_pager_tests.proofs.fields.queue_in.Goals as goal

pub loop-i-preserved : goal.loop-i-preserved
loop-i-preserved c =
    let before = c.loop-i.invariant in
    let items = c.loop-i.queue.items in
    let x = c.from-c.result in
    let pushed = c.push.ensures.items in
    let value : x ≡ number_at c.args.state.now (1024 + 2 * length items) 2 =
    c.from-c.ensures ∙ (c.cluster_in.ensures ∙ ap (λ n. number_at c.args.state.now (1024 + 2 * n) 2) (sym before.count)) in
    let out : is_in items x ≡ false = ap (λ xs. is_in xs x) (sym c.as_slice.ensures.value) ∙ (sym c.has.ensures ∙ c.if-has.false) in
    let low : x < c.args.layout.now.clusters = omega (arith, c.if-c-from.false, c.from.ensures, c.clusters.ensures) in
    let Reads : List ℕ → Type 0 = λ xs. (k : ℕ) → k < length xs → slice_index xs k ≡ number_at c.args.state.now (1024 + 2 * k) 2 in
    record {
      size = before.size;
      small = before.small;
      count = omega (arith, c.push.ensures.len, before.count);
      clusters = subst Reads (sym pushed) (reads-push (λ k. number_at c.args.state.now (1024 + 2 * k) 2) items x before.clusters value);
      distinct = subst IsDistinct (sym pushed) (distinct-append items x before.distinct out);
      known = subst (All (λ c1. c1 < c.args.layout.now.clusters)) (sym pushed) (All-push (λ c1. c1 < c.args.layout.now.clusters) items x before.known low);
    }

pub returns : goal.returns
returns c =
    let read = c.loop-i.invariant in
    record {
      size = omega (arith, read.count, read.size, c.loop-i.auto.i-end, c.loop-i-test.false);
      clusters = says_clusters c.args.state.now c.loop-i.queue.items read.clusters;
      distinct = read.distinct;
      known = read.known;
    }
