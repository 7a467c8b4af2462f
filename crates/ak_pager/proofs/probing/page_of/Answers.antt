use Rattle.std.proofs.Common.{◌≡◌, ℕ, ◌+◌, ◌-◌, ◌<◌, length, ap, sym, subst, ◌∙◌, arith}
use Rattle.std.specs.Prelude.{◌==◌, filter, slice_get, slice_index}
use Rattle.std.specs.List.{range_with_len}
use Rattle.std.proofs.lemmas.Bool.{eq-eqb}
use Rattle.ak_model.specs.Paging.Pages.{pages, pages_of, cluster_at}
use Rattle.ak_pager.proofs.Faults.{differs}
use Rattle.ak_pager.proofs.Probed.{kept_on, skipped_on}
use Rattle.ak_pager.proofs.probing.page_of.Goals.{then-its-cluster+else-earlier-number, else-its-cluster}
use Rattle.ak_pager.proofs.probing.page_of.Goals as goal

pub loop-page-preserved : goal.loop-page-preserved
loop-page-preserved c =
    let layout = c.args.layout.now in
    let i = c.loop-page.page in
    let e = c.loop-page.earlier in
    let its = c.cluster_of-its-items.ensures in
    let low : i < pages layout = omega (arith, c.loop-page-test.true, ap length its, c.requires.clustered) in
    elim c.if-its-cluster.branch [
      | then-its-cluster+else-earlier-number w ↦ (
          let here : cluster_at layout i ≡ c.args.cluster = ap (λ xs. slice_index xs i) (sym its) ∙ w.if-its-cluster.true in
          let less : e < c.args.number = omega (arith, c.loop-page.invariant.before, w.if-earlier-number.false) in
          record {
            before = omega (arith, less, w.earlier-is);
            rest = subst (λ (n : ℕ). slice_get (filter (λ p. cluster_at layout p == c.args.cluster) (range_with_len (i + 1) (pages layout - (i + 1)))) (c.args.number - n) ≡ slice_get (pages_of layout c.args.cluster) c.args.number)
                (sym w.earlier-is)
                (kept_on (λ p. cluster_at layout p == c.args.cluster) i (pages layout) e c.args.number (slice_get (pages_of layout c.args.cluster) c.args.number) low
                (eq-eqb (cluster_at layout i) c.args.cluster here) less c.loop-page.invariant.rest);
          })
      | else-its-cluster w ↦ (
          let other = λ (h : cluster_at layout i ≡ c.args.cluster). w.if-its-cluster.false (ap (λ xs. slice_index xs i) its ∙ h) in
          record {
            before = omega (arith, c.loop-page.invariant.before, w.earlier-is);
            rest = subst (λ (n : ℕ). slice_get (filter (λ p. cluster_at layout p == c.args.cluster) (range_with_len (i + 1) (pages layout - (i + 1)))) (c.args.number - n) ≡ slice_get (pages_of layout c.args.cluster) c.args.number)
                (sym w.earlier-is)
                (skipped_on (λ p. cluster_at layout p == c.args.cluster) i (pages layout) (c.args.number - e) (slice_get (pages_of layout c.args.cluster) c.args.number) low
                (differs (cluster_at layout i) c.args.cluster other) c.loop-page.invariant.rest);
          })
    ]
