use Rattle.std.proofs.Common.{◌≡◌, ℕ, ◌+◌, ◌-◌, ◌==◌, Bool, length, get_or, ap, sym, ◌∙◌}
use Rattle.std.specs.Prelude.{find, filter}
use Rattle.std.specs.List.{range_with_len}
use Rattle.std.proofs.lemmas.Bool.{eq-eqb, ne_eqb}
use Rattle.ak_model.specs.Paging.Pages.{cluster_at}
use Rattle.ak_driver.specs.Duties.{wants}
use Rattle.ak_driver.proofs.Noting.Searches.{kept_passed, left_out}
use Rattle.ak_driver.proofs.driver.Driver.first_of.Goals as goal
use Rattle.ak_driver.proofs.driver.Driver.first_of.Goals.{else-cluster_of-p-via-then-cluster_of-p+else-wants, else-cluster_of-p-via-else-cluster_of-p}

pub loop-p-preserved : goal.loop-p-preserved
loop-p-preserved c =
    let layout = c.args.layout.now in
    let p = c.loop-p.p in
    let n = length c.perms.result.now in
    let test = wants c.args.self.now layout c.args.duty in
    let keeps : ℕ → Bool = λ q. cluster_at layout q == c.args.c in
    let old = c.loop-p.invariant in
    let low = c.loop-p-test.true in
    let left : find test (filter keeps (range_with_len (p + 1) (n - (p + 1)))) ≡ find test (filter keeps (range_with_len p (n - p))) =
    elim c.else-cluster_of-p.branch [
      | else-cluster_of-p-via-then-cluster_of-p+else-wants w ↦ kept_passed test keeps p n low
          (eq-eqb (cluster_at layout p) c.args.c (ap (λ xs. get_or xs p 0) (sym old.clusters) ∙ w.if-cluster_of-p.true)) (sym w.wants.ensures ∙ w.if-wants.false)
      | else-cluster_of-p-via-else-cluster_of-p w ↦ left_out test keeps p n low
          (ne_eqb (cluster_at layout p) c.args.c (λ e. w.if-cluster_of-p.false (ap (λ xs. get_or xs p 0) old.clusters ∙ e)))
    ] in
    record { valid = old.valid; all = old.all; clusters = old.clusters; left = left ∙ old.left }
