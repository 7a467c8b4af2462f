-- What was asked for is mapped from the entering that follows on, and is not resumed before.
use Rattle.std.proofs.Common.{◌≡◌, ℕ, refl, ◌∙◌, subst, ap}
use Rattle.std.specs.Prelude.{true, false, not, ◌||◌, ◌==◌}
use Rattle.std.proofs.lemmas.Bool.Decides.{nat_tests}
use Rattle.std.proofs.Common.{arith}
use Rattle.ak_core.specs.Layout.{Layout}
use Rattle.ak_model.specs.Paging.Pages.{pages_of, cluster_at}
use Rattle.ak_model.specs.Paging.Histories.{History}
use Rattle.ak_model.specs.Clusters.Queue.{is_in}
use Rattle.ak_model.specs.Control.ControlState.{Control}
use Rattle.ak_model.specs.Kernels.KernelRules.{is_mapped, cluster_is_mapped, entered_since_ask, probes_done, fetched_by, keeps_fetched}
use Rattle.ak_model.specs.Laws.OneLiveCopy.{OneCopy}
use Rattle.ak_driver.proofs.Invariant.PageStates.{PageState}
use Rattle.ak_driver.proofs.Invariant.Spots.{ByStatus, ByTrap, AnswerStep, Spot, Idle, Entered, InProgram, Leaving, Left, Handling, Requested, Answering, Resumable, Over, Progress, control_at}
use Rattle.ak_driver.proofs.Invariant.HonestMoments.{IsHonest, IsPlain}
use Rattle.ak_driver.proofs.Keeping.KeptMapped.{all_by}
use Rattle.ak_driver.proofs.Turns.EnteringMoves.{or_true}
use Rattle.ak_driver.proofs.Serving.Finding.{IsOf, each_of}
use Rattle.ak_driver.proofs.Pages.WalkedPages.{in_mapped}

module _ (layout : Layout) (past : History) (control : Control) (rest : Progress) (states : ℕ → PageState) (copies : OneCopy layout past) where
  -- while an entering answers a request, each page of the cluster is mapped
  pub answer_mapped : (c : ℕ) (step : AnswerStep) → IsHonest layout past control (Answering c step) rest states → cluster_is_mapped layout past c ≡ true
  answer_mapped c step old =
      all_by (IsOf layout c) (is_mapped layout past) (pages_of layout c) (each_of layout c) (λ p of.
      let s : (cluster_at layout p == c) ≡ true = let e = of.1 in grind (arith, nat_tests) in
      let there : (is_in rest.queue (cluster_at layout p) || (cluster_at layout p == c)) ≡ true = rw s (or_true (is_in rest.queue (cluster_at layout p))) in
      in_mapped layout past states copies old.stands p of.0 (subst (λ b. IsPlain b (states p)) there (old.fits p of.0)))

  -- the second rule, in the phase of the spot
  pub fetched_at : (spot : Spot) → IsHonest layout past control spot rest states
      → fetched_by layout (record { past = past; control = control }) (control_at spot rest).phase ≡ true
  fetched_at (Requested c) old =
      let w = old.waits refl in rw w refl
  fetched_at (Answering c step) old =
      let m = answer_mapped c step old in
      let p : (probes_done layout c control || cluster_is_mapped layout past c) ≡ true = rw m (or_true (probes_done layout c control)) in
      rw p (or_true (not (entered_since_ask past)))
  fetched_at (Idle true) old = refl
  fetched_at (Idle false) old = refl
  fetched_at (Entered true v) old = refl
  fetched_at (Entered false v) old = refl
  fetched_at InProgram old = refl
  fetched_at (Leaving b a) old = refl
  fetched_at (Left fault) old = refl
  fetched_at (Handling fault v) old = refl
  fetched_at Resumable old = refl
  fetched_at (Over (ByStatus s) stack) old = refl
  fetched_at (Over (ByTrap v) stack) old = refl

  pub keeps_what_is_fetched : (spot : Spot) → IsHonest layout past control spot rest states → keeps_fetched layout (record { past = past; control = control }) ≡ true
  keeps_what_is_fetched spot old =
      ap (λ c. fetched_by layout (record { past = past; control = control }) c.phase) old.control_is ∙ fetched_at spot old
