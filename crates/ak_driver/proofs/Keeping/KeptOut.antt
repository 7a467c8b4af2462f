-- While a processor is inside, no page of a cluster that is out is mapped.
use Rattle.std.proofs.Common.{◌≡◌, ℕ, ◌<◌, arith, refl, sym, ◌∙◌, subst, ap}
use Rattle.std.specs.Prelude.{Bool, true, false, not, ◌&&◌, ◌||◌, ◌==◌}
use Rattle.std.specs.List.{range_with_len}
use Rattle.ak_core.specs.Layout.{Layout}
use Rattle.ak_model.specs.Paging.Pages.{pages, cluster_at}
use Rattle.ak_model.specs.Paging.Histories.{History}
use Rattle.ak_model.specs.Paging.Inside.{inside, someone_inside, processors}
use Rattle.ak_model.specs.Clusters.Queue.{is_in}
use Rattle.ak_model.specs.Control.ControlState.{Control}
use Rattle.ak_model.specs.Kernels.Counted.{service}
use Rattle.ak_model.specs.Kernels.Evictions.{is_out, is_unmapped, keeps_out}
use Rattle.ak_model.specs.Laws.OneLiveCopy.{OneCopy}
use Rattle.ak_driver.proofs.Invariant.PageStates.{PageState, Out}
use Rattle.ak_driver.proofs.Invariant.Spots.{Spot, Idle, Entered, InProgram, Leaving, Left, Handling, Requested, Answering, Resumable, Over, Progress, control_at, is_within}
use Rattle.ak_driver.proofs.Invariant.HonestMoments.{IsHonest, IsPlain, MayBe, dropped_for}
use Rattle.ak_driver.proofs.Keeping.KeptMapped.{all_by, in_range}
use Rattle.ak_driver.proofs.Turns.EnteringMoves.{or_true, nobody, nobody_listed}
use Rattle.ak_driver.proofs.Turns.QueuesHold.{same_test}
use Rattle.ak_driver.proofs.Pages.WalkedPages.{out_unmapped}

-- where neither test holds the page is out
plain_out : (there own : Bool) (state : PageState) → IsPlain there state → (not there && own) ≡ true → state ≡ Out
plain_out true own state h t = absurd (cc)
plain_out false own state h t = h

asked_out : (there asked own : Bool) (state : PageState) → own ≡ asked → IsPlain (there || own) state → (not there && not asked) ≡ true → state ≡ Out
asked_out true asked own state e h t = absurd (cc)
asked_out false true own state e h t = absurd (cc)
asked_out false false own state e h t = subst (λ b. IsPlain b state) e h

module _ (layout : Layout) (past : History) (control : Control) (spot : Spot) (rest : Progress) (states : ℕ → PageState) (copies : OneCopy layout past) (old : IsHonest layout past control spot rest states) where
  may_out : (spot : Spot) → is_within spot ≡ true → (dropped : Bool) (p : ℕ) (state : PageState) → MayBe spot (is_in rest.queue (cluster_at layout p)) dropped (cluster_at layout p) state
      → is_out layout (control_at spot rest) p ≡ true → state ≡ Out
  may_out (Entered true v) w dropped p state h t = plain_out (is_in rest.queue (cluster_at layout p)) true state h t
  may_out (Entered false v) w dropped p state h t = plain_out (is_in rest.queue (cluster_at layout p)) true state h t
  may_out InProgram w dropped p state h t = plain_out (is_in rest.queue (cluster_at layout p)) true state h t
  may_out (Leaving b a) w dropped p state h t = plain_out (is_in rest.queue (cluster_at layout p)) true state h t
  may_out (Handling fault v) w dropped p state h t = plain_out (is_in rest.queue (cluster_at layout p)) true state h t
  may_out (Answering c step) w dropped p state h t = asked_out (is_in rest.queue (cluster_at layout p)) (c == cluster_at layout p) (cluster_at layout p == c) state (same_test (cluster_at layout p) c) h t
  may_out (Idle called) w dropped p state h t = absurd (cc)
  may_out (Left fault) w dropped p state h t = absurd (cc)
  may_out (Requested c) w dropped p state h t = absurd (cc)
  may_out Resumable w dropped p state h t = absurd (cc)
  may_out (Over end stack) w dropped p state h t = absurd (cc)

  pub keeps_others_out : keeps_out layout (record { past = past; control = control }) ≡ true
  keeps_others_out = by (is_within spot) refl
    where
      page : is_within spot ≡ true → (p : ℕ) → p < pages layout → (b : Bool) → is_out layout control p ≡ b → (not b || is_unmapped layout past p) ≡ true
      page w p low false e = refl
      page w p low true e =
          let o : is_out layout (control_at spot rest) p ≡ true = ap (λ c. is_out layout c p) (sym old.control_is) ∙ e in
          out_unmapped layout past states copies old.stands p low (may_out spot w (is_in (dropped_for (service past).request) (cluster_at layout p)) p (states p) (old.fits p low) o)

      by : (b : Bool) → is_within spot ≡ b → keeps_out layout (record { past = past; control = control }) ≡ true
      by true w =
          let all = all_by (λ p. p < pages layout) (λ p. not (is_out layout control p) || is_unmapped layout past p) (range_with_len 0 (pages layout)) (in_range (pages layout) 0 (pages layout) (omega arith)) (λ p low. page w p low (is_out layout control p) refl) in
          rw all (or_true (not (someone_inside layout past)))
      by false w =
          let none : someone_inside layout past ≡ false = nobody_listed (inside past) (processors layout) (nobody layout past control spot rest states old w) in
          rw none refl
