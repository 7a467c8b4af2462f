-- Entering and resuming are granted while nobody is inside, and what they do.
use Rattle.std.proofs.Common.{◌≡◌, ℕ, ◌+◌, ◌<◌, List, [], ◌∷◌, length, arith, refl, sym, ◌∙◌, ap}
use Rattle.std.specs.Prelude.{Bool, true, false, ◌&&◌, ◌||◌, not, if◌then◌else◌, Some, is_some, nat_lt, ◌==◌}
use Rattle.std.specs.List.{list_any}
use Rattle.std.proofs.lemmas.Bool.{ne_eqb, lt-ltb}
use Rattle.ak_core.specs.Layout.{Layout, IsValid}
use Rattle.ak_core.specs.declared.moves.Move.{Move}
use Rattle.ak_core.specs.declared.moves.Move.TheVariants.{Eenter, Eresume}
use Rattle.ak_core.specs.declared.moves.Answer.{Answer}
use Rattle.ak_core.specs.declared.moves.Answer.TheVariants.{Ok}
use Rattle.ak_model.specs.Paging.Pages.{pages, cluster_at}
use Rattle.ak_model.specs.Paging.Histories.{History, Pair}
use Rattle.ak_model.specs.Paging.Inside.{inside, processors, since, another_inside}
use Rattle.ak_model.specs.Clusters.Queue.{is_in}
use Rattle.ak_model.specs.Control.ControlState.{Control, cssa}
use Rattle.ak_model.specs.Kernels.Counted.{service}
use Rattle.ak_model.specs.Kernels.Repeats.{was_refused, same_move, is_done}
use Rattle.ak_model.specs.Control.Answers.{answer, if_outside, finds_ssa}
use Rattle.ak_model.specs.Control.Entering.{entered, resumed_by}
use Rattle.ak_driver.proofs.Invariant.PageStates.{PageState}
use Rattle.ak_driver.proofs.Invariant.Untouched.{Untouched}
use Rattle.ak_driver.proofs.Invariant.Spots.{Spot, Idle, Entered, InProgram, Leaving, Left, Handling, Requested, Answering, Resumable, Over, Progress, control_at, is_within, asks, is_requested}
use Rattle.ak_driver.proofs.Invariant.HonestMoments.{IsHonest, MayBe, AreApart, dropped_for, is_over_at}
use Rattle.ak_driver.proofs.Pages.WalkedPages.{and_false, tcs_walks, ssa_walks}

pub nobody_listed : (test : ℕ → Bool) (xs : List ℕ) → ((q : ℕ) → test q ≡ false) → list_any test xs ≡ false
nobody_listed test [] h = refl
nobody_listed test (x ∷ xs) h = let e = h x in rw e (nobody_listed test xs h)

pub or_true : (b : Bool) → (b || true) ≡ true
or_true true = refl
or_true false = refl

-- a move that was done was not refused
pub done_granted : (pair : Pair) (past : History) → is_done pair.1 ≡ true → (m : Move) → was_refused (pair ∷ past) m ≡ false
done_granted pair past h m = rw h (and_false (same_move pair.0 m))

module _ (layout : Layout) (past : History) (valid : IsValid layout) (untouched : Untouched layout past) (nobody : (q : ℕ) → inside past q ≡ false) where
  -- the checks of entering and resuming that come first
  outside_fine : (a : Answer) → if_outside layout past 0 a ≡ a
  outside_fine a =
      let some = valid.some_lp in let there : nat_lt 0 layout.lps ≡ true = lt-ltb 0 layout.lps (omega arith) in
      let out = nobody 0 in
      let t = tcs_walks layout past untouched in
      let others : another_inside layout past 0 ≡ false = nobody_listed (λ q. inside past q && not (q == 0)) (processors layout) (λ q. let o = nobody q in rw o refl) in
      rw (there, out, t, others) refl

  finds : (k : ℕ) → k < 3 → finds_ssa layout past k ≡ true
  finds k low = ssa_walks layout past untouched k low

  pub enter_granted : (control : Control) (v k : ℕ) → cssa control ≡ k → k < 3 → answer layout past control (Eenter (record { 0 = 0 }) v) ≡ Ok
  enter_granted control v k e low =
      let n : (k == 3) ≡ false = ne_eqb k 3 (λ s. omega arith) in
      let s = finds k low in
      outside_fine _ ∙ rw (e, n, s) refl

  pub resume_granted : (control : Control) → cssa control ≡ 1 → control.pending ≡ false → answer layout past control (Eresume (record { 0 = 0 })) ≡ Ok
  resume_granted control e free =
      let s = finds 0 (omega arith) in
      outside_fine _ ∙ rw (e, free, s) refl

-- no request waits at a spot inside
pub within_resumable : (spot : Spot) → is_within spot ≡ true → is_requested spot ≡ true → ⊥
within_resumable (Requested c) w h = cc
within_resumable (Idle called) w h = cc
within_resumable (Entered called v) w h = cc
within_resumable InProgram w h = cc
within_resumable (Leaving b a) w h = cc
within_resumable (Left fault) w h = cc
within_resumable (Handling fault v) w h = cc
within_resumable (Answering c step) w h = cc
within_resumable Resumable w h = cc
within_resumable (Over end stack) w h = cc

-- processor 0 alone is inside after an entering
alone : (past : History) (place lp : ℕ) → ((q : ℕ) → inside past q ≡ false) → is_some (if lp == 0 then Some place else since past lp) ≡ (true && (lp == 0))
alone past place lp nobody = by (lp == 0)
  where
    by : (b : Bool) → is_some (if b then Some place else since past lp) ≡ (true && b)
    by true = refl
    by false = nobody lp

module _ (layout : Layout) (past : History) (control : Control) (spot : Spot) (rest : Progress) (states : ℕ → PageState) (old : IsHonest layout past control spot rest states) (out : is_within spot ≡ false) where
  pub nobody : (q : ℕ) → inside past q ≡ false
  nobody q = let e = old.inside_is q in let o = out in e ∙ rw o refl

  module _ (next : Spot) (within : is_within next ≡ true) (asking : asks next ≡ asks spot) (going : is_over_at spot ≡ false) (goes : is_over_at next ≡ false)
      (fits : (p : ℕ) → p < pages layout → MayBe next (is_in rest.queue (cluster_at layout p)) (is_in (dropped_for (service past).request) (cluster_at layout p)) (cluster_at layout p) (states p))
      (apart : AreApart next rest.queue (dropped_for (service past).request)) where
    -- an entering leads from a spot with nobody inside to one with a processor inside
    pub enters : (v : ℕ) → entered (control_at spot rest) v ≡ control_at next rest
        → IsHonest layout ((Eenter (record { 0 = 0 }) v, Ok) ∷ past) (entered control v) next rest states
    enters v same = record {
      control_is = ap (λ c. entered c v) old.control_is ∙ same;
      inside_is = λ lp. let w = within in rw w (alone past (length past + 1) lp nobody);
      stands = record { untouched = record { same = old.stands.untouched.same; over = old.stands.untouched.over }; each = old.stands.each };
      fits = fits;
      apart = apart;
      closed = λ a. old.closed (sym asking ∙ a);
      waits = λ a. absurd (within_resumable next within a);
      unstopped = old.unstopped;
      going = old.going ∙ going ∙ sym goes;
      unbroken = old.unbroken;
      granted = done_granted (Eenter (record { 0 = 0 }) v, Ok) past refl;
    }

    -- so does a resuming
    pub resumes : resumed_by (control_at spot rest) (control_at spot rest).stack ≡ control_at next rest
        → IsHonest layout ((Eresume (record { 0 = 0 }), Ok) ∷ past) (resumed_by control control.stack) next rest states
    resumes same = record {
      control_is = ap (λ c. resumed_by c c.stack) old.control_is ∙ same;
      inside_is = λ lp. let w = within in rw w (alone past (length past + 1) lp nobody);
      stands = record { untouched = record { same = old.stands.untouched.same; over = old.stands.untouched.over }; each = old.stands.each };
      fits = fits;
      apart = apart;
      closed = λ a. old.closed (sym asking ∙ a);
      waits = λ a. absurd (within_resumable next within a);
      unstopped = old.unstopped;
      going = old.going ∙ going ∙ sym goes;
      unbroken = old.unbroken;
      granted = done_granted (Eresume (record { 0 = 0 }), Ok) past refl;
    }
