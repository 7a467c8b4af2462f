-- The run after the entering that answers a request is answered Ready.
use Rattle.std.proofs.Common.{◌≡◌, ℕ, zero, suc, ◌+◌, ◌-◌, ◌<◌, ◌≤◌, List, [], ◌∷◌, length, arith, refl, ◌∙◌, subst, ap}
use Rattle.std.specs.Prelude.{Bool, true, false, if◌then◌else◌, filter, cond, Some, is_some, ◌==◌}
use Rattle.std.specs.List.{range_with_len}
use Rattle.std.proofs.lemmas.Bool.Decides.{nat_tests}
use Rattle.ak_core.specs.Layout.{Layout, IsValid}
use Rattle.ak_core.specs.declared.event.Event.{Event}
use Rattle.ak_core.specs.declared.moves.Answer.{Answer}
use Rattle.ak_core.specs.declared.moves.Exit.{Exit}
use Rattle.ak_core.specs.declared.moves.Move.{Move}
use Rattle.ak_core.specs.declared.moves.Move.TheVariants.{Run}
use Rattle.ak_model.specs.Control.Answers.{answer}
use Rattle.ak_model.specs.Control.ControlState.{Asked, Enter, Probe, Finish, Control}
use Rattle.ak_model.specs.Kernels.Counted.{service}
use Rattle.ak_model.specs.Sound.Forced.{queue_by}
use Rattle.ak_model.specs.Paging.Histories.{History}
use Rattle.ak_model.specs.Kernels.HonestKernel.{is_ended, drive}
use Rattle.ak_model.specs.Paging.Inside.{inside, someone_inside}
use Rattle.ak_model.specs.Laws.Orderly.{PhaseFits}
use Rattle.ak_model.specs.Paging.Pages.{pages, pages_of, cluster_at}
use Rattle.ak_model.specs.Laws.Premises.{MissesFit}
use Rattle.ak_model.specs.Tapes.ProgramTurns.{program_turns}
use Rattle.ak_model.specs.Control.RuntimeTurn.{unless_fault}
use Rattle.ak_model.specs.Stops.ShownStop.{has_break}
use Rattle.ak_model.specs.Control.Trace.{trace}
use Rattle.ak_model.specs.Control.Runs.{go_on, run}
use Rattle.ak_model.specs.Laws.OneLiveCopy.{OneCopy}
use Rattle.ak_model.proofs.Paging.OneCopy.{one_copy}
use Rattle.ak_model.proofs.Control.OrderlyMoments.{trace_is_orderly}
use Rattle.ak_model.proofs.Control.OneInsideTrace.{counts_right}
use Rattle.ak_model.proofs.Clusters.ValidClusters.{clusters_fit}
use Rattle.ak_driver.specs.HonestRuns.{IsRoomy}
use Rattle.ak_driver.proofs.Invariant.PageStates.{PageState}
use Rattle.ak_driver.proofs.Invariant.Spots.{Begins, Probes, Finishes, Spot, Answering, Progress, control_at}
use Rattle.ak_driver.proofs.Invariant.HonestMoments.{IsHonest}
use Rattle.ak_driver.proofs.Driving.AllRuns.{someone_there}
use Rattle.ak_driver.proofs.Turns.AnsweringTurn.{begins_quiet, finish_quiet, probe_quiet}
use Rattle.ak_driver.proofs.Driving.DrivenMove.{gives}
use Rattle.ak_driver.proofs.Driving.KernelSteps.{first_found}
use Rattle.ak_driver.proofs.Turns.RunMove.{run_answered}
use Rattle.ak_driver.proofs.Turns.RunsLead.{probed}

-- a filter keeps no more than there are
few_kept : (test : ℕ → Bool) (n a : ℕ) → length (filter test (range_with_len a n)) ≤ n
few_kept test zero a = omega arith
few_kept test (suc n) a = by (test a) (few_kept test n (a + 1))
  where
    by : (b : Bool) → length (filter test (range_with_len (a + 1) n)) ≤ n → length (cond b (a ∷ filter test (range_with_len (a + 1) n)) (filter test (range_with_len (a + 1) n))) ≤ suc n
    by true l = omega arith
    by false l = omega arith

module _ (layout : Layout) (past : History) (control : Control) (c v : ℕ) (rest : Progress) (states : ℕ → PageState) (valid : IsValid layout) (copies : OneCopy layout past)
    (old : IsHonest layout past control (Answering c (Begins v)) rest states) (counted : (service past).queue ≡ rest.queue) where
  -- the exit of a run of up to n turns from a spot
  abbrev exit_from : ℕ → Spot → Exit
  exit_from n spot = (run layout past n (control_at spot rest)).exit

  -- the last turn says Ready
  finish_ran : (n : ℕ) → exit_from (suc n) (Answering c Finishes) ≡ Exit.Ready
  finish_ran n = ap (λ o. (go_on (unless_fault layout (control_at (Answering c Finishes) rest) Finish o) (run layout past n)).exit) (finish_quiet layout past old.stands.untouched (service past) rest counted old.unbroken c)

  -- the exit after the probe of page number i, the last or not
  abbrev after_probe : ℕ → ℕ → Bool → Exit
  after_probe n i last = (run layout past n (record (control_at (Answering c (Probes i)) rest) { now = if last then Some Finish else Some (Probe (suc i)) })).exit

  one_probe : (n i : ℕ) → i < length (pages_of layout c) → exit_from (suc n) (Answering c (Probes i)) ≡ after_probe n i (suc i == length (pages_of layout c))
  one_probe n i low =
      ap (λ o. (go_on (unless_fault layout (control_at (Answering c (Probes i)) rest) (Probe i) o) (run layout past n)).exit)
      (probe_quiet layout past old.stands.untouched (service past) rest counted old.unbroken c i
      (probed layout past states valid copies old.stands (service past) c i (Probes i) rest old.fits low))

  -- with k more pages after page number i
  probe_ran : (k i n : ℕ) → i + suc k ≡ length (pages_of layout c) → k + 2 ≤ n → exit_from n (Answering c (Probes i)) ≡ Exit.Ready
  probe_ran k i zero e l = absurd (omega arith)
  probe_ran zero i (suc zero) e l = absurd (omega arith)
  probe_ran zero i (suc (suc n)) e l =
      let t : (suc i == length (pages_of layout c)) ≡ true = grind (arith, nat_tests) in
      one_probe (suc n) i (omega arith) ∙ ap (after_probe (suc n) i) t ∙ finish_ran n
  probe_ran (suc k) i (suc n) e l =
      let t : (suc i == length (pages_of layout c)) ≡ false = grind (arith, nat_tests) in
      one_probe n i (omega arith) ∙ ap (after_probe n i) t ∙ probe_ran k (suc i) n (omega arith) (omega arith)

  -- a turn for the entry, one for each page, and one to finish
  begins_ran : (n : ℕ) → 1 ≤ length (pages_of layout c) → length (pages_of layout c) + 2 ≤ n → exit_from n (Answering c (Begins v)) ≡ Exit.Ready
  begins_ran zero some l = absurd (omega arith)
  begins_ran (suc n) some l =
      ap (λ o. (go_on (unless_fault layout (control_at (Answering c (Begins v)) rest) (Enter 1 v) o) (run layout past n)).exit) (begins_quiet layout past old.stands.untouched (service past) rest counted old.unbroken c v)
      ∙ probe_ran (length (pages_of layout c) - 1) 0 n (omega arith) (omega arith)

  pub ready_ran : (n : ℕ) → 514 ≤ n → c < layout.clusters → (run layout past n control).exit ≡ Exit.Ready
  ready_ran n many known =
      let some = (clusters_fit layout valid).some_page c known in
      let few = few_kept (λ p. cluster_at layout p == c) (pages layout) 0 in
      let limit = valid.few_pages in
      ap (λ k. (run layout past n k).exit) old.control_is ∙ begins_ran n some (omega arith)

module _ (layout : Layout) (valid : IsValid layout) (roomy : IsRoomy layout) (tape : List Event) (misses : MissesFit layout [] tape) (whole : has_break tape ≡ false) (inputs : List ℕ)
    (moves : List Move) (c v : ℕ) (rest : Progress) (states : ℕ → PageState) (old : IsHonest layout (trace layout tape moves).past (trace layout tape moves).control (Answering c (Begins v)) rest states) where
  -- once a processor has entered while cluster c is asked for, the kernel runs it, and the runtime says Ready
  pub answers_ready : (drive layout (trace layout tape moves).past inputs ≡ Some (Run (record { 0 = 0 }) 1000)) × (answer layout (trace layout tape moves).past (trace layout tape moves).control (Run (record { 0 = 0 }) 1000) ≡ Answer.Exit Exit.Ready)
  answers_ready =
      let past = (trace layout tape moves).past in
      let control = (trace layout tape moves).control in
      let counts = counts_right layout tape moves in
      let copies = one_copy layout tape moves in
      let laws = trace_is_orderly layout valid tape misses moves in
      let asked : control.phase ≡ Asked c = ap (λ x. x.phase) old.control_is in
      let entered : control.now ≡ Some (Enter 1 v) = ap (λ x. x.now) old.control_is in
      let orderly = someone_there layout valid roomy tape misses whole inputs moves (someone_inside layout past) laws (ap is_some entered) in
      let counted : (service past).queue ≡ rest.queue = counts.queue_is ∙ ap (λ x. x.queue) old.control_is in
      let known : PhaseFits layout control.queue control.cause (Asked c) = subst (λ x. PhaseFits layout control.queue control.cause x) asked laws.phase in
      let e : is_ended past ≡ false = old.going in
      let i : inside past 0 ≡ true = old.inside_is 0 in
      let f = first_found (inside past) layout.lps valid.some_lp i in (
        gives layout past control (Answering c (Begins v)) rest states inputs valid copies counts old _ (rw (e, f) refl),
        run_answered layout past control (Answering c (Begins v)) rest states old refl valid copies (queue_by layout (program_turns layout tape moves)) orderly counted 1000
            ∙ ap Answer.Exit (ready_ran layout past control c v rest states valid copies old counted 1000 (omega arith) known.0),
      )
