-- A run of up to n turns from a spot inside.
use Rattle.std.proofs.Common.{◌≡◌, ℕ, zero, suc, ◌<◌, List, arith, refl, inl, inr, sym, ◌∙◌, subst}
use Rattle.std.specs.Prelude.{true, false, ◌||◌, ◌==◌, slice_index, length}
use Rattle.std.proofs.lemmas.Bool.Decides.{nat_tests}
use Rattle.ak_core.specs.Layout.{Layout, IsValid}
use Rattle.ak_model.specs.Paging.Pages.{pages, pages_of, cluster_at}
use Rattle.ak_model.specs.Paging.Histories.{History}
use Rattle.ak_model.specs.Clusters.Queue.{is_in}
use Rattle.ak_model.specs.Control.ControlState.{Control}
use Rattle.ak_model.specs.Kernels.Counted.{Service as Counted}
use Rattle.ak_model.specs.Kernels.KernelRules.{is_mapped}
use Rattle.ak_model.specs.Laws.Orderly.{IsOrderly, TurnIsOrderly, after_turn}
use Rattle.ak_model.specs.Stops.ShownStop.{has_break}
use Rattle.ak_model.specs.Control.OneTurn.{Turn, Goes, Leaves}
use Rattle.ak_model.specs.Control.Runs.{turn, Ran, go_on, run}
use Rattle.ak_model.proofs.Clusters.ClusterPages.{page_low, page_cluster}
use Rattle.ak_model.specs.Laws.OneLiveCopy.{OneCopy}
use Rattle.ak_model.proofs.Control.OrderlyTurns.{turn_fits}
use Rattle.ak_model.proofs.Clusters.ValidClusters.{clusters_fit}
use Rattle.ak_driver.proofs.Invariant.PageStates.{PageState}
use Rattle.ak_driver.proofs.Invariant.PagesStand.{PagesStand}
use Rattle.ak_driver.proofs.Invariant.Spots.{ByVector, ByDenial, ByMiss, AnswerStep, Begins, Probes, Finishes, Spot, Idle, Entered, InProgram, Leaving, Left, Handling, Requested, Answering, Resumable, Over, Progress, control_at, is_within}
use Rattle.ak_driver.proofs.Invariant.HonestMoments.{MayBe, IsPlain, dropped_for}
use Rattle.ak_driver.proofs.Invariant.TurnsLead.{GoesOn, Leads, RunLeads}
use Rattle.ak_driver.proofs.Turns.EnteringMoves.{or_true}
use Rattle.ak_driver.proofs.Turns.ProgramTurn.{program_leads}
use Rattle.ak_driver.proofs.Turns.TurnCases.{entered_turn, leaving_turn, vector_handled, denial_handled, miss_handled}
use Rattle.ak_driver.proofs.Turns.AnsweringTurn.{begins_turn, probes_turn, finish_turn}
use Rattle.ak_driver.proofs.Pages.WalkedPages.{in_mapped}

module _ (layout : Layout) (past : History) (states : ℕ → PageState) (valid : IsValid layout) (copies : OneCopy layout past) (stands : PagesStand layout past states) (service : Counted) where
  -- where each page may be at a spot
  abbrev Fits : Spot → Progress → Type 0
  Fits spot rest = (p : ℕ) → p < pages layout → MayBe spot (is_in rest.queue (cluster_at layout p)) (is_in (dropped_for service.request) (cluster_at layout p)) (cluster_at layout p) (states p)

  -- the page that is probed is mapped
  pub probed : (c i : ℕ) (step : AnswerStep) (rest : Progress) → Fits (Answering c step) rest → i < length (pages_of layout c) → is_mapped layout past (slice_index (pages_of layout c) i) ≡ true
  probed c i step rest fits low =
      let p = slice_index (pages_of layout c) i in
      let small = page_low layout c i low in
      let own = page_cluster layout c i low in
      let same : (cluster_at layout p == c) ≡ true = grind (arith, nat_tests) in
      let there : (is_in rest.queue (cluster_at layout p) || (cluster_at layout p == c)) ≡ true = rw same (or_true (is_in rest.queue (cluster_at layout p))) in
      in_mapped layout past states copies stands p small (subst (λ b. IsPlain b (states p)) there (fits p small))

  -- each turn from a spot inside leads to a spot
  pub turn_leads : (spot : Spot) (rest : Progress) (so_far : List ℕ) → is_within spot ≡ true → service.queue ≡ rest.queue → has_break rest.rest ≡ false → Fits spot rest
      → IsOrderly layout so_far true (control_at spot rest) → Leads service spot rest (turn layout past (control_at spot rest))
  turn_leads (Entered called v) rest so_far w q whole fits o = entered_turn layout past stands.untouched service rest q whole called v
  turn_leads InProgram rest so_far w q whole fits o = program_leads layout past service rest.queue rest.count rest.returned rest.rest whole
  turn_leads (Leaving b a) rest so_far w q whole fits o = leaving_turn layout past stands.untouched service rest q whole b a
  turn_leads (Handling (ByVector x) v) rest so_far w q whole fits o = vector_handled layout past stands.untouched service rest q whole x v
  turn_leads (Handling ByDenial v) rest so_far w q whole fits o = denial_handled layout past stands.untouched service rest q whole v
  turn_leads (Handling (ByMiss c) v) rest so_far w q whole fits o = miss_handled layout past stands.untouched service rest q whole c v o.queue.distinct o.stack.0.reason.2
  turn_leads (Answering c (Begins v)) rest so_far w q whole fits o = begins_turn layout past stands.untouched service rest q whole c v
  turn_leads (Answering c (Probes i)) rest so_far w q whole fits o = probes_turn layout past stands.untouched service rest q whole c i (probed c i (Probes i) rest fits o.now.1)
  turn_leads (Answering c Finishes) rest so_far w q whole fits o = finish_turn layout past stands.untouched service rest q whole c
  turn_leads (Idle called) rest so_far w q whole fits o = absurd (cc)
  turn_leads (Left fault) rest so_far w q whole fits o = absurd (cc)
  turn_leads (Requested c) rest so_far w q whole fits o = absurd (cc)
  turn_leads Resumable rest so_far w q whole fits o = absurd (cc)
  turn_leads (Over end stack) rest so_far w q whole fits o = absurd (cc)

  -- one turn and then others
  first_then : (spot : Spot) (rest : Progress) (control : Control) (one : GoesOn spot rest control) (ran : Ran) → RunLeads service one.next one.after ran → RunLeads service spot rest ran
  first_then spot rest control one ran more = by more
    where
      by : RunLeads service one.next one.after ran → RunLeads service spot rest ran
      by (inl s) = inl (
        s.0,
        record {
          next = s.1.next;
          after = s.1.after;
          control_is = s.1.control_is;
          within = s.1.within;
          asking = s.1.asking ∙ one.asking;
          queue = s.1.queue ∙ one.queue;
          unbroken = s.1.unbroken;
          fits = λ there dropped x state h. s.1.fits there dropped x state (one.fits there dropped x state h);
          apart = λ queue dropped h. s.1.apart queue dropped (one.apart queue dropped h);
        },
      )
      by (inr l) = inr (record {
        next = l.next;
        after = l.after;
        control_is = l.control_is;
        outside = l.outside;
        left = l.left;
        unstopped = l.unstopped;
        ends = l.ends;
        waits = l.waits;
        closed = λ a o. l.closed a (λ b. o (sym one.asking ∙ b));
        unbroken = l.unbroken;
        fits = λ x state h. l.fits x state (subst (λ q. MayBe one.next (is_in q x) (is_in (dropped_for service.request) x) x state) (sym one.queue) (one.fits (is_in rest.queue x) (is_in (dropped_for service.request) x) x state h));
        apart = l.apart;
      })

  -- a run of up to n turns
  pub run_leads : (n : ℕ) (spot : Spot) (rest : Progress) (so_far : List ℕ) → is_within spot ≡ true → service.queue ≡ rest.queue → has_break rest.rest ≡ false → Fits spot rest
      → IsOrderly layout so_far true (control_at spot rest) → RunLeads service spot rest (run layout past n (control_at spot rest))
  run_leads zero spot rest so_far w q whole fits o = inl (
    refl,
    record {
      next = spot;
      after = rest;
      control_is = refl;
      within = w;
      asking = refl;
      queue = refl;
      unbroken = whole;
      fits = λ there dropped x state h. h;
      apart = λ queue dropped h. h;
    },
  )
  run_leads (suc n) spot rest so_far w q whole fits o =
      after (turn layout past (control_at spot rest)) (turn_leads spot rest so_far w q whole fits o)
      (turn_fits layout so_far (clusters_fit layout valid) past (control_at spot rest) o)
      (λ next more. run_leads n next more (after_turn layout so_far (control_at spot rest) (control_at spot rest).now))
    where
      after : (t : Turn) → Leads service spot rest t → TurnIsOrderly layout (after_turn layout so_far (control_at spot rest) (control_at spot rest).now) t
          → ((next : Spot) (more : Progress) → is_within next ≡ true → service.queue ≡ more.queue → has_break more.rest ≡ false → Fits next more
          → IsOrderly layout (after_turn layout so_far (control_at spot rest) (control_at spot rest).now) true (control_at next more) → RunLeads service next more (run layout past n (control_at next more)))
          → RunLeads service spot rest (go_on t (run layout past n))
      after (Leaves exit control) led kept again = inr led
      after (Goes control) led kept again =
          first_then spot rest control led (run layout past n control)
          (subst (λ c. RunLeads service led.next led.after (run layout past n c)) (sym led.control_is)
          (again led.next led.after led.within (q ∙ sym led.queue) led.unbroken
          (λ p low. subst (λ q. MayBe led.next (is_in q (cluster_at layout p)) (is_in (dropped_for service.request) (cluster_at layout p)) (cluster_at layout p) (states p)) (sym led.queue)
          (led.fits (is_in rest.queue (cluster_at layout p)) (is_in (dropped_for service.request) (cluster_at layout p)) (cluster_at layout p) (states p) (fits p low)))
          (subst (λ c. IsOrderly layout (after_turn layout so_far (control_at spot rest) (control_at spot rest).now) true c) led.control_is kept)))
