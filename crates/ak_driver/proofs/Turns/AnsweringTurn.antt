-- The turns that answer a request: the probes of what was fetched.
use Rattle.std.proofs.Common.{◌≡◌, ℕ, suc, [], ◌∷◌, ◌++◌, length, arith, refl, sym, subst}
use Rattle.std.specs.Prelude.{Bool, true, false, if◌then◌else◌, Option, Some, None, ◌==◌, slice_index}
use Rattle.ak_core.specs.Layout.{Layout}
use Rattle.ak_core.specs.Mem.{Access}
use Rattle.ak_model.specs.Paging.Pages.{pages_of, strong_kind}
use Rattle.ak_model.specs.Paging.Histories.{History}
use Rattle.ak_model.specs.Paging.Walk.{walkable}
use Rattle.ak_model.specs.Control.ControlState.{Context, Enter, Probe, Finish}
use Rattle.ak_model.specs.Kernels.Counted.{Service as Counted, Request, with_served}
use Rattle.ak_model.specs.Stops.ShownStop.{has_break}
use Rattle.ak_model.specs.Control.RuntimeTurn.{accesses, first_fault, unless_fault}
use Rattle.ak_model.specs.Control.Runs.{turn}
use Rattle.ak_driver.proofs.Invariant.Untouched.{Untouched}
use Rattle.ak_driver.proofs.Invariant.Spots.{Begins, Probes, Finishes, Spot, Answering, Resumable, Progress, control_at}
use Rattle.ak_driver.proofs.Invariant.HonestMoments.{IsPlain}
use Rattle.ak_driver.proofs.Invariant.TurnsLead.{GoesOn, Leads}
use Rattle.ak_driver.proofs.Turns.QueuesHold.{more_in}
use Rattle.ak_driver.proofs.Pages.WalkedPages.{ssa_walks, state_walks, code_walks}

-- after it was served no request is open
served_closed : (service : Counted) (o : Option Request) → service.request ≡ o → (with_served service o).request ≡ None
served_closed service None e = e
served_closed service (Some request) e = refl

module _ (layout : Layout) (past : History) (untouched : Untouched layout past) (service : Counted) (rest : Progress) (queue_is : service.queue ≡ rest.queue) (whole : has_break rest.rest ≡ false) where
  -- the accesses of a step whose own accesses are none, or the oldest saved-state area
  abbrev steps_over : Spot → Context → Option Access
  steps_over spot context = first_fault layout past (accesses layout (control_at spot rest) context)

  pub begins_quiet : (cluster v : ℕ) → steps_over (Answering cluster (Begins v)) (Enter 1 v) ≡ None
  begins_quiet cluster v =
      let c = code_walks layout past untouched in let s = state_walks layout past untouched in let a = ssa_walks layout past untouched 0 (omega arith) in
      rw (c, s, a) refl

  pub finish_quiet : (cluster : ℕ) → steps_over (Answering cluster Finishes) Finish ≡ None
  finish_quiet cluster =
      let c = code_walks layout past untouched in let s = state_walks layout past untouched in let a = ssa_walks layout past untouched 0 (omega arith) in
      rw (c, s, a) refl

  pub probe_quiet : (cluster i : ℕ) → (let p = slice_index (pages_of layout cluster) i in walkable layout past p (strong_kind layout p)) ≡ true → steps_over (Answering cluster (Probes i)) (Probe i) ≡ None
  probe_quiet cluster i found =
      let c = code_walks layout past untouched in let s = state_walks layout past untouched in
      rw (c, s, found) refl

  -- ---- The runtime probes what was fetched

  pub begins_turn : (c v : ℕ) → Leads service (Answering c (Begins v)) rest (turn layout past (control_at (Answering c (Begins v)) rest))
  begins_turn c v = subst (λ o. Leads service (Answering c (Begins v)) rest (unless_fault layout (control_at (Answering c (Begins v)) rest) (Enter 1 v) o)) (sym (begins_quiet c v)) (record {
    next = Answering c (Probes 0);
    after = rest;
    control_is = refl;
    within = refl;
    asking = refl;
    queue = refl;
    unbroken = whole;
    fits = λ there dropped x state h. h;
    apart = λ queue dropped h. h;
  })

  pub probes_turn : (c i : ℕ) → (let p = slice_index (pages_of layout c) i in walkable layout past p (strong_kind layout p)) ≡ true → Leads service (Answering c (Probes i)) rest (turn layout past (control_at (Answering c (Probes i)) rest))
  probes_turn c i found = subst (λ o. Leads service (Answering c (Probes i)) rest (unless_fault layout (control_at (Answering c (Probes i)) rest) (Probe i) o)) (sym (probe_quiet c i found)) (by (suc i == length (pages_of layout c)))
    where
      by : (b : Bool) → GoesOn (Answering c (Probes i)) rest (record (control_at (Answering c (Probes i)) rest) { now = if b then Some Finish else Some (Probe (suc i)) })
      by true = record {
        next = Answering c Finishes;
        after = rest;
        control_is = refl;
        within = refl;
        asking = refl;
        queue = refl;
        unbroken = whole;
        fits = λ there dropped x state h. h;
        apart = λ queue dropped h. h;
      }
      by false = record {
        next = Answering c (Probes (suc i));
        after = rest;
        control_is = refl;
        within = refl;
        asking = refl;
        queue = refl;
        unbroken = whole;
        fits = λ there dropped x state h. h;
        apart = λ queue dropped h. h;
      }

  pub finish_turn : (c : ℕ) → Leads service (Answering c Finishes) rest (turn layout past (control_at (Answering c Finishes) rest))
  finish_turn c = subst (λ o. Leads service (Answering c Finishes) rest (unless_fault layout (control_at (Answering c Finishes) rest) Finish o)) (sym (finish_quiet c)) (record {
    next = Resumable;
    after = record rest { queue = rest.queue ++ c ∷ [] };
    control_is = refl;
    outside = refl;
    left = λ e. cc;
    unstopped = refl;
    ends = refl;
    closed = λ a o. served_closed service service.request refl;
    waits = λ b a. absurd (cc);
    unbroken = whole;
    fits = λ x state h. subst (λ b. IsPlain b state) (sym (more_in rest.queue c x)) h;
    apart = tt;
  })
