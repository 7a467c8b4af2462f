-- Each turn of an honest run: no access of the runtime faults, and the turn leads to a spot.
use Rattle.std.proofs.Common.{◌≡◌, ℕ, zero, suc, [], ◌∷◌, ◌++◌, drop, arith, refl, sym, subst}
use Rattle.std.specs.Prelude.{Bool, true, false, Option, None, ◌==◌}
use Rattle.ak_core.specs.Layout.{Layout}
use Rattle.ak_core.specs.Mem.{Access}
use Rattle.ak_model.specs.Paging.Histories.{History}
use Rattle.ak_model.specs.Clusters.Queue.{is_in, drops}
use Rattle.ak_model.specs.Control.ControlState.{Context, Enter, Leave}
use Rattle.ak_model.specs.Kernels.Counted.{Service as Counted}
use Rattle.ak_model.specs.Laws.Orderly.{IsDistinct}
use Rattle.ak_model.specs.Stops.ShownStop.{has_break}
use Rattle.ak_model.specs.Control.RuntimeTurn.{accesses, first_fault, unless_fault}
use Rattle.ak_model.specs.Control.Runs.{turn}
use Rattle.ak_driver.proofs.Invariant.Untouched.{Untouched}
use Rattle.ak_driver.proofs.Invariant.Spots.{Fault, ByVector, ByDenial, ByMiss, ByStatus, ByTrap, Spot, Idle, Entered, InProgram, Leaving, Handling, Requested, Over, Progress, control_at, guard_saved}
use Rattle.ak_driver.proofs.Invariant.TurnsLead.{Leads}
use Rattle.ak_driver.proofs.Turns.QueuesHold.{asks, apart_in, none_taken}
use Rattle.ak_driver.proofs.Pages.WalkedPages.{ssa_walks, state_walks, code_walks}

module _ (layout : Layout) (past : History) (untouched : Untouched layout past) (service : Counted) (rest : Progress) (queue_is : service.queue ≡ rest.queue) (whole : has_break rest.rest ≡ false) where
  -- the accesses of a step whose own accesses are none, or the oldest saved-state area
  abbrev steps_over : Spot → Context → Option Access
  steps_over spot context = first_fault layout past (accesses layout (control_at spot rest) context)

  entered_quiet : (called : Bool) (v : ℕ) → steps_over (Entered called v) (Enter 0 v) ≡ None
  entered_quiet called v =
      let c = code_walks layout past untouched in let s = state_walks layout past untouched in
      rw (c, s) refl

  leaving_quiet : (b a : ℕ) → steps_over (Leaving b a) (Leave b a) ≡ None
  leaving_quiet b a =
      let c = code_walks layout past untouched in let s = state_walks layout past untouched in
      rw (c, s) refl

  handling_quiet : (fault : Fault) (v : ℕ) → steps_over (Handling fault v) (Enter 1 v) ≡ None
  handling_quiet fault v =
      let c = code_walks layout past untouched in let s = state_walks layout past untouched in let a = ssa_walks layout past untouched 0 (omega arith) in
      rw (c, s, a) refl

  -- ---- The program begins, or goes on after a call

  pub entered_turn : (called : Bool) (v : ℕ) → Leads service (Entered called v) rest (turn layout past (control_at (Entered called v) rest))
  entered_turn true v = subst (λ o. Leads service (Entered true v) rest (unless_fault layout (control_at (Entered true v) rest) (Enter 0 v) o)) (sym (entered_quiet true v)) (record {
    next = InProgram;
    after = record rest { returned = rest.returned ++ v ∷ [] };
    control_is = refl;
    within = refl;
    asking = refl;
    queue = refl;
    unbroken = whole;
    fits = λ there dropped x state h. h;
    apart = λ queue dropped h. tt;
  })
  entered_turn false v = subst (λ o. Leads service (Entered false v) rest (unless_fault layout (control_at (Entered false v) rest) (Enter 0 v) o)) (sym (entered_quiet false v)) (record {
    next = InProgram;
    after = rest;
    control_is = refl;
    within = refl;
    asking = refl;
    queue = refl;
    unbroken = whole;
    fits = λ there dropped x state h. h;
    apart = λ queue dropped h. tt;
  })

  -- ---- The program calls

  pub leaving_turn : (b a : ℕ) → Leads service (Leaving b a) rest (turn layout past (control_at (Leaving b a) rest))
  leaving_turn zero a = subst (λ o. Leads service (Leaving zero a) rest (unless_fault layout (control_at (Leaving zero a) rest) (Leave zero a) o)) (sym (leaving_quiet zero a)) (record {
    next = Over (ByStatus a) [];
    after = rest;
    control_is = refl;
    outside = refl;
    left = λ e. cc;
    unstopped = refl;
    ends = refl;
    closed = λ a o. o refl;
    waits = λ b a. absurd (cc);
    unbroken = whole;
    fits = λ x state h. h;
    apart = tt;
  })
  leaving_turn (suc b) a = subst (λ o. Leads service (Leaving (suc b) a) rest (unless_fault layout (control_at (Leaving (suc b) a) rest) (Leave (suc b) a) o)) (sym (leaving_quiet (suc b) a)) (record {
    next = Idle true;
    after = rest;
    control_is = refl;
    outside = refl;
    left = λ e. cc;
    unstopped = refl;
    ends = refl;
    closed = λ a o. o refl;
    waits = λ b a. absurd (cc);
    unbroken = whole;
    fits = λ x state h. h;
    apart = tt;
  })

  -- ---- The runtime handles the program's fault

  pub vector_handled : (x v : ℕ) → Leads service (Handling (ByVector x) v) rest (turn layout past (control_at (Handling (ByVector x) v) rest))
  vector_handled x v = subst (λ o. Leads service (Handling (ByVector x) v) rest (unless_fault layout (control_at (Handling (ByVector x) v) rest) (Enter 1 v) o)) (sym (handling_quiet (ByVector x) v)) (record {
    next = Over (ByTrap x) guard_saved;
    after = rest;
    control_is = refl;
    outside = refl;
    left = λ e. cc;
    unstopped = refl;
    ends = refl;
    closed = λ a o. o refl;
    waits = λ b a. absurd (cc);
    unbroken = whole;
    fits = λ x state h. h;
    apart = tt;
  })

  pub denial_handled : (v : ℕ) → Leads service (Handling ByDenial v) rest (turn layout past (control_at (Handling ByDenial v) rest))
  denial_handled v = subst (λ o. Leads service (Handling ByDenial v) rest (unless_fault layout (control_at (Handling ByDenial v) rest) (Enter 1 v) o)) (sym (handling_quiet ByDenial v)) (record {
    next = Over (ByTrap 14) guard_saved;
    after = rest;
    control_is = refl;
    outside = refl;
    left = λ e. cc;
    unstopped = refl;
    ends = refl;
    closed = λ a o. o refl;
    waits = λ b a. absurd (cc);
    unbroken = whole;
    fits = λ x state h. h;
    apart = tt;
  })

  pub miss_handled : (c v : ℕ) → IsDistinct rest.queue → is_in rest.queue c ≡ false → Leads service (Handling (ByMiss c) v) rest (turn layout past (control_at (Handling (ByMiss c) v) rest))
  miss_handled c v distinct out = subst (λ o. Leads service (Handling (ByMiss c) v) rest (unless_fault layout (control_at (Handling (ByMiss c) v) rest) (Enter 1 v) o)) (sym (handling_quiet (ByMiss c) v)) (
      let d = drops layout rest.queue c in let none = none_taken d rest.queue c out in let q = queue_is in
      record {
        next = Requested c;
        after = record rest { queue = drop d rest.queue };
        control_is = refl;
        outside = refl;
        left = λ e. cc;
        unstopped = refl;
        ends = refl;
        closed = λ a o. absurd (cc);
        waits = λ b a. refl;
        unbroken = whole;
        fits = λ x state h. rw q (asks d rest.queue x (x == c) state h);
        apart = rw q (none.1, none.0, λ x t. apart_in d rest.queue x distinct t);
      })
