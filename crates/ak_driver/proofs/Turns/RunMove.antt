-- A run of processor 0 keeps the invariant.
use Rattle.std.proofs.Common.{◌≡◌, ℕ, ◌+◌, List, [], ◌∷◌, length, map, arith, refl, inl, inr, sym, ◌∙◌, subst, ap}
use Rattle.std.specs.Prelude.{Bool, true, false, ◌&&◌, ◌||◌, not, filter, if◌then◌else◌, Option, None, is_some, nat_lt, ◌==◌}
use Rattle.std.specs.List.{list_all}
use Rattle.std.proofs.lemmas.Bool.{lt-ltb, and_parts, eqb-true}
use Rattle.ak_core.specs.Layout.{Layout, IsValid}
use Rattle.ak_core.specs.declared.moves.Exit.{Exit}
use Rattle.ak_core.specs.declared.moves.Exit.TheVariants.{Still}
use Rattle.ak_core.specs.declared.moves.Move.TheVariants.{Run}
use Rattle.ak_core.specs.declared.moves.Answer.{Answer}
use Rattle.ak_model.specs.Paging.Pages.{perm_of, strong_flags, cluster_at}
use Rattle.ak_model.specs.Paging.Histories.{History, Pair, Exits, change_of}
use Rattle.ak_model.specs.Paging.Frames.{held, held_after, blocked_at, blocked_after}
use Rattle.ak_model.specs.Paging.Handles.{place, place_after, slot, slot_after, discarded, discarded_after}
use Rattle.ak_model.specs.Paging.PageTable.{pte, pte_after}
use Rattle.ak_model.specs.Paging.Tracking.{Cycle, without, is_over, cycles, cycles_after}
use Rattle.ak_model.specs.Paging.Inside.{inside, since, since_after}
use Rattle.ak_model.specs.Clusters.Queue.{is_in}
use Rattle.ak_model.specs.Control.ControlState.{Control}
use Rattle.ak_model.specs.Kernels.Counted.{service, service_after, service_by}
use Rattle.ak_model.specs.Kernels.HonestKernel.{newest_copy, copy_after, is_end, is_ended}
use Rattle.ak_model.specs.Kernels.KernelRules.{entered_after, entered_since_ask}
use Rattle.ak_model.specs.Laws.Orderly.{IsOrderly}
use Rattle.ak_model.specs.Control.Answers.{answer}
use Rattle.ak_model.specs.Control.Runs.{run}
use Rattle.ak_model.specs.Laws.OneLiveCopy.{OneCopy}
use Rattle.ak_model.specs.Stops.Blame.{resumes}
use Rattle.ak_driver.proofs.Invariant.PageStates.{PageState, IsInStateBy}
use Rattle.ak_driver.proofs.Invariant.Untouched.{UntouchedBy}
use Rattle.ak_driver.proofs.Invariant.PagesStand.{PagesStand}
use Rattle.ak_driver.proofs.Invariant.Spots.{Spot, Idle, Entered, InProgram, Leaving, Left, Handling, Requested, Answering, Resumable, Over, Progress, is_within}
use Rattle.ak_driver.proofs.Invariant.HonestMoments.{IsHonest, MayBe, AreApart, dropped_for, is_over_at}
use Rattle.ak_driver.proofs.Invariant.TurnsLead.{GoesOn, LeavesFor, RunLeads}
use Rattle.ak_driver.proofs.Turns.EnteringMoves.{done_granted, within_resumable}
use Rattle.ak_driver.proofs.Turns.RunsLead.{run_leads}

-- a cycle that waits for nobody goes on so when a processor leaves
without_over : (lp : ℕ) (waiting : List ℕ) → (length waiting == 0) ≡ true → (length (filter (λ q. not (q == lp)) waiting) == 0) ≡ true
without_over lp [] h = refl
without_over lp (x ∷ xs) h = absurd (let e = eqb-true (length (x ∷ xs)) 0 h in omega arith)

all_over : (lp : ℕ) (all : List Cycle) → list_all is_over all ≡ true → list_all is_over (map (without lp) all) ≡ true
all_over lp [] h = refl
all_over lp (cycle ∷ older) h =
    let a = and_parts (is_over cycle) (list_all is_over older) h in
    let b = without_over lp cycle.waiting a.0 in let c = all_over lp older a.1 in rw (b, c) refl

-- an exit but Still is a leaving
pub left_change : (n : ℕ) (exit : Exit) → (exit ≡ Still → ⊥) → change_of (Run (record { 0 = 0 }) n, Answer.Exit exit) ≡ Exits 0 exit
left_change n (Exit.Pf base code) h = refl
left_change n (Exit.Vector v) h = refl
left_change n (Exit.Ask d c) h = refl
left_change n Exit.Ready h = refl
left_change n (Exit.Call b a) h = refl
left_change n Exit.Nothing h = refl
left_change n Exit.Stopped h = refl
left_change n (Exit.Ended s) h = refl
left_change n (Exit.Trapped v) h = refl
left_change n Still h = absurd (h refl)

-- no run is a resuming
pub never_resumes : (n : ℕ) (exit : Exit) → resumes (change_of (Run (record { 0 = 0 }) n, Answer.Exit exit)) ≡ false
never_resumes n (Exit.Pf base code) = refl
never_resumes n (Exit.Vector v) = refl
never_resumes n (Exit.Ask d c) = refl
never_resumes n Exit.Ready = refl
never_resumes n (Exit.Call b a) = refl
never_resumes n Exit.Nothing = refl
never_resumes n Exit.Stopped = refl
never_resumes n (Exit.Ended s) = refl
never_resumes n (Exit.Trapped v) = refl
never_resumes n Still = refl

-- nothing is over at a spot inside
pub within_going : (spot : Spot) → is_within spot ≡ true → is_over_at spot ≡ false
within_going (Over end stack) h = absurd (cc)
within_going (Idle called) h = refl
within_going (Entered called v) h = refl
within_going InProgram h = refl
within_going (Leaving b a) h = refl
within_going (Left fault) h = refl
within_going (Handling fault v) h = refl
within_going (Requested c) h = refl
within_going (Answering c step) h = refl
within_going Resumable h = refl

-- processor 0 has left, and no other was inside
left_alone : (b : Bool) (o : Option ℕ) → is_some o ≡ (true && b) → is_some (if b then None else o) ≡ (false && b)
left_alone true o h = refl
left_alone false o h = h

module _ (layout : Layout) (past : History) (control : Control) (spot : Spot) (rest : Progress) (states : ℕ → PageState) (old : IsHonest layout past control spot rest states) (within : is_within spot ≡ true) where
  -- ---- The pair of a run that left

  module _ (pair : Pair) (exit : Exit) (is : change_of pair ≡ Exits 0 exit) where
    left_stands : PagesStand layout (pair ∷ past) states
    left_stands = record {
      untouched = record {
        same = subst (λ c. UntouchedBy layout (λ f. held_after c f (held layout past f)) (λ f. blocked_after c f (length past + 1) (blocked_at past f)) (λ p. pte_after c p (pte layout past p)) (λ k. discarded_after c k (discarded past k))) (sym is) old.stands.untouched.same;
        over = subst (λ c. list_all is_over (cycles_after layout past c (cycles layout past)) ≡ true) (sym is) (all_over 0 (cycles layout past) old.stands.untouched.over);
      };
      each = λ p low. subst (λ c. IsInStateBy layout.frames (strong_flags (perm_of layout p)) p (states p) (place_after layout past c p (place layout past p)) (copy_after layout past c p (newest_copy layout past p)) (slot_after c 1 p (slot layout past 1 p)) (pte_after c p (pte layout past p)) (λ f. blocked_after c f (length past + 1) (blocked_at past f))) (sym is) (old.stands.each p low);
    }

    left_inside : (lp : ℕ) → inside (pair ∷ past) lp ≡ (false && (lp == 0))
    left_inside lp = subst (λ c. is_some (since_after c lp (length past + 1) (since past lp)) ≡ (false && (lp == 0))) (sym is)
        (left_alone (lp == 0) (since past lp) (let i = old.inside_is lp in let w = within in rw w at i))

    left_service : service (pair ∷ past) ≡ service_by exit (service past)
    left_service = ap (λ c. service_after c (service past)) is

    left_ended : is_ended (pair ∷ past) ≡ is_end exit
    left_ended =
        let e : is_ended past ≡ false = old.going ∙ within_going spot within in
        rw (is, e) (or_none (is_end exit))
      where
        or_none : (b : Bool) → (b || false) ≡ b
        or_none true = refl
        or_none false = refl

  -- ---- The move

  module _ (valid : IsValid layout) (copies : OneCopy layout past) (so_far : List ℕ) (orderly : IsOrderly layout so_far true control) (counted : (service past).queue ≡ rest.queue) (n : ℕ) where
    pub run_answered : answer layout past control (Run (record { 0 = 0 }) n) ≡ Answer.Exit (run layout past n control).exit
    run_answered =
        let some = valid.some_lp in let there : nat_lt 0 layout.lps ≡ true = lt-ltb 0 layout.lps (omega arith) in
        let w : inside past 0 ≡ true = let i = old.inside_is 0 in let w = within in rw w at i in
        rw (there, w) refl

    leads : RunLeads (service past) spot rest (run layout past n control)
    leads =
        let o = subst (λ c. IsOrderly layout so_far true c) old.control_is orderly in
        subst (λ c. RunLeads (service past) spot rest (run layout past n c)) (sym old.control_is)
        (run_leads layout past states valid copies old.stands (service past) n spot rest so_far within counted old.unbroken old.fits o)

    -- the run keeps the invariant, and is outside after it unless it is still going
    abbrev pub RunsTo : Exit → Control → Type 0
    RunsTo exit next =
        (to : Spot) × (more : Progress) × IsHonest layout ((Run (record { 0 = 0 }) n, Answer.Exit exit) ∷ past) next to more states × ((exit ≡ Still → ⊥) → is_within to ≡ false)

    after_still : (exit : Exit) (next : Control) → exit ≡ Still → GoesOn spot rest next → RunsTo exit next
    after_still exit next e g = subst (λ x. RunsTo x next) (sym e) (
      g.next,
      g.after,
      record {
        control_is = g.control_is;
        inside_is = λ lp. let i = old.inside_is lp in let w = within in let v = g.within in rw v (rw w at i);
        stands = record { untouched = record { same = old.stands.untouched.same; over = old.stands.untouched.over }; each = old.stands.each };
        fits = λ p low. subst (λ q. MayBe g.next (is_in q (cluster_at layout p)) (is_in (dropped_for (service past).request) (cluster_at layout p)) (cluster_at layout p) (states p)) (sym g.queue) (g.fits (is_in rest.queue (cluster_at layout p)) (is_in (dropped_for (service past).request) (cluster_at layout p)) (cluster_at layout p) (states p) (old.fits p low));
        apart = subst (λ q. AreApart g.next q (dropped_for (service past).request)) (sym g.queue) (g.apart rest.queue (dropped_for (service past).request) old.apart);
        closed = λ a. old.closed (sym g.asking ∙ a);
        waits = λ a. absurd (within_resumable g.next g.within a);
        unstopped = old.unstopped;
        going = old.going ∙ within_going spot within ∙ sym (within_going g.next g.within);
        unbroken = g.unbroken;
        granted = done_granted (Run (record { 0 = 0 }) n, Answer.Exit Still) past refl;
      },
      λ h. absurd (h refl),
    )

    after_left : (exit : Exit) (next : Control) → LeavesFor (service past) spot rest exit next → RunsTo exit next
    after_left exit next l =
        let pair : Pair = (Run (record { 0 = 0 }) n, Answer.Exit exit) in
        let is = left_change n exit l.left in
        let s = left_service pair exit is in (
          l.next,
          l.after,
          record {
            control_is = l.control_is;
            inside_is = λ lp. let o = l.outside in rw o (left_inside pair exit is lp);
            stands = left_stands pair exit is;
            fits = λ p low. subst (λ z. MayBe l.next (is_in l.after.queue (cluster_at layout p)) (is_in (dropped_for z.request) (cluster_at layout p)) (cluster_at layout p) (states p)) (sym s) (l.fits (cluster_at layout p) (states p) (old.fits p low));
            apart = subst (λ z. AreApart l.next l.after.queue (dropped_for z.request)) (sym s) l.apart;
            waits = λ a. ap (λ c. entered_after c (entered_since_ask past)) is ∙ l.waits (entered_since_ask past) a;
            closed = λ a. ap (λ z. z.request) s ∙ l.closed a old.closed;
            unstopped = let o = old.unstopped in let u = l.unstopped in rw (is, u) o;
            going = left_ended pair exit is ∙ l.ends;
            unbroken = l.unbroken;
            granted = done_granted pair past refl;
          },
          λ h. l.outside,
        )

    -- such is each run
    pub runs : RunsTo (run layout past n control).exit (run layout past n control).control
    runs = by leads
      where
        by : RunLeads (service past) spot rest (run layout past n control) → RunsTo (run layout past n control).exit (run layout past n control).control
        by (inl s) = after_still (run layout past n control).exit (run layout past n control).control s.0 s.1
        by (inr l) = after_left (run layout past n control).exit (run layout past n control).control l
