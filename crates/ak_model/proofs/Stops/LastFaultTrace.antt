-- After each move of a trace, what is known of the last page fault stands.
use Rattle.std.proofs.Common.{◌≡◌, inl, inr, ℕ, ◌+◌, ◌<◌, List, [], ◌∷◌, length, arith, refl, ap, sym, ◌∙◌, subst}
use Rattle.std.specs.Prelude.{Bool, true, false, ◌&&◌, ◌||◌, if◌then◌else◌, Option, Some, None, is_some, ◌==◌}
use Rattle.std.proofs.lemmas.Bool.{eq-eqb, ne_eqb, or_cases, or_left, or_right, false_from_ne_true}
use Rattle.ak_core.specs.Layout.{Layout, IsValid}
use Rattle.ak_core.specs.Mem.{Access}
use Rattle.ak_core.specs.declared.event.Event.{Event}
use Rattle.ak_core.specs.declared.moves.Exit.{Exit}
use Rattle.ak_core.specs.declared.moves.Exit.TheVariants.{Still, Pf, Ask}
use Rattle.ak_core.specs.declared.moves.Move.{Move}
use Rattle.ak_model.specs.Paging.Pages.{pages}
use Rattle.ak_model.specs.Paging.Histories.{Unchanged, Enters, Resumes, Exits, Interrupts, if_left}
use Rattle.ak_model.specs.Paging.Inside.{someone_inside}
use Rattle.ak_model.specs.Paging.Walk.{access_walkable}
use Rattle.ak_model.specs.Control.ControlState.{Context, Program, Enter, Probe, Finish, Guard, Leave, Reason, Interrupted, Cleared, Raised, Denied, Missed, Broke, Faulted, Saved, Control, cssa, is_asked}
use Rattle.ak_model.specs.Control.RuntimeTurn.{asked_pages, probed}
use Rattle.ak_model.specs.Control.Entering.{entered, resumed_by, interrupted_by}
use Rattle.ak_model.specs.Control.Trace.{Moment, trace}
use Rattle.ak_model.specs.Tapes.ProgramTurns.{program_turns}
use Rattle.ak_model.specs.Sound.Forced.{queue_by}
use Rattle.ak_model.specs.Laws.Premises.{MissesFit}
use Rattle.ak_model.specs.Kernels.Counted.{saved_count}
use Rattle.ak_model.specs.Stops.Blame.{is_fault, enters_at_one, returned_at, resumes}
use Rattle.ak_model.specs.Laws.ToldFault.{newest_refusal, is_guard}
use Rattle.ak_model.specs.Kernels.KernelRules.{entered_since_ask, is_finish_now, fetched_by}
use Rattle.ak_model.specs.Stops.MovesBefore.{changed, moves_before_fault}
use Rattle.ak_model.specs.Laws.ViolatedRule.{IsAskedFor}
use Rattle.ak_model.specs.Laws.Orderly.{ContextFits, FaultFits, StackFits, is_live, IsOrderly}
use Rattle.ak_model.proofs.Paging.Readings.{Reading, reading}
use Rattle.ak_model.proofs.Control.OrderlySteps.{some_asked}
use Rattle.ak_model.proofs.Control.OrderlyMoves.{not_refused}
use Rattle.ak_model.proofs.Control.OrderlyMoments.{trace_is_orderly}
use Rattle.ak_model.proofs.Control.OneInsideTrace.{counts_right}
use Rattle.ak_model.proofs.Control.RunEnds.{Since, probes_now}
use Rattle.ak_model.proofs.Stops.LeavingTurns.{stack_probes, has_probing, is_ask, StepFaults, Outcome, Same, Mild, Faults, Breaks}
use Rattle.ak_model.proofs.Control.MoveCases.{Finished, Holds}
use Rattle.ak_model.proofs.Stops.ToldFaultTrace.{passed}
use Rattle.ak_model.proofs.Stops.StoppingMove.{did_next}
use Rattle.ak_model.proofs.Stops.LastFault.{Unfetched, FaultAt, Kept, mild_at, deep, guard_alone, asked_for, not_fetched}

-- what came back stays, while no turn leaves
pub since_probing : (start control : Control) → Since start control → is_asked control.phase ≡ true → has_probing control ≡ true → (is_asked start.phase ≡ true) × (has_probing start ≡ true)
since_probing start control s a p = (
  ap is_asked (sym (s.asked a)) ∙ a,
  elim (or_cases (probes_now control.now) (stack_probes control.stack) p) [
    | inl now ↦ (let h = s.probing a now in rw h refl)
    | inr saved ↦ or_right (probes_now start.now) _ (subst (λ stack. stack_probes stack ≡ true) s.stack saved)
  ],
)

module _ (layout : Layout) (tape : List Event) (moves : List Move) (so_far : List ℕ) (comes early : Bool) where
  abbrev here : Moment
  here = trace layout tape moves

  -- what stands after a move that this is read of
  abbrev After : Reading → Control → Type 0
  After change next =
      Kept layout (trace layout tape (if change.faults then moves else moves_before_fault layout tape moves))
      (if change.at_one (saved_count here.past) then is_asked here.control.phase else comes)
      (if change.resumes then (cssa here.control == 1) && is_asked here.control.phase else early)
      (change.entered (entered_since_ask here.past))
      (if change.at_one (saved_count here.past) then length here.past + 1 else returned_at here.past) next

  abbrev Before : Type 0
  Before = Kept layout (trace layout tape (moves_before_fault layout tape moves)) comes early (entered_since_ask here.past) (returned_at here.past) here.control

  module _ (orderly : IsOrderly layout so_far (someone_inside layout here.past) here.control) (counts : saved_count here.past ≡ cssa here.control) (old : Before) where
    -- ---- Entering

    -- with two contexts saved, no entering comes back
    at_two : (t : Access) → newest_refusal here.control.stack ≡ Some (Faulted t) → t.page.0 < pages layout → (saved_count here.past == 1) ≡ false
    at_two t e low =
        let two = deep layout here.control.phase here.control.queue here.control.stack t orderly.stack e low in
        ne_eqb (saved_count here.past) 1 (λ one. omega arith)

    enters_at : (r : Option Reason) → newest_refusal here.control.stack ≡ r → FaultAt layout (trace layout tape (moves_before_fault layout tape moves)) (returned_at here.past) here.control.queue r → FaultAt layout (trace layout tape (moves_before_fault layout tape moves)) (if saved_count here.past == 1 then length here.past + 1 else returned_at here.past) here.control.queue r
    enters_at (Some (Faulted t)) e h =
        (h.0, λ low. subst (λ b. Unfetched layout (trace layout tape (moves_before_fault layout tape moves)) (if b then length here.past + 1 else returned_at here.past) t) (sym (at_two t e low)) (h.1 low))
    enters_at (Some Broke) e h = h
    enters_at None e h = tt
    enters_at (Some Interrupted) e h = tt
    enters_at (Some Cleared) e h = tt
    enters_at (Some (Raised v)) e h = tt
    enters_at (Some Denied) e h = tt
    enters_at (Some (Missed c)) e h = tt

    comes_by : (one : Bool) → (saved_count here.past == 1) ≡ one → is_asked here.control.phase ≡ true → ((cssa here.control == 1) || stack_probes here.control.stack) ≡ true → (if one then is_asked here.control.phase else comes) ≡ true
    comes_by true e a p = a
    comes_by false e a p =
        let other : (cssa here.control == 1) ≡ false = subst (λ n. (n == 1) ≡ false) counts e in
        let saved : stack_probes here.control.stack ≡ true = rw other at p in
        (old.probing a (or_right (probes_now here.control.now) _ saved)).0

    enter_after : (lp v : ℕ) → After (reading (Enters lp v)) (entered here.control v)
    enter_after lp v = record {
      at = λ live. enters_at (newest_refusal here.control.stack) refl (old.at live);
      probing = λ a p. (comes_by (saved_count here.past == 1) refl a p, refl);
      guard = λ a g. absurd (cc);
    }

    -- ---- Resuming

    resume_after : (lp : ℕ) (saved : Saved) (rest : List Saved) → is_some here.control.now ≡ false → here.control.pending ≡ false → here.control.stack ≡ saved ∷ rest → After (reading (Resumes lp)) (resumed_by here.control (saved ∷ rest))
    resume_after lp saved rest n p e = record {
      at = λ live.
          let whole : FaultAt layout (trace layout tape (moves_before_fault layout tape moves)) (returned_at here.past) here.control.queue (newest_refusal (saved ∷ rest)) = subst (λ s. FaultAt layout (trace layout tape (moves_before_fault layout tape moves)) (returned_at here.past) here.control.queue (newest_refusal s)) e (old.at live) in
          subst (FaultAt layout (trace layout tape (moves_before_fault layout tape moves)) (returned_at here.past) here.control.queue) (passed saved.reason (newest_refusal rest) (not_refused layout so_far (someone_inside layout here.past) here.control saved rest orderly e p n live)) whole;
      probing = λ a h. old.probing a (or_right (probes_now here.control.now) _ (subst (λ s. stack_probes s ≡ true) (sym e) h));
      guard = λ a g. lone a g;
    }
      where
        lone : is_asked here.control.phase ≡ true → is_guard (Some saved.context) ≡ true → ((cssa here.control == 1) && is_asked here.control.phase) ≡ true
        lone a g =
            let fits : StackFits layout here.control.phase here.control.queue (saved ∷ rest) = subst (StackFits layout here.control.phase here.control.queue) e orderly.stack in
            let none = guard_alone layout here.control.phase (length rest) saved.context fits.0.context g a in
            let one : cssa here.control ≡ 1 = let l = ap length e in omega arith in
            let test = eq-eqb (cssa here.control) 1 one in
            rw (test, a) refl

    -- ---- An interrupt, and a run that did not leave

    interrupt_by : (lp : ℕ) (now : Option Context) → here.control.now ≡ now → After (reading (Interrupts lp)) (interrupted_by here.control now)
    interrupt_by lp None e = old
    interrupt_by lp (Some context) e = record {
      at = old.at;
      probing = λ a p. old.probing a (subst (λ now. (probes_now now || stack_probes here.control.stack) ≡ true) (sym e) p);
      guard = λ a g. absurd (cc);
    }

    same_at : (next before : Control) → Since here.control before → newest_refusal next.stack ≡ newest_refusal before.stack → next.queue ≡ before.queue → is_live before.phase ≡ true → FaultAt layout (trace layout tape (moves_before_fault layout tape moves)) (returned_at here.past) next.queue (newest_refusal next.stack)
    same_at next before s r q l =
        subst (λ queue. FaultAt layout (trace layout tape (moves_before_fault layout tape moves)) (returned_at here.past) queue (newest_refusal next.stack)) (sym (q ∙ s.queue))
        (subst (FaultAt layout (trace layout tape (moves_before_fault layout tape moves)) (returned_at here.past) here.control.queue) (sym (r ∙ ap newest_refusal s.stack)) (old.at (s.live l)))

    went_after : (next : Control) → Since here.control next → After (reading Unchanged) next
    went_after next s = record {
      at = λ live. same_at next next s refl refl live;
      probing = λ a p. let start = since_probing here.control next s a p in old.probing start.0 start.1;
      guard = λ a g. old.guard (ap is_asked (sym (s.asked a)) ∙ a) (s.guard g);
    }

    -- ---- A run that left

    abbrev Ran : Exit → Control → Type 0
    Ran exit next =
        Kept layout (trace layout tape (if is_fault exit then moves else moves_before_fault layout tape moves)) comes early
        (if is_ask exit then false else entered_since_ask here.past) (returned_at here.past) next

    left_after : (lp : ℕ) (exit : Exit) (next : Control) → Ran exit next → After (reading (if_left exit (Exits lp exit))) next
    left_after lp Still next h = h
    left_after lp (Ask d c) next h = h
    left_after lp (Pf base code) next h = h
    left_after lp _ next h = h

    module _ (exit : Exit) (next : Control) (h : Finished layout here.past here.control exit next) where
      unfetched_by : (s : StepFaults layout here.past h.before next) (context : Context) → s.context ≡ context → ContextFits layout h.before.phase (length h.before.stack) context → FaultFits layout h.before.phase context s.access → s.access.page.0 < pages layout → Unfetched layout here (returned_at here.past) s.access
      unfetched_by s Program e c f low = absurd f
      unfetched_by s (Enter k v) e c f low = absurd (let high = f.0 in omega arith)
      unfetched_by s Finish e c f low = absurd (let high = f.0 in omega arith)
      unfetched_by s Guard e c f low = absurd (let high = f.0 in omega arith)
      unfetched_by s (Leave b a) e c f low = absurd (let high = f.0 in omega arith)
      unfetched_by s (Probe i) e c f low = elim f [ inl same ↦ of_probe same | inr own ↦ absurd (let high = own.0 in omega arith) ]
        where
          of_probe : s.access ≡ probed layout h.before.phase i → Unfetched layout here (returned_at here.past) s.access
          of_probe same =
              let small : i < length (asked_pages layout h.before.phase) = c.1 in
              let asked = some_asked layout h.before.phase i small in
              let phase = h.since.asked asked in
              let now : probes_now h.before.now ≡ true = ap probes_now (s.now ∙ ap Some e) in
              let start = since_probing here.control h.before h.since asked (or_left (probes_now h.before.now) _ now) in
              let known = old.probing start.0 start.1 in
              let not_now : is_finish_now h.before.now ≡ false = ap is_finish_now (s.now ∙ ap Some e) in
              let not_finish : is_finish_now here.control.now ≡ false = false_from_ne_true (is_finish_now here.control.now) (λ x. let y = h.since.finish x in cc) in
              let one : length here.control.stack ≡ 1 = sym (ap length h.since.stack) ∙ c.0 in
              let fits : StackFits layout h.before.phase h.before.queue here.control.stack = subst (StackFits layout h.before.phase h.before.queue) h.since.stack h.orderly.stack in
              let lost : access_walkable layout here.past (probed layout h.before.phase i) ≡ false = subst (λ t. access_walkable layout here.past t ≡ false) same s.lost in
              record {
                asked = subst (λ x. IsAskedFor layout x s.access) phase (subst (IsAskedFor layout h.before.phase) (sym same) (asked_for layout h.before.phase i small));
                broken = subst (λ x. fetched_by layout here x ≡ false) phase (not_fetched layout here h.before.queue h.before.phase i small known.1 not_finish one fits lost);
                probing = start.1;
                same = refl;
              }

      fault_at : is_fault exit ≡ true → StepFaults layout here.past h.before next → FaultAt layout here (returned_at here.past) next.queue (newest_refusal next.stack)
      fault_at f s =
          let refusal : newest_refusal next.stack ≡ Some (Faulted s.access) = ap newest_refusal s.stack in
          let all : StackFits layout next.phase next.queue (record { context = s.context; reason = Faulted s.access } ∷ h.before.stack) = subst (StackFits layout next.phase next.queue) s.stack h.fits.stack in
          let context = subst (λ phase. ContextFits layout phase (length h.before.stack) s.context) s.phase all.0.context in
          let reason = subst (λ phase. FaultFits layout phase s.context s.access) s.phase all.0.reason in
          subst (FaultAt layout here (returned_at here.past) next.queue) (sym refusal) (h.someone, λ low. unfetched_by s s.context refl context reason low)

      outcome_at : is_live next.phase ≡ true → Outcome layout here.past h.before exit next → FaultAt layout (trace layout tape (if is_fault exit then moves else moves_before_fault layout tape moves)) (returned_at here.past) next.queue (newest_refusal next.stack)
      outcome_at live (Same f r q l) = subst (λ b. FaultAt layout (trace layout tape (if b then moves else moves_before_fault layout tape moves)) (returned_at here.past) next.queue (newest_refusal next.stack)) (sym f) (same_at next h.before h.since r q l)
      outcome_at live (Mild m) = mild_at layout (trace layout tape (if is_fault exit then moves else moves_before_fault layout tape moves)) (returned_at here.past) next.queue (newest_refusal next.stack) m
      outcome_at live (Faults f s) = subst (λ b. FaultAt layout (trace layout tape (if b then moves else moves_before_fault layout tape moves)) (returned_at here.past) next.queue (newest_refusal next.stack)) (sym f) (fault_at f s)
      outcome_at live (Breaks f r q) =
          subst (λ b. FaultAt layout (trace layout tape (if b then moves else moves_before_fault layout tape moves)) (returned_at here.past) next.queue (newest_refusal next.stack)) (sym f)
          (subst (FaultAt layout here (returned_at here.past) next.queue) (sym r) (h.someone, sym (q ∙ h.since.queue)))

      saved_only : has_probing next ≡ true → stack_probes next.stack ≡ true
      saved_only p = subst (λ now. (probes_now now || stack_probes next.stack) ≡ true) h.left.out p

      finished_after : Ran exit next
      finished_after = record {
        at = λ live. outcome_at live (h.left.refusal live);
        probing = λ a p.
            let left = h.left.probing a (saved_only p) in
            let start = since_probing here.control h.before h.since (ap is_asked (sym left.0) ∙ a) left.1 in
            let known = old.probing start.0 start.1 in
            (known.0, subst (λ b. (if b then false else entered_since_ask here.past) ≡ true) (sym left.2) known.1);
        guard = λ a g. absurd (let x : is_guard next.now ≡ false = ap is_guard h.left.out in cc);
      }

    -- ---- Any move

    pub cases : Holds layout here.past here.control After
    cases = record {
      quiet = old;
      entered = λ lp v n. enter_after lp v;
      resumed = resume_after;
      interrupted = λ lp. interrupt_by lp here.control.now refl;
      went = went_after;
      exited = λ lp exit next h. left_after lp exit next (finished_after exit next h);
    }

-- ---- Whole traces

module _ (layout : Layout) (tape : List Event) where
  -- at the last entering at CSSA 1 a cluster was asked for
  abbrev pub came_back : List Move → Bool
  came_back [] = false
  came_back (m ∷ moves) =
      if enters_at_one (changed layout (trace layout tape moves) m) (saved_count (trace layout tape moves).past) then is_asked (trace layout tape moves).control.phase else came_back moves

  -- the last resuming was early
  abbrev pub was_early : List Move → Bool
  was_early [] = false
  was_early (m ∷ moves) =
      if resumes (changed layout (trace layout tape moves) m) then (cssa (trace layout tape moves).control == 1) && is_asked (trace layout tape moves).control.phase else was_early moves

  abbrev pub KeptAt : List Move → Type 0
  KeptAt moves =
      Kept layout (trace layout tape (moves_before_fault layout tape moves)) (came_back moves) (was_early moves)
      (entered_since_ask (trace layout tape moves).past) (returned_at (trace layout tape moves).past) (trace layout tape moves).control

  pub trace_kept : IsValid layout → MissesFit layout [] tape → (moves : List Move) → KeptAt moves
  trace_kept valid misses [] = record { at = λ live. tt; probing = λ a p. absurd (cc); guard = λ a g. absurd (cc) }
  trace_kept valid misses (m ∷ moves) =
      did_next layout valid tape misses m moves (After layout tape moves (queue_by layout (program_turns layout tape moves)) (came_back moves) (was_early moves))
      (cases layout tape moves (queue_by layout (program_turns layout tape moves)) (came_back moves) (was_early moves)
      (trace_is_orderly layout valid tape misses moves) (counts_right layout tape moves).saved_is (trace_kept valid misses moves))
