-- The honest kernel's move at each spot is done, and keeps the invariant.
use Rattle.std.proofs.Common.{◌≡◌, ℕ, zero, suc, ◌≤◌, arith, List, refl, sym, ◌∙◌, subst, ap, inl, inr}
use Rattle.std.specs.Prelude.{Bool, true, false, ◌&&◌, Some, find, ◌==◌}
use Rattle.std.proofs.lemmas.List.Elements.{All-nil}
use Rattle.std.specs.List.{range_with_len}
use Rattle.ak_core.specs.Layout.{Layout, IsValid}
use Rattle.ak_core.specs.declared.moves.Answer.{Answer}
use Rattle.ak_core.specs.declared.moves.Move.{Move}
use Rattle.ak_core.specs.declared.moves.Move.TheVariants.{Eenter, Eresume, Run}
use Rattle.ak_core.specs.declared.moves.Answer.TheVariants.{Ok}
use Rattle.ak_model.specs.Paging.Histories.{History, Exits, change, change_of}
use Rattle.ak_model.specs.Control.Answers.{answer}
use Rattle.ak_model.specs.Stops.Blame.{resumes as resumes_by}
use Rattle.ak_model.specs.Paging.Inside.{inside}
use Rattle.ak_model.specs.Control.ControlState.{Control, cssa, is_asked}
use Rattle.ak_model.specs.Kernels.Counted.{saved_count, is_pending, service, IsRequested, Counts}
use Rattle.ak_model.specs.Kernels.HonestKernel.{Gives, is_ended, next_value, serve, drive}
use Rattle.ak_model.specs.Laws.Orderly.{IsOrderly}
use Rattle.ak_model.specs.Control.Runs.{run}
use Rattle.ak_model.specs.Laws.OneLiveCopy.{OneCopy}
use Rattle.ak_driver.proofs.Invariant.PageStates.{PageState}
use Rattle.ak_driver.proofs.Invariant.Spots.{Fault, Spot, Idle, Entered, InProgram, Leaving, Left, Handling, Requested, Answering, Begins, Resumable, Over, Progress, control_at, is_within}
use Rattle.ak_driver.proofs.Invariant.HonestMoments.{IsHonest, HonestAt, dropped_for}
use Rattle.ak_driver.proofs.Invariant.ServingMoves.{Serves, HasRoom}
use Rattle.ak_driver.proofs.Serving.AnsweredRequest.{answers_request}
use Rattle.ak_driver.proofs.Driving.DrivenMove.{KeepsPace, Drives, patient_by, turns_none, saved, pending, none_inside, gives}
use Rattle.ak_driver.proofs.Turns.EnteringMoves.{enter_granted, resume_granted, enters, resumes, nobody}
use Rattle.ak_driver.proofs.Serving.ServingRules.{Does, serve_does}
use Rattle.ak_driver.proofs.Turns.RunMove.{run_answered, runs, within_going, left_change, never_resumes}
use Rattle.ak_driver.proofs.Turns.TurnMoments.{run_turns}

never : (a b : Bool) → (a && (b && false)) ≡ false
never true true = refl
never true false = refl
never false b = refl

pub first_found : (test : ℕ → Bool) (n : ℕ) → 1 ≤ n → test 0 ≡ true → find test (range_with_len 0 n) ≡ Some 0
first_found test zero l h = absurd (omega arith)
first_found test (suc n) l h = rw h refl

module _ (layout : Layout) (past : History) (control : Control) (rest : Progress) (states : ℕ → PageState) (inputs : List ℕ) (valid : IsValid layout) (copies : OneCopy layout past)
    (counts : Counts (saved_count past) (is_pending past) (service past) control) where
  pub idle_drives : (called : Bool) → IsHonest layout past control (Idle called) rest states → Drives layout past control (Idle called) states inputs
  idle_drives called old =
      let v = next_value past inputs in
      let e : is_ended past ≡ false = old.going in let n = none_inside layout past control (Idle called) rest states inputs valid copies counts old refl in
      let p : is_pending past ≡ false = pending layout past control (Idle called) rest states inputs valid copies counts old in
      let s : saved_count past ≡ 0 = saved layout past control (Idle called) rest states inputs valid copies counts old in
      record {
        move = Eenter (record { 0 = 0 }) v;
        driven = gives layout past control (Idle called) rest states inputs valid copies counts old _ (rw (e, n, p, s) refl);
        answer_is = Ok;
        answered = enter_granted layout past valid old.stands.untouched (nobody layout past control (Idle called) rest states old refl) control v 0 (ap cssa old.control_is) (omega arith);
        done = refl;
        next = Entered called v;
        after = rest;
        states = states;
        holds = enters layout past control (Idle called) rest states old refl (Entered called v) refl refl refl refl old.fits tt v refl;
        leaves = λ exit e n. absurd (cc);
        turns = All-nil (HonestAt layout);
        patient = patient_by layout past control (Eenter (record { 0 = 0 }) v) Ok (enter_granted layout past valid old.stands.untouched (nobody layout past control (Idle called) rest states old refl) control v 0 (ap cssa old.control_is) (omega arith)) refl;
        paced = tt;
      }

  pub left_drives : (fault : Fault) → IsHonest layout past control (Left fault) rest states → Drives layout past control (Left fault) states inputs
  left_drives fault old =
      let e : is_ended past ≡ false = old.going in let n = none_inside layout past control (Left fault) rest states inputs valid copies counts old refl in
      let p : is_pending past ≡ true = pending layout past control (Left fault) rest states inputs valid copies counts old in
      let s : saved_count past ≡ 1 = saved layout past control (Left fault) rest states inputs valid copies counts old in
      record {
        move = Eenter (record { 0 = 0 }) 0;
        driven = gives layout past control (Left fault) rest states inputs valid copies counts old _ (rw (e, n, p, s) refl);
        answer_is = Ok;
        answered = enter_granted layout past valid old.stands.untouched (nobody layout past control (Left fault) rest states old refl) control 0 1 (ap cssa old.control_is) (omega arith);
        done = refl;
        next = Handling fault 0;
        after = rest;
        states = states;
        holds = enters layout past control (Left fault) rest states old refl (Handling fault 0) refl refl refl refl old.fits tt 0 refl;
        leaves = λ exit e n. absurd (cc);
        turns = All-nil (HonestAt layout);
        patient = patient_by layout past control (Eenter (record { 0 = 0 }) 0) Ok (enter_granted layout past valid old.stands.untouched (nobody layout past control (Left fault) rest states old refl) control 0 1 (ap cssa old.control_is) (omega arith)) refl;
        paced = tt;
      }

  pub resumable_drives : IsHonest layout past control Resumable rest states → Drives layout past control Resumable states inputs
  resumable_drives old =
      let e : is_ended past ≡ false = old.going in let n = none_inside layout past control Resumable rest states inputs valid copies counts old refl in
      let p : is_pending past ≡ false = pending layout past control Resumable rest states inputs valid copies counts old in
      let s : saved_count past ≡ 1 = saved layout past control Resumable rest states inputs valid copies counts old in
      let r = old.closed refl in
      record {
        move = Eresume (record { 0 = 0 });
        driven = gives layout past control Resumable rest states inputs valid copies counts old _ (rw (e, n, p, s, r) refl);
        answer_is = Ok;
        answered = resume_granted layout past valid old.stands.untouched (nobody layout past control Resumable rest states old refl) control (ap cssa old.control_is) (ap (λ c. c.pending) old.control_is);
        done = refl;
        next = InProgram;
        after = rest;
        states = states;
        holds = resumes layout past control Resumable rest states old refl InProgram refl refl refl refl old.fits tt refl;
        leaves = λ exit e n. absurd (cc);
        turns = All-nil (HonestAt layout);
        patient = let a : is_asked control.phase ≡ false = ap (λ c. is_asked c.phase) old.control_is in rw a (never (resumes_by (change (Eresume (record { 0 = 0 })) (answer layout past control (Eresume (record { 0 = 0 }))))) (cssa control == 1));
        paced = tt;
      }

  pub inside_drives : (spot : Spot) → is_within spot ≡ true → (so_far : List ℕ) → IsOrderly layout so_far true control → IsHonest layout past control spot rest states → Drives layout past control spot states inputs
  inside_drives spot within so_far orderly old =
      let e : is_ended past ≡ false = old.going ∙ within_going spot within in
      let i : inside past 0 ≡ true = let h = old.inside_is 0 in let w = within in rw w at h in
      let f = first_found (inside past) layout.lps valid.some_lp i in
      let counted : (service past).queue ≡ rest.queue = counts.queue_is ∙ ap (λ c. c.queue) old.control_is ∙ queue_at spot in
      let r = runs layout past control spot rest states old within valid copies so_far orderly counted 1000 in
      record {
        move = Run (record { 0 = 0 }) 1000;
        driven = gives layout past control spot rest states inputs valid copies counts old _ (rw (e, f) refl);
        answer_is = Answer.Exit (run layout past 1000 control).exit;
        answered = run_answered layout past control spot rest states old within valid copies so_far orderly counted 1000;
        done = refl;
        next = r.0;
        after = r.1;
        states = states;
        holds = r.2;
        leaves = λ exit e n. (
          r.3 (λ s. n (let a : Answer.Exit (run layout past 1000 control).exit ≡ Answer.Exit exit = e in let b : (run layout past 1000 control).exit ≡ exit = cc in sym b ∙ s)),
          subst (λ a. change_of (Run (record { 0 = 0 }) 1000, a) ≡ Exits 0 exit) (sym e) (left_change 1000 exit n),
        );
        turns = run_turns layout past control spot rest states old within copies valid so_far orderly counted 1000;
        patient = patient_by layout past control (Run (record { 0 = 0 }) 1000) (Answer.Exit (run layout past 1000 control).exit) (run_answered layout past control spot rest states old within valid copies so_far orderly counted 1000) (never_resumes 1000 (run layout past 1000 control).exit);
        paced = unpaced spot within _ _ _ _;
      }
    where
      unpaced : (spot : Spot) → is_within spot ≡ true → (move : Move) (after : History) (next : ℕ → PageState) (to : Spot) → KeepsPace layout past states spot move after next to
      unpaced (Entered called v) w move after next to = tt
      unpaced InProgram w move after next to = tt
      unpaced (Leaving b a) w move after next to = tt
      unpaced (Handling fault v) w move after next to = tt
      unpaced (Answering c step) w move after next to = tt
      unpaced (Idle called) w move after next to = tt
      unpaced (Left fault) w move after next to = tt
      unpaced (Requested c) w move after next to = absurd (cc)
      unpaced Resumable w move after next to = tt
      unpaced (Over end stack) w move after next to = tt

      queue_at : (spot : Spot) → (control_at spot rest).queue ≡ rest.queue
      queue_at (Idle called) = refl
      queue_at (Entered called v) = refl
      queue_at InProgram = refl
      queue_at (Leaving b a) = refl
      queue_at (Left fault) = refl
      queue_at (Handling fault v) = refl
      queue_at (Requested c) = refl
      queue_at (Answering c step) = refl
      queue_at Resumable = refl
      queue_at (Over end stack) = refl

  pub requested_drives : (c : ℕ) → HasRoom layout past c states → IsHonest layout past control (Requested c) rest states → Drives layout past control (Requested c) states inputs
  requested_drives c room old = by (serve_does layout past control c rest states valid copies old room)
    where
      asked : IsRequested (control_at (Requested c) rest).phase (service past).request
      asked = subst (λ k. IsRequested k.phase (service past).request) old.control_is counts.requested

      request_is : (service past).request ≡ Some (record { dropped = dropped_for (service past).request; cluster = c })
      request_is = asked.1 ∙ ap (λ d. Some (record { dropped = d; cluster = c })) (sym (ap dropped_for asked.1))

      driven_by : (m : Move) → serve layout past (Some (record { dropped = dropped_for (service past).request; cluster = c })) ≡ Gives (Some m) → drive layout past inputs ≡ Some m
      driven_by m h =
          let e : is_ended past ≡ false = old.going in let n = none_inside layout past control (Requested c) rest states inputs valid copies counts old refl in
          let p : is_pending past ≡ false = pending layout past control (Requested c) rest states inputs valid copies counts old in
          let s : saved_count past ≡ 1 = saved layout past control (Requested c) rest states inputs valid copies counts old in
          let r : serve layout past (service past).request ≡ Gives (Some m) = ap (serve layout past) request_is ∙ h in
          gives layout past control (Requested c) rest states inputs valid copies counts old m (rw (e, n, p, s, r) refl)

      by : (x : (m : Move) × (serve layout past (Some (record { dropped = dropped_for (service past).request; cluster = c })) ≡ Gives (Some m)) × Does layout past control c rest states valid copies old room m) → Drives layout past control (Requested c) states inputs
      by (m, h, inl d) = table m h d
        where
          table : (m : Move) → serve layout past (Some (record { dropped = dropped_for (service past).request; cluster = c })) ≡ Gives (Some m) → Serves layout past control c rest states m → Drives layout past control (Requested c) states inputs
          table m h d = record {
            move = m;
            driven = driven_by m h;
            answer_is = d.answer_is;
            answered = d.answered;
            done = d.done;
            next = Requested c;
            after = rest;
            states = d.states;
            holds = d.holds;
            leaves = λ exit e n. absurd (d.not_exit exit e);
            turns = turns_none layout past control m d.not_run;
            patient = patient_by layout past control m d.answer_is d.answered d.not_resumed;
            paced = (d.not_run, (refl, d.same_service, d.fewer));
          }
      by (m, h, inr n) = record {
        move = Eenter (record { 0 = 0 }) 0;
        driven = subst (λ x. drive layout past inputs ≡ Some x) n.enter (driven_by m h);
        answer_is = Ok;
        answered = enter_granted layout past valid old.stands.untouched (nobody layout past control (Requested c) rest states old refl) control 0 1 (ap cssa old.control_is) (omega arith);
        done = refl;
        next = Answering c (Begins 0);
        after = rest;
        states = states;
        holds = answers_request layout past control c rest states copies old n.evicted_out n.fetched_in;
        leaves = λ exit e n. absurd (cc);
        turns = All-nil (HonestAt layout);
        patient = patient_by layout past control (Eenter (record { 0 = 0 }) 0) Ok (enter_granted layout past valid old.stands.untouched (nobody layout past control (Requested c) rest states old refl) control 0 1 (ap cssa old.control_is) (omega arith)) refl;
        paced = (refl, refl);
      }
