-- Each moment of an honest run keeps the invariant, each of its moves is done, and it ends only where it is over.
use Rattle.std.proofs.Common.{◌≡◌, ℕ, List, [], ◌∷◌, ◌++◌, refl, sym, ◌∙◌, subst, ap}
use Rattle.std.specs.Prelude.{All, Bool, true, false, not, Some, None, is_some}
use Rattle.std.specs.List.{list_all}
use Rattle.std.proofs.lemmas.Bool.{and_from}
use Rattle.std.proofs.lemmas.List.Elements.{All-nil, All-cons, All-append}
use Rattle.ak_core.specs.Layout.{Layout, IsValid}
use Rattle.ak_core.specs.declared.event.Event.{Event}
use Rattle.ak_core.specs.declared.moves.Move.{Move}
use Rattle.ak_model.specs.Kernels.Counted.{CountsRight}
use Rattle.ak_model.specs.Paging.Inside.{someone_inside}
use Rattle.ak_model.specs.Kernels.Repeats.{is_done}
use Rattle.ak_model.specs.Kernels.HonestKernel.{is_ended, drive, IsDriven}
use Rattle.ak_model.specs.Laws.Orderly.{IsOrderly}
use Rattle.ak_model.specs.Laws.Premises.{MissesFit}
use Rattle.ak_model.specs.Stops.ShownStop.{has_break, shows_stop}
use Rattle.ak_model.specs.Control.Trace.{trace}
use Rattle.ak_model.specs.Control.Moments.{turn_moments, moments}
use Rattle.ak_model.specs.Kernels.KernelRules.{resumes_early, never_resumes_early}
use Rattle.ak_model.specs.Tapes.ProgramTurns.{program_turns}
use Rattle.ak_model.specs.Sound.Forced.{queue_by}
use Rattle.ak_model.proofs.Paging.OneCopy.{one_copy}
use Rattle.ak_model.proofs.Control.OneInsideTrace.{counts_right}
use Rattle.ak_model.proofs.Control.OrderlyMoments.{trace_is_orderly}
use Rattle.ak_driver.specs.HonestRuns.{IsRoomy}
use Rattle.ak_driver.specs.Requests.{answer_after}
use Rattle.ak_driver.proofs.Invariant.PageStates.{PageState}
use Rattle.ak_driver.proofs.Invariant.Spots.{Spot, Idle, Entered, InProgram, Leaving, Left, Handling, Requested, Answering, Resumable, Over, Progress, control_at, is_within}
use Rattle.ak_driver.proofs.Invariant.HonestMoments.{IsHonest, HonestMoment, HonestAt, is_over_at}
use Rattle.ak_driver.proofs.Invariant.ServingMoves.{HasRoom}
use Rattle.ak_driver.proofs.Driving.DrivenMove.{Drives, Made, made_by}
use Rattle.ak_driver.proofs.Driving.KernelSteps.{idle_drives, left_drives, resumable_drives, inside_drives, requested_drives}
use Rattle.ak_driver.proofs.Serving.RoomForPages.{asked_fits, has_room}
use Rattle.ak_driver.proofs.Driving.Start.{starts}

module _ (layout : Layout) (valid : IsValid layout) (roomy : IsRoomy layout) (tape : List Event) (misses : MissesFit layout [] tape) (whole : has_break tape ≡ false) (inputs : List ℕ) where
  counted : (moves : List Move) → CountsRight (trace layout tape moves)
  counted moves = counts_right layout tape moves

  -- somebody is inside at a spot inside
  pub someone_there : (moves : List Move) (b : Bool) → IsOrderly layout (queue_by layout (program_turns layout tape moves)) b (trace layout tape moves).control → is_some (trace layout tape moves).control.now ≡ true
      → IsOrderly layout (queue_by layout (program_turns layout tape moves)) true (trace layout tape moves).control
  someone_there moves true o h = o
  someone_there moves false o h = absurd (let a = o.inside h in cc)

  -- the kernel's next move, unless the run is over
  pub next_move : (moves : List Move) → (spot : Spot) (rest : Progress) (states : ℕ → PageState)
      → IsHonest layout (trace layout tape moves).past (trace layout tape moves).control spot rest states → is_over_at spot ≡ false
      → Drives layout (trace layout tape moves).past (trace layout tape moves).control spot states inputs
  next_move moves spot rest states old going = by spot going old
    where
      now_within : (spot : Spot) → is_within spot ≡ true → is_some (control_at spot rest).now ≡ true
      now_within (Entered called v) w = refl
      now_within InProgram w = refl
      now_within (Leaving b a) w = refl
      now_within (Handling fault v) w = refl
      now_within (Answering c step) w = refl
      now_within (Idle called) w = absurd (cc)
      now_within (Left fault) w = absurd (cc)
      now_within (Requested c) w = absurd (cc)
      now_within Resumable w = absurd (cc)
      now_within (Over end stack) w = absurd (cc)

      inside_by : (spot : Spot) → is_within spot ≡ true → IsHonest layout (trace layout tape moves).past (trace layout tape moves).control spot rest states → Drives layout (trace layout tape moves).past (trace layout tape moves).control spot states inputs
      inside_by spot w old =
          let o = someone_there moves (someone_inside layout (trace layout tape moves).past) (trace_is_orderly layout valid tape misses moves) (ap (λ c. is_some c.now) old.control_is ∙ now_within spot w) in
          inside_drives layout (trace layout tape moves).past (trace layout tape moves).control rest states inputs valid (one_copy layout tape moves) (counted moves) spot w (queue_by layout (program_turns layout tape moves)) o old

      room_at : (c : ℕ) (old : IsHonest layout (trace layout tape moves).past (trace layout tape moves).control (Requested c) rest states) → HasRoom layout (trace layout tape moves).past c states
      room_at c old =
          has_room layout (trace layout tape moves).past (trace layout tape moves).control c rest states valid roomy (one_copy layout tape moves) old
          (asked_fits layout (trace layout tape moves).past (trace layout tape moves).control c rest states old (queue_by layout (program_turns layout tape moves)) (someone_inside layout (trace layout tape moves).past) (trace_is_orderly layout valid tape misses moves))

      by : (spot : Spot) → is_over_at spot ≡ false → IsHonest layout (trace layout tape moves).past (trace layout tape moves).control spot rest states → Drives layout (trace layout tape moves).past (trace layout tape moves).control spot states inputs
      by (Idle called) g old = idle_drives layout (trace layout tape moves).past (trace layout tape moves).control rest states inputs valid (one_copy layout tape moves) (counted moves) called old
      by (Left fault) g old = left_drives layout (trace layout tape moves).past (trace layout tape moves).control rest states inputs valid (one_copy layout tape moves) (counted moves) fault old
      by (Requested c) g old = requested_drives layout (trace layout tape moves).past (trace layout tape moves).control rest states inputs valid (one_copy layout tape moves) (counted moves) c (room_at c old) old
      by Resumable g old = resumable_drives layout (trace layout tape moves).past (trace layout tape moves).control rest states inputs valid (one_copy layout tape moves) (counted moves) old
      by (Entered called v) g old = inside_by (Entered called v) refl old
      by InProgram g old = inside_by InProgram refl old
      by (Leaving b a) g old = inside_by (Leaving b a) refl old
      by (Handling fault v) g old = inside_by (Handling fault v) refl old
      by (Answering c step) g old = inside_by (Answering c step) refl old
      by (Over end stack) g old = absurd (cc)

  -- nothing comes after the end
  over_stops : (moves : List Move) (spot : Spot) (rest : Progress) (states : ℕ → PageState)
      → IsHonest layout (trace layout tape moves).past (trace layout tape moves).control spot rest states → is_over_at spot ≡ true
      → drive layout (trace layout tape moves).past inputs ≡ None
  over_stops moves spot rest states old over =
      let e : is_ended (trace layout tape moves).past ≡ true = old.going ∙ over in rw e refl

  -- what the kernel's next move comes to
  pub makes : (moves : List Move) (spot : Spot) (rest : Progress) (states : ℕ → PageState) → IsHonest layout (trace layout tape moves).past (trace layout tape moves).control spot rest states → is_over_at spot ≡ false
      → (m : Move) → drive layout (trace layout tape moves).past inputs ≡ Some m → Made layout (trace layout tape moves) spot states m (answer_after layout tape moves m)
  makes moves spot rest states old going m e =
      let d = next_move moves spot rest states old going in
      let same : d.move ≡ m = let a = d.driven in let b : Some d.move ≡ Some m = sym a ∙ e in cc in
      subst (λ x. Made layout (trace layout tape moves) spot states x (answer_after layout tape moves x)) same
      (subst (λ a. Made layout (trace layout tape moves) spot states d.move a) (sym d.answered) (made_by layout (trace layout tape moves) spot states inputs d))

  -- the same, at a moment of which it is not known whether the run is over
  next_by : (moves : List Move) → (now : HonestMoment layout (trace layout tape moves)) → (b : Bool) → is_over_at now.spot ≡ b
      → (m : Move) → drive layout (trace layout tape moves).past inputs ≡ Some m → Made layout (trace layout tape moves) now.spot now.states m (answer_after layout tape moves m)
  next_by moves now true over m e = absurd (let a = over_stops moves now.spot now.rest now.states now.holds over in let b : None ≡ Some m = sym a ∙ e in cc)
  next_by moves now false going m e = makes moves now.spot now.rest now.states now.holds going m e

  pub made : (moves : List Move) → (now : HonestMoment layout (trace layout tape moves)) → (m : Move) → drive layout (trace layout tape moves).past inputs ≡ Some m
      → Made layout (trace layout tape moves) now.spot now.states m (answer_after layout tape moves m)
  made moves now m e = next_by moves now (is_over_at now.spot) refl m e

  -- the invariant holds after each list of the kernel's moves
  pub all_honest : (moves : List Move) → IsDriven layout tape inputs moves → HonestMoment layout (trace layout tape moves)
  all_honest [] driven = starts layout tape whole
  all_honest (m ∷ moves) driven =
      let now = made moves (all_honest moves driven.1) m driven.0 in
      record { spot = now.next; rest = now.after; states = now.states; holds = now.holds }

  -- and before each of their turns
  pub all_moments : (moves : List Move) → IsDriven layout tape inputs moves → All (HonestAt layout) (moments layout tape moves)
  all_moments [] driven = All-cons (HonestAt layout) (trace layout tape []) [] (all_honest [] driven, one_copy layout tape []) (All-nil (HonestAt layout))
  all_moments (m ∷ moves) driven =
      let now = made moves (all_honest moves driven.1) m driven.0 in
      All-cons (HonestAt layout) (trace layout tape (m ∷ moves)) (turn_moments layout (trace layout tape moves) m ++ moments layout tape moves) (all_honest (m ∷ moves) driven, one_copy layout tape (m ∷ moves))
      (All-append (HonestAt layout) (turn_moments layout (trace layout tape moves) m) (moments layout tape moves) now.turns (all_moments moves driven.1))

  -- each of them is done
  pub all_done : (moves : List Move) → IsDriven layout tape inputs moves → list_all (λ pair. is_done pair.1) (trace layout tape moves).past ≡ true
  all_done [] driven = refl
  all_done (m ∷ moves) driven =
      let now = made moves (all_honest moves driven.1) m driven.0 in
      let d = now.done in let more = all_done moves driven.1 in
      and_from (is_done (answer_after layout tape moves m)) (list_all (λ pair. is_done pair.1) (trace layout tape moves).past) d more

  -- and none resumes what waits for a fetch
  pub all_patient : (moves : List Move) → IsDriven layout tape inputs moves → never_resumes_early layout tape moves ≡ true
  all_patient [] driven = refl
  all_patient (m ∷ moves) driven =
      let now = made moves (all_honest moves driven.1) m driven.0 in
      let p = now.patient in let more = all_patient moves driven.1 in
      and_from (not (resumes_early layout (trace layout tape moves) m)) (never_resumes_early layout tape moves) (ap not p) more

  -- the kernel has no move only where the run is over
  pub ends_over : (moves : List Move) → IsDriven layout tape inputs moves → drive layout (trace layout tape moves).past inputs ≡ None → is_ended (trace layout tape moves).past ≡ true
  ends_over moves driven e = by (all_honest moves driven)
    where
      by : (now : HonestMoment layout (trace layout tape moves)) → is_ended (trace layout tape moves).past ≡ true
      by now = over (is_over_at now.spot) refl
        where
          over : (b : Bool) → is_over_at now.spot ≡ b → is_ended (trace layout tape moves).past ≡ true
          over true h = now.holds.going ∙ h
          over false h = absurd (let d = next_move moves now.spot now.rest now.states now.holds h in let a = d.driven in let b : None ≡ Some d.move = sym e ∙ a in cc)

  -- and no run shows a stop: it ended, or the program was trapped
  pub never_stops : (moves : List Move) → IsDriven layout tape inputs moves → shows_stop (trace layout tape moves).past ≡ false
  never_stops moves driven = (all_honest moves driven).holds.unstopped
