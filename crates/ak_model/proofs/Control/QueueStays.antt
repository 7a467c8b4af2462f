-- While a processor stays inside, no cluster comes in or leaves, and one that is asked for stays so.
use Rattle.std.proofs.Common.{◌≡◌, ℕ, zero, suc, ◌+◌, ◌≤◌, List, [], ◌∷◌, ◌++◌, length, arith, refl, ap, ◌∙◌}
use Rattle.std.specs.Prelude.{Bool, true, false, if◌then◌else◌, Option, Some, None, is_some, nat_lt, ◌==◌}
use Rattle.std.proofs.lemmas.Bool.{eqb-false}
use Rattle.ak_core.specs.Layout.{Layout}
use Rattle.ak_core.specs.Mem.{Access}
use Rattle.ak_core.specs.declared.moves.Exit.{Exit}
use Rattle.ak_core.specs.declared.moves.Exit.TheVariants.{Still}
use Rattle.ak_core.specs.declared.event.Event.{Event}
use Rattle.ak_core.specs.declared.event.Event.TheVariants.{Call, Miss, Trap, Break}
use Rattle.ak_core.specs.declared.moves.Move.{Move}
use Rattle.ak_model.specs.Paging.Histories.{History, Exits, if_left}
use Rattle.ak_model.specs.Paging.Inside.{since, inside}
use Rattle.ak_model.specs.Control.ControlState.{Phase, New, Running, Calling, Asked, Ended, Trapped, Dead, Context, Program, Enter, Probe, Finish, Guard, Leave, Reason, Interrupted, Cleared, Raised, Denied, Missed, Broke, Faulted, Saved, Control, is_asked}
use Rattle.ak_model.specs.Control.RuntimeTurn.{accesses, first_fault, handle, enter, finish, resume_guard, effect, unless_fault}
use Rattle.ak_model.specs.Control.EventTurn.{due, event_turn}
use Rattle.ak_model.specs.Control.OneTurn.{Turn, Goes, Leaves}
use Rattle.ak_model.specs.Control.Runs.{turn_of, turn, Ran, go_on, run}
use Rattle.ak_model.specs.Control.Entering.{interrupted_by}
use Rattle.ak_model.specs.Control.Trace.{Moment, after_move}
use Rattle.ak_model.specs.Laws.Presence.{IsPresent}
use Rattle.ak_model.proofs.Paging.Tests.{either_way}
use Rattle.ak_model.proofs.Paging.Readings.{Reading, reading}
use Rattle.ak_model.proofs.Control.MovedTo.{each_move}

-- the same clusters are in, and one that is asked for stays so
pub record Kept (before next : Control) : Type 0 where
  pub queue : next.queue ≡ before.queue
  pub asked : (c : ℕ) → before.phase ≡ Asked c → next.phase ≡ Asked c

pub same : (control : Control) → Kept control control
same control = record { queue = refl; asked = λ c h. h }

pub then_kept : (first next last : Control) → Kept first next → Kept next last → Kept first last
then_kept first next last h k = record { queue = k.queue ∙ h.queue; asked = λ c e. k.asked c (h.asked c e) }

-- a turn that goes on keeps them, and one that leaves says so
abbrev pub TurnKeeps : Control → Turn → Type 0
TurnKeeps control (Goes next) = Kept control next
TurnKeeps control (Leaves exit next) = exit ≡ Still → ⊥

module _ (layout : Layout) where
  begins : (control : Control) (phase : Phase) (returned : List ℕ) → control.phase ≡ phase → is_asked phase ≡ false → Kept control (record control { phase = Running; now = Some Program; returned = returned })
  begins control phase returned e a = record { queue = refl; asked = λ c h. absurd (let x = ap is_asked h in let y = ap is_asked e in cc) }

  by_reason : (control : Control) (k : ℕ) (inner : Context) (reason : Reason) (older : List Saved) → TurnKeeps control (handle layout control k (record { context = inner; reason = reason } ∷ older))
  by_reason control k inner Interrupted older = λ x. cc
  by_reason control k inner Cleared older = λ x. cc
  by_reason control k inner (Faulted t) older = either_way (TurnKeeps control) (k == 2) _ _ (λ x. cc) (λ x. cc)
  by_reason control k inner (Raised v) older = λ x. cc
  by_reason control k inner Denied older = λ x. cc
  by_reason control k inner Broke older = λ x. cc
  by_reason control k inner (Missed c) older = λ x. cc

  handled : (control : Control) (k : ℕ) (stack : List Saved) → TurnKeeps control (handle layout control k stack)
  handled control k [] = λ x. cc
  handled control k (saved ∷ older) = by_reason control k saved.context saved.reason older

  enters : (control : Control) (k v : ℕ) (phase : Phase) → control.phase ≡ phase → TurnKeeps control (enter layout control k v phase)
  enters control k v (Ended s) e = λ x. cc
  enters control k v (Trapped y) e = λ x. cc
  enters control k v Dead e = λ x. cc
  enters control zero v Running e = handled control zero control.stack
  enters control (suc k) v Running e = handled control (suc k) control.stack
  enters control zero v New e = begins control New control.returned e refl
  enters control (suc k) v New e = handled control (suc k) control.stack
  enters control zero v Calling e = begins control Calling (control.returned ++ v ∷ []) e refl
  enters control (suc k) v Calling e = handled control (suc k) control.stack
  enters control zero v (Asked c) e = handled control zero control.stack
  enters control (suc zero) v (Asked c) e = record { queue = refl; asked = λ d h. h }
  enters control (suc (suc k)) v (Asked c) e = handled control (suc (suc k)) control.stack

  finishes : (control : Control) (phase : Phase) → TurnKeeps control (finish control phase)
  finishes control (Asked c) = λ x. cc
  finishes control New = λ x. cc
  finishes control Running = λ x. cc
  finishes control Calling = λ x. cc
  finishes control (Ended s) = λ x. cc
  finishes control (Trapped y) = λ x. cc
  finishes control Dead = λ x. cc

  guards_on : (control : Control) (phase : Phase) → TurnKeeps control (resume_guard control phase)
  guards_on control (Asked c) = λ x. cc
  guards_on control New = λ x. cc
  guards_on control Running = λ x. cc
  guards_on control Calling = λ x. cc
  guards_on control (Ended s) = λ x. cc
  guards_on control (Trapped y) = λ x. cc
  guards_on control Dead = λ x. cc

  effects : (control : Control) (context : Context) → TurnKeeps control (effect layout control context)
  effects control Program = same control
  effects control (Enter k v) = enters control k v control.phase refl
  effects control (Probe i) = record { queue = refl; asked = λ d h. h }
  effects control Finish = finishes control control.phase
  effects control Guard = guards_on control control.phase
  effects control (Leave zero a) = λ x. cc
  effects control (Leave (suc b) a) = λ x. cc

  steps : (control : Control) (context : Context) (o : Option Access) → TurnKeeps control (unless_fault layout control context o)
  steps control context None = effects control context
  steps control context (Some t) = λ x. cc

  events : (control : Control) (event : Option Event) → TurnKeeps control (event_turn layout control event)
  events control None = record { queue = refl; asked = λ d h. h }
  events control (Some (Call i b a)) = record { queue = refl; asked = λ d h. h }
  events control (Some (Miss i c)) = λ x. cc
  events control (Some (Break i)) = λ x. cc
  events control (Some (Trap i v)) = either_way (TurnKeeps control) (v == 14) _ _ (λ x. cc) (λ x. cc)

  pub turns : (past : History) (control : Control) (now : Option Context) → TurnKeeps control (turn_of layout past control now)
  turns past control None = same control
  turns past control (Some Program) = events control (due control.count control.rest)
  turns past control (Some (Enter k v)) = steps control (Enter k v) (first_fault layout past (accesses layout control (Enter k v)))
  turns past control (Some (Probe i)) = steps control (Probe i) (first_fault layout past (accesses layout control (Probe i)))
  turns past control (Some Finish) = steps control Finish (first_fault layout past (accesses layout control Finish))
  turns past control (Some Guard) = steps control Guard (first_fault layout past (accesses layout control Guard))
  turns past control (Some (Leave b a)) = steps control (Leave b a) (first_fault layout past (accesses layout control (Leave b a)))

  -- ---- A run

  go_kept : (past : History) (n : ℕ) (control : Control) (t : Turn) → TurnKeeps control t → ((next : Control) → (run layout past n next).exit ≡ Still → Kept next (run layout past n next).control) → (go_on t (run layout past n)).exit ≡ Still → Kept control (go_on t (run layout past n)).control
  go_kept past n control (Goes next) h later e = then_kept control next (run layout past n next).control h (later next e)
  go_kept past n control (Leaves exit next) h later e = absurd (h e)

  run_kept : (past : History) (n : ℕ) (control : Control) → (run layout past n control).exit ≡ Still → Kept control (run layout past n control).control
  run_kept past zero control e = same control
  run_kept past (suc n) control e = go_kept past n control (turn layout past control) (turns past control control.now) (run_kept past n) e

  -- ---- A move

  module _ (lp place : ℕ) (past : History) (before : place ≤ length past) where
    abbrev Stays : Reading → Control → Control → Type 0
    Stays change control next = change.since lp (length past + 1) (since past lp) ≡ Some place → (since past lp ≡ Some place) × Kept control next

    new_place : (b : Bool) → (if b then Some (length past + 1) else since past lp) ≡ Some place → since past lp ≡ Some place
    new_place true h = absurd (let e : length past + 1 ≡ place = cc in omega arith)
    new_place false h = h

    no_place : (b : Bool) → (if b then None else since past lp) ≡ Some place → (b ≡ false) × (since past lp ≡ Some place)
    no_place true h = absurd (cc)
    no_place false h = (refl, h)

    interrupted : (control : Control) (now : Option Context) → Kept control (interrupted_by control now)
    interrupted control None = same control
    interrupted control (Some context) = record { queue = refl; asked = λ c e. e }

    -- another processor isn't inside, so it can't leave
    left_stays : (control next : Control) (q : ℕ) (exit : Exit) → (inside past lp ≡ true → lp ≡ q) → Stays (reading (Exits q exit)) control next
    left_stays control next q exit alone h =
        let other = no_place (lp == q) h in
        absurd (eqb-false lp q other.0 (alone (ap is_some other.1)))

    ran_stays : (control : Control) (q : ℕ) (ran : Ran) (exit : Exit) → ran.exit ≡ exit → (ran.exit ≡ Still → Kept control ran.control) → (inside past lp ≡ true → lp ≡ q) → Stays (reading (if_left exit (Exits q exit))) control ran.control
    ran_stays control q ran Still e kept alone h = (h, kept e)
    ran_stays control q ran exit e kept alone h = left_stays control ran.control q exit alone h

  -- one more move, after which the processor is inside since this place
  pub step_stays : (moment : Moment) (m : Move) (lp place : ℕ) → ((q : ℕ) → inside moment.past q ≡ true → nat_lt q layout.lps ≡ true) → IsPresent layout moment → place ≤ length moment.past → since (after_move layout moment m).past lp ≡ Some place → (since moment.past lp ≡ Some place) × Kept moment.control (after_move layout moment m).control
  step_stays moment m lp place known at low =
      let past : History = moment.past in
      let control : Control = moment.control in
      each_move layout moment (λ e. Stays lp place past low e.change control e.next)
      (record {
        quiet = λ h. (h, same control);
        enters = λ q v there out few h. (new_place lp place past low (lp == q) h, record { queue = refl; asked = λ c e. e });
        resumes = λ q saved rest there out free e h. (new_place lp place past low (lp == q) h, record { queue = refl; asked = λ c x. x });
        interrupts = λ q d h. ((no_place lp place past low (lp == q) h).1, interrupted lp place past low control control.now);
        runs = λ q n d someone. ran_stays lp place past low control q (run layout past n control) (run layout past n control).exit refl (run_kept past n control) (λ i. at.alone lp q i d);
      })
      known m
