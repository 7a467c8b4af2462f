-- A turn of the program that completes a call keeps the relation.
use Rattle.std.proofs.Common.{◌≡◌, ℕ, zero, suc, ◌+◌, List, [], ◌∷◌, ◌++◌, length, refl, ap, sym, ◌∙◌, subst, arith}
use Rattle.std.specs.Prelude.{Bool, true, false, ◌||◌, not, option_map, option_and_then, Some, is_some, unwrap_or}
use Rattle.ak_core.specs.Layout.{Layout}
use Rattle.ak_model.specs.Paging.Histories.{History}
use Rattle.ak_model.specs.Paging.Inside.{since, someone_inside}
use Rattle.ak_model.specs.Flat.FlatRuns.{Flat, End, line, ending}
use Rattle.ak_model.specs.Sound.Events.{completed_by}
use Rattle.ak_model.specs.Paging.Handles.{live}
use Rattle.ak_model.specs.Control.ControlState.{Running, Program, Leave, Control}
use Rattle.ak_model.specs.Tapes.ProgramTurns.{ProgramTurn}
use Rattle.ak_model.specs.Laws.Orderly.{IsOrderly, is_live}
use Rattle.ak_model.specs.Sound.Forced.{queue_by}
use Rattle.ak_model.specs.Misses.Reached.{entered_at, accesses_at, accesses_next}
use Rattle.ak_model.specs.Misses.KeptTranslations.{is_among}
use Rattle.ak_core.specs.declared.event.Event.{Event}
use Rattle.ak_core.specs.declared.event.Event.TheVariants.{Call, Miss, Trap, Break}
use Rattle.ak_relation.specs.State.MachineState.{State}
use Rattle.ak_model.specs.Laws.OwedAnswers.{Settled, Owed, oldest, owing_running, owing_by, owing}
use Rattle.ak_relation.specs.Program.FlatPlaces.{Reaches}
use Rattle.ak_model.specs.Laws.Calls.{calls_by, IsReturned, IsAnswered}
use Rattle.ak_relation.specs.Program.Turns.{events_by, TapeStands, TurnStands, IsGoing, LawsStand, IsFresh, is_last, is_last_call}
use Rattle.ak_relation.specs.Program.Reaching.{IsStaying, AreReached, StaysBy}
use Rattle.ak_relation.specs.Relation.Stands.{runs_at, Stands}
use Rattle.ak_relation.specs.Premises.CallingOut.{CallsOut}
use Rattle.ak_relation.specs.Relation.Does.{at_moment}
use Rattle.ak_relation.proofs.Exits.Departing.{turn_with, not_ended}
use Rattle.ak_relation.proofs.Flat.FlatLaws.{EndFits, step_fits}
use Rattle.ak_relation.proofs.Exits.TapeGrows.{tape-call}
use Rattle.ak_relation.proofs.Program.WalkedFills.{fills_reached}
use Rattle.ak_relation.proofs.Program.Completing.{filled-completes}

-- the control state after it
abbrev pub called : Control → ℕ → ℕ → Control
called control b a = record control { count = control.count + 1; now = Some (Leave b a) }

-- a program that goes on does so after a call that does not end it
going_call : (count b a : ℕ) (events : List Event) → IsGoing count events → IsGoing (count + 1) (events ++ Call count (suc b) a ∷ [])
going_call count b a [] h = (omega arith, tt)
going_call count b a (Call i zero x ∷ events) h = absurd h
going_call count b a (Call i (suc n) x ∷ events) h = (let lt = h.0 in omega arith, going_call count b a events h.1)
going_call count b a (Miss i c ∷ events) h = (let le = h.0 in omega arith, going_call count b a events h.1)
going_call count b a (Trap i v ∷ events) h = absurd h
going_call count b a (Break i ∷ events) h = absurd h

-- the context is the program's last where its call's number is 0
going_after : (count b a : ℕ) (events : List Event) → IsGoing count events → is_last_call (Some (Leave b a)) ≡ false → IsGoing (count + 1) (events ++ Call count b a ∷ [])
going_after count zero a events h live = absurd (cc)
going_after count (suc b) a events h live = going_call count b a events h

module _ (layout : Layout) (image : List ℕ) (past : History) (control : Control) (turns : List ProgramTurn) (old new : State) (lp place : ℕ) (flat after : Flat) (b a : ℕ)
    (h : Stands layout image (at_moment past control turns old)) (is : since past lp ≡ Some place) (now : control.now ≡ Some Program)
    (running : control.phase ≡ Running) (nothing : control.stack ≡ []) (flat_is : h.bytes.flat ≡ flat) (at : Reaches layout image control.returned control.count flat)
    (c : CallsOut layout lp flat after b a old new) where
  -- the turns with this one
  abbrev more : List ProgramTurn
  more = turn_with lp past control (Call control.count b a) ∷ turns

  going : IsGoing control.count (events_by turns)
  going = h.laws.going (not_ended control now running nothing)

  -- what the call leaves in the flat state
  pub left : EndFits flat (End.Call b a after)
  left = subst (EndFits flat) c.ends (step_fits layout flat)

  entered : entered_at (turn_with lp past control (Call control.count b a)) ≡ place
  entered = ap (λ o. unwrap_or o (length past + 1)) is

  -- the accesses of the instruction
  pub line_is : accesses_at layout (runs_at layout image control) (turn_with lp past control (Call control.count b a)) ≡ (line layout flat).accesses
  line_is = ap (accesses_next layout) at

  -- the processor was inside
  pub stay : IsStaying layout (runs_at layout image control) past control turns lp (old.processors lp) place
  stay = subst (StaysBy layout (runs_at layout image control) past control turns lp (old.processors lp)) is (h.reached.stays lp)

  -- what is cached was reached
  pub fills : AreReached layout past place (new.processors lp).fills
  fills = subst (AreReached layout past place) (sym c.fills) (fills_reached layout past lp place is old h.tables c.walked (old.processors lp).fills c.found stay.fills)

  -- ---- Tape, turns and laws

  -- the tape with the call
  pub tape : TapeStands layout (runs_at layout image control) (control.count + 1) (events_by more)
  tape = tape-call layout (runs_at layout image control) control.count (events_by turns) (Call control.count b a) refl going tt tt h.tape b a refl
      (ap (λ r. option_and_then completed_by (option_map (λ run. ending layout run.flat) r)) at ∙ ap completed_by c.ends)

  or_true : (x y : Bool) → x ≡ true → (x || y) ≡ true
  or_true true y e = refl
  or_true false y e = absurd (cc)

  -- the turn stands
  pub turn_stands : TurnStands layout (runs_at layout image control) (turn_with lp past control (Call control.count b a)) turns
  turn_stands = record {
    comes = (record { flat = flat; answers = [] }, at);
    reached = filled-completes layout past place (runs_at layout image control) (turn_with lp past control (Call control.count b a)) (new.processors lp).fills refl entered fills
        (λ t among. c.filled t ∙ or_true _ _ (ap (λ ts. is_among ts t) (sym line_is) ∙ among));
    missed = tt;
    broken = tt;
  }

  orderly : IsOrderly layout (queue_by layout more) (someone_inside layout past) (called control b a)
  orderly = let o = h.laws.orderly in
      record {
        stack = o.stack;
        now = (ap length nothing, running);
        inside = λ e. o.inside (ap is_some now);
        phase = o.phase;
        queue = o.queue;
        served = o.served;
        tape = o.tape;
        pending_only = λ e. absurd (let out = (o.pending_only e).0 in let some : is_some control.now ≡ true = ap is_some now in cc);
        pending_if = λ n r l. absurd (cc);
        stuck = o.stuck;
      }

  -- an answer is owed
  pub owed : owing (called control b a) ≡ Owed
  owed = ap (λ p. owing_by p (oldest control.stack (Some (Leave b a)))) running ∙ ap (λ s. owing_by Running (oldest s (Some (Leave b a)))) nothing

  settled : owing control ≡ Settled
  settled = ap (λ p. owing_by p (oldest control.stack control.now)) running ∙ ap (λ s. owing_by Running (oldest s control.now)) nothing ∙ ap owing_running now

  answered : IsAnswered (calls_by more) (called control b a)
  answered =
      let all : calls_by turns ≡ length control.returned = subst (λ o. IsReturned o (calls_by turns) (length control.returned)) settled h.laws.answered.returned in
      let one : 1 + calls_by turns ≡ length control.returned + 1 = omega arith in
      record { returned = subst (λ o. IsReturned o (1 + calls_by turns) (length control.returned)) (sym owed) one }

  -- the laws of the control state
  pub laws : LawsStand layout past (called control b a) more
  laws = record {
    orderly = orderly;
    present = record { alone = h.laws.present.alone; context = λ p i. refl; someone = λ e. h.laws.present.someone (ap is_some now) };
    fresh = subst (λ p. IsFresh p (control.count + 1) control.returned more) (sym running) tt;
    taken = h.laws.taken;
    earlier = (ap is_some is, omega arith, h.laws.earlier);
    answered = answered;
    going = λ live. going_after control.count b a (events_by turns) going (last_here live);
  }
    where
      last_here : (not (is_live control.phase) || is_last control.stack (Some (Leave b a))) ≡ false → is_last_call (Some (Leave b a)) ≡ false
      last_here live =
          sym (ap (λ p. not (is_live p) || is_last control.stack (Some (Leave b a))) running ∙ ap (λ s. is_last s (Some (Leave b a))) nothing) ∙ live
