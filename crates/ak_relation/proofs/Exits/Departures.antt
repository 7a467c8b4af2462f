-- When the program may be left: by a break, a miss, a vector or a denied access.
use Rattle.std.proofs.Common.{◌≡◌, ◌≢◌, ℕ, zero, suc, List, [], ◌∷◌, ◌++◌, refl, ap, sym, ◌∙◌, subst, arith}
use Rattle.std.specs.Prelude.{true, false, option_map, option_and_then, Option, Some, None}
use Rattle.ak_core.specs.Layout.{Layout, IsValid}
use Rattle.ak_core.specs.Mem.{Access}
use Rattle.ak_core.specs.declared.event.Event.{Event}
use Rattle.ak_core.specs.declared.event.Event.TheVariants.{Call, Miss, Trap, Break}
use Rattle.ak_model.specs.Paging.Pages.{cluster_at}
use Rattle.ak_model.specs.Clusters.Queue.{after_miss, is_in}
use Rattle.ak_model.specs.Paging.Histories.{History}
use Rattle.ak_model.specs.Flat.FlatRuns.{Flat, End, ending, is_forbidden}
use Rattle.ak_model.specs.Tapes.LastMoment.{FlatRuns}
use Rattle.ak_model.specs.Sound.Events.{vector_by}
use Rattle.ak_model.specs.Control.ControlState.{Running, Program, Raised, Denied, Missed, Broke, Control}
use Rattle.ak_model.specs.Laws.Orderly.{ServedBy}
use Rattle.ak_model.specs.Tapes.ProgramTurns.{ProgramTurn}
use Rattle.ak_model.specs.Misses.Reached.{MayComplete}
use Rattle.ak_model.specs.Sound.Forced.{missed_by, queue_by}
use Rattle.ak_model.specs.Misses.KeptTranslations.{MayFaultUnkept}
use Rattle.ak_model.proofs.Tapes.EventsTaken.{cluster_below, without_miss, with_miss}
use Rattle.ak_ssa.specs.SavedFrames.{ByVector, ByPage}
use Rattle.ak_relation.specs.State.MachineState.{State}
use Rattle.ak_relation.specs.Program.FlatPlaces.{Reaches}
use Rattle.ak_relation.specs.Program.Turns.{listed, events_by, IsGoing}
use Rattle.ak_relation.specs.Relation.Stands.{runs_at, Stands}
use Rattle.ak_relation.specs.Relation.Does.{at_moment}
use Rattle.ak_relation.proofs.Exits.TapeGrows.{queue_past}
use Rattle.ak_relation.proofs.Exits.Departing.{turn_with, MayDepart, not_ended}

-- ---- The queue by turns and by their events

module _ (layout : Layout) (valid : IsValid layout) (runs : FlatRuns) where
  past_more : (queue : List ℕ) (xs ys : List Event) → queue_past layout queue (xs ++ ys) ≡ queue_past layout (queue_past layout queue xs) ys
  past_more queue [] ys = refl
  past_more queue (Miss i c ∷ xs) ys = past_more (after_miss layout queue c) xs ys
  past_more queue (Call i b a ∷ xs) ys = past_more queue xs ys
  past_more queue (Trap i v ∷ xs) ys = past_more queue xs ys
  past_more queue (Break i ∷ xs) ys = past_more queue xs ys

  by_event : (turn : ProgramTurn) (older : List ProgramTurn) (o : Option Event) → turn.event ≡ o → queue_past layout (queue_by layout older) (listed o) ≡ queue_by layout (turn ∷ older)
  by_event turn older None e = sym (without_miss layout valid runs turn older (ap missed_by e))
  by_event turn older (Some (Call i b a)) e = sym (without_miss layout valid runs turn older (ap missed_by e))
  by_event turn older (Some (Trap i v)) e = sym (without_miss layout valid runs turn older (ap missed_by e))
  by_event turn older (Some (Break i)) e = sym (without_miss layout valid runs turn older (ap missed_by e))
  by_event turn older (Some (Miss i c)) e = sym (with_miss layout valid runs turn older c (ap missed_by e))

  -- the queue past the events of turns is the queue by the turns
  pub past_turns : (turns : List ProgramTurn) → queue_past layout [] (events_by turns) ≡ queue_by layout turns
  past_turns [] = refl
  past_turns (turn ∷ older) =
      past_more [] (events_by older) (listed turn.event)
      ∙ ap (λ queue. queue_past layout queue (listed turn.event)) (past_turns older) ∙ by_event turn older turn.event refl

-- a program that goes on does so after a miss
going_miss : (count c : ℕ) (events : List Event) → IsGoing count events → IsGoing count (events ++ Miss count c ∷ [])
going_miss count c [] h = (omega arith, tt)
going_miss count c (Call i zero a ∷ events) h = absurd h
going_miss count c (Call i (suc b) a ∷ events) h = (h.0, going_miss count c events h.1)
going_miss count c (Miss i d ∷ events) h = (h.0, going_miss count c events h.1)
going_miss count c (Trap i v ∷ events) h = absurd h
going_miss count c (Break i ∷ events) h = absurd h

module _ (layout : Layout) (valid : IsValid layout) (image : List ℕ) (past : History) (control : Control) (turns : List ProgramTurn) (old : State) (lp : ℕ) (flat : Flat)
    (h : Stands layout image (at_moment past control turns old)) (now : control.now ≡ Some Program) (running : control.phase ≡ Running) (nothing : control.stack ≡ [])
    (at : Reaches layout image control.returned control.count flat) where
  -- the flat run so far
  abbrev runs : FlatRuns
  runs = runs_at layout image control

  -- the misses so far are served
  pub queue_is : control.queue ≡ queue_by layout turns
  queue_is =
      subst (λ stack. ServedBy layout (queue_by layout turns) Running control.queue stack) nothing
      (subst (λ p. ServedBy layout (queue_by layout turns) p control.queue control.stack) running h.laws.orderly.served)

  -- ---- Faults

  module _ (access : Access) where
    -- a break: the access's cluster is in
    pub break_may : MayFaultUnkept layout runs (turn_with lp past control (Break control.count)) turns access → is_in control.queue (cluster_at layout access.page.0) ≡ true →
        MayDepart layout runs lp past control turns (Break control.count) Broke (ByPage access)
    break_may faults there = record {
      at = refl;
      no_call = refl;
      refuses = refl;
      miss = let permitted = faults.may_fault.permitted in rw (permitted, there) refl;
      fits = refl;
      noted = record { access = access; noted = refl; gives = let permitted = faults.may_fault.permitted in rw (permitted, there) refl };
      turn_stands = record {
        comes = (record { flat = flat; answers = [] }, at);
        reached = tt;
        missed = tt;
        broken = record { access = access; faults = record { unkept = faults; named = tt }; inside = in_queue };
      };
      missed = tt;
      forced = tt;
      served = queue_is;
      going = λ e. absurd (cc);
      evidence = λ regs bytes stored. record {
        frame = record { regs = regs; cause = ByPage access };
        stored = stored;
        access = access;
        noted = refl;
        forced = record { newer = []; turn = turn_with lp past control (Break control.count); older = turns; among = refl; broke = refl; faults = faults; inside = in_queue };
      };
    }
      where
        in_queue : is_in (queue_by layout turns) (cluster_at layout access.page.0) ≡ true
        in_queue = subst (λ queue. is_in queue (cluster_at layout access.page.0) ≡ true) queue_is there

    -- a miss: the access's cluster is out
    pub miss_may : MayFaultUnkept layout runs (turn_with lp past control (Miss control.count (cluster_at layout access.page.0))) turns access →
        is_in control.queue (cluster_at layout access.page.0) ≡ false →
        MayDepart layout runs lp past control turns (Miss control.count (cluster_at layout access.page.0)) (Missed (cluster_at layout access.page.0)) (ByPage access)
    miss_may faults gone = record {
      at = refl;
      no_call = refl;
      refuses = refl;
      miss = let permitted = faults.may_fault.permitted in rw (permitted, gone) refl;
      fits = (refl, cluster_below layout valid access.page.0, gone);
      noted = record { access = access; noted = refl; gives = let permitted = faults.may_fault.permitted in rw (permitted, gone) refl };
      turn_stands = record {
        comes = (record { flat = flat; answers = [] }, at);
        reached = tt;
        missed = record { access = access; faults = faults; cluster = refl; out = out };
        broken = tt;
      };
      missed = (cluster_below layout valid access.page.0, ap (λ queue. is_in queue (cluster_at layout access.page.0)) (past_turns layout valid runs turns) ∙ out, tt);
      forced = tt;
      served = ap (λ queue. after_miss layout queue (cluster_at layout access.page.0)) queue_is
          ∙ sym (with_miss layout valid runs (turn_with lp past control (Miss control.count (cluster_at layout access.page.0))) turns (cluster_at layout access.page.0) refl);
      going = λ e. going_miss control.count (cluster_at layout access.page.0) (events_by turns) (h.laws.going (not_ended control now running nothing));
      evidence = λ regs bytes stored. tt;
    }
      where
        out : is_in (queue_by layout turns) (cluster_at layout access.page.0) ≡ false
        out = subst (λ queue. is_in queue (cluster_at layout access.page.0) ≡ false) queue_is gone

    -- an access that the page's permission denies
    pub denied_may : ending layout flat ≡ End.Vector 14 → is_forbidden layout access ≡ true → MayComplete layout runs (turn_with lp past control (Trap control.count 14)) →
        MayDepart layout runs lp past control turns (Trap control.count 14) Denied (ByPage access)
    denied_may ends forbidden reached = record {
      at = refl;
      no_call = refl;
      refuses = refl;
      miss = rw forbidden refl;
      fits = refl;
      noted = record { access = access; noted = refl; gives = rw forbidden refl };
      turn_stands = record { comes = (record { flat = flat; answers = [] }, at); reached = reached; missed = tt; broken = tt };
      missed = tt;
      forced = ap (λ r. option_and_then vector_by (option_map (λ run. ending layout run.flat) r)) at ∙ ap vector_by ends;
      served = queue_is;
      going = λ e. absurd (cc);
      evidence = λ regs bytes stored. tt;
    }

  -- ---- Vectors

  -- another vector
  pub vector_may : (v : ℕ) → ending layout flat ≡ End.Vector v → v ≢ 14 → MayComplete layout runs (turn_with lp past control (Trap control.count v)) →
      MayDepart layout runs lp past control turns (Trap control.count v) (Raised v) (ByVector v)
  vector_may v ends other reached = record {
    at = refl;
    no_call = refl;
    refuses = refl;
    miss = refl;
    fits = refl;
    noted = (refl, other);
    turn_stands = record { comes = (record { flat = flat; answers = [] }, at); reached = reached; missed = tt; broken = tt };
    missed = tt;
    forced = ap (λ r. option_and_then vector_by (option_map (λ run. ending layout run.flat) r)) at ∙ ap vector_by ends;
    served = queue_is;
    going = λ e. absurd (cc);
    evidence = λ regs bytes stored. tt;
  }
