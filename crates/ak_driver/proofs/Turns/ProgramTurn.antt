-- A turn of the program in an honest run.
use Rattle.std.proofs.Common.{◌≡◌, ℕ, ◌+◌, List, [], ◌∷◌, refl}
use Rattle.std.specs.Prelude.{Bool, true, false, if◌then◌else◌, Some, None, ◌==◌}
use Rattle.std.specs.Bool.{then_some}
use Rattle.ak_core.specs.Layout.{Layout}
use Rattle.ak_core.specs.declared.moves.Exit.{Exit}
use Rattle.ak_core.specs.declared.event.Event.{Event}
use Rattle.ak_core.specs.declared.event.Event.TheVariants.{Call, Miss, Trap, Break}
use Rattle.ak_model.specs.Paging.Histories.{History}
use Rattle.ak_model.specs.Kernels.Counted.{Service as Counted}
use Rattle.ak_model.specs.Stops.ShownStop.{has_break}
use Rattle.ak_model.specs.Control.ControlState.{Raised}
use Rattle.ak_model.specs.Control.EventTurn.{event_turn, vector_turn, leave_program, count_of}
use Rattle.ak_model.specs.Control.Runs.{turn}
use Rattle.ak_driver.proofs.Invariant.Spots.{ByVector, ByDenial, ByMiss, InProgram, Leaving, Left, Progress, control_at}
use Rattle.ak_driver.proofs.Invariant.TurnsLead.{Leads}

module _ (layout : Layout) (past : History) (service : Counted) (queue : List ℕ) (count : ℕ) (returned : List ℕ) where
  abbrev at : List Event → Progress
  at tape = record { queue = queue; count = count; rest = tape; returned = returned }

  -- an instruction completes
  completes : (tape : List Event) → has_break tape ≡ false → Leads service InProgram (at tape) (event_turn layout (control_at InProgram (at tape)) None)
  completes tape whole = record {
    next = InProgram;
    after = record (at tape) { count = count + 1 };
    control_is = refl;
    within = refl;
    asking = refl;
    queue = refl;
    unbroken = whole;
    fits = λ there dropped x state h. h;
    apart = λ queue dropped h. tt;
  }

  -- an event is taken
  takes : (event : Event) (older : List Event) → has_break (event ∷ older) ≡ false → Leads service InProgram (at (event ∷ older)) (event_turn layout (control_at InProgram (at (event ∷ older))) (Some event))
  takes (Call i b a) older whole = record {
    next = Leaving b a;
    after = record (at older) { count = count + 1 };
    control_is = refl;
    within = refl;
    asking = refl;
    queue = refl;
    unbroken = whole;
    fits = λ there dropped x state h. h;
    apart = λ queue dropped h. tt;
  }
  takes (Miss i c) older whole = record {
    next = Left (ByMiss c);
    after = at older;
    control_is = refl;
    outside = refl;
    left = λ e. cc;
    unstopped = refl;
    ends = refl;
    closed = λ a o. o refl;
    waits = λ b a. absurd (cc);
    unbroken = whole;
    fits = λ x state h. h;
    apart = tt;
  }
  takes (Break i) older whole = absurd (cc)
  takes (Trap i v) older whole = by (v == 14)
    where
      by : (b : Bool) → Leads service InProgram (at (Trap i v ∷ older)) (if b then vector_turn layout (control_at InProgram (at (Trap i v ∷ older))) 14 else leave_program (Exit.Vector v) (Raised v) (control_at InProgram (at (Trap i v ∷ older))))
      by true = record {
        next = Left ByDenial;
        after = at older;
        control_is = refl;
        outside = refl;
        left = λ e. cc;
        unstopped = refl;
        ends = refl;
        closed = λ a o. o refl;
        waits = λ b a. absurd (cc);
        unbroken = whole;
        fits = λ x state h. h;
        apart = tt;
      }
      by false = record {
        next = Left (ByVector v);
        after = at older;
        control_is = refl;
        outside = refl;
        left = λ e. cc;
        unstopped = refl;
        ends = refl;
        closed = λ a o. o refl;
        waits = λ b a. absurd (cc);
        unbroken = whole;
        fits = λ x state h. h;
        apart = tt;
      }

  -- each turn of the program leads to a spot
  pub program_leads : (tape : List Event) → has_break tape ≡ false → Leads service InProgram (at tape) (turn layout past (control_at InProgram (at tape)))
  program_leads [] whole = completes [] whole
  program_leads (event ∷ older) whole = by (count_of event == count)
    where
      by : (b : Bool) → Leads service InProgram (at (event ∷ older)) (event_turn layout (control_at InProgram (at (event ∷ older))) (then_some b event))
      by true = takes event older whole
      by false = completes (event ∷ older) whole
