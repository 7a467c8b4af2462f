-- Sound journals for each cause of a stop but the program's own unmapped page, and the order in which the runtime's pages fault.
use Rattle.std.proofs.Common.{ℕ, List, [], ◌∷◌, ◌++◌, arith, refl}
use Rattle.ak_core.specs.Journal.{Journal}
use Rattle.ak_core.specs.Mem.{access_to}
use Rattle.ak_core.specs.declared.event.Event.{Event}
use Rattle.ak_core.specs.declared.event.Event.TheVariants.{Miss}
use Rattle.ak_core.specs.declared.event.StopCause.{StopCause}
use Rattle.ak_core.specs.declared.event.StopCause.TheVariants.{RuntimeUnmapped, ResumedEarly, Stuck}
use Rattle.ak_core.specs.declared.moves.Exit.{Exit}
use Rattle.ak_core.specs.declared.moves.Answer.TheVariants.{Ok}
use Rattle.ak_core.specs.declared.page.Kind.TheVariants.{Write, Exec}
use Rattle.ak_model.specs.Sound.TracedAnswers.{AnswersAreTraced}
use Rattle.ak_model.specs.Sound.BreaksAndStop.{IsStopped}
use Rattle.ak_model.specs.Sound.SoundJournal.{Sound}
use Rattle.ak_model.proofs.Rows.Samples.{image_a, page, none, pwad, pxad, setpte, eblock, eldu, eenter, eresume, run, interrupt, ex, pf}
use Rattle.ak_model.proofs.Rows.Worked.{Row}
use Rattle.ak_model.proofs.Rows.WorkedFlat.{code_a, bytes_a, filled}
use Rattle.ak_model.proofs.Rows.ValidLayouts.{valid_a, whole_a}
use Rattle.ak_model.proofs.Rows.KernelsAndEdges.{stops, stopping, asked, state_lost, area_blocked, area_stuck, lost_back}

-- ---- A page of the runtime

-- no turn of the program was made
state_lost_sound : Sound bytes_a image_a state_lost
unfolding state_lost bytes_a code_a filled
state_lost_sound = record {
  valid = valid_a;
  whole = whole_a;
  outputs = record { shown = refl; flat = ([], refl) };
  events = record { tape = refl; completed = λ i. λ h. absurd (omega arith); traps = tt };
  accesses = record { turns_reach = tt };
  misses = record { turns_miss = tt };
  breaks = record { turns_break = tt };
  answers = record { answered = refl; taken = refl };
  stop = record { stopped = refl };
}

-- the one turn of the program missed, and the runtime faulted at a saved-state area while it dealt with that
area_blocked_sound : Sound bytes_a image_a area_blocked
unfolding area_blocked bytes_a code_a filled
area_blocked_sound = record {
  valid = valid_a;
  whole = whole_a;
  outputs = record { shown = refl; flat = ([], refl) };
  events = record { tape = refl; completed = λ i. λ h. absurd (omega arith); traps = (tt, tt) };
  accesses = record { turns_reach = (tt, tt) };
  misses = record {
    turns_miss = (
      record {
        access = access_to 0 Exec;
        faults = record { may_fault = record { place = 0; stands = refl; permitted = refl; unmapped = refl; earlier = refl }; unkept = refl };
        cluster = refl;
        out = refl;
      },
      tt,
    );
  };
  breaks = record { turns_break = (tt, tt) };
  answers = record { answered = refl; taken = refl };
  stop = record { stopped = refl };
}

-- ---- What was asked for

-- it was fetched, and lost after the kernel came back
lost_back_sound : Sound bytes_a image_a lost_back
unfolding lost_back bytes_a code_a filled
lost_back_sound = record {
  valid = valid_a;
  whole = whole_a;
  outputs = record { shown = refl; flat = ([], refl) };
  events = record { tape = refl; completed = λ i. λ h. absurd (omega arith); traps = (tt, tt) };
  accesses = record { turns_reach = (tt, tt) };
  misses = record {
    turns_miss = (
      record {
        access = access_to 0 Exec;
        faults = record { may_fault = record { place = 0; stands = refl; permitted = refl; unmapped = refl; earlier = refl }; unkept = refl };
        cluster = refl;
        out = refl;
      },
      tt,
    );
  };
  breaks = record { turns_break = (tt, tt) };
  answers = record { answered = refl; taken = refl };
  stop = record { stopped = refl };
}

-- the guard was resumed, after it had been interrupted and resumed before: the last resuming is blamed
unfoldable resumed : Journal
resumed = stops (asked ++ (eresume 0, Ok) ∷ (interrupt 0, Ok) ∷ (eresume 0, Ok) ∷ (run 0 9, ex Exit.Stopped) ∷ []) (Miss 0 0 ∷ []) ResumedEarly 7

resumed_sound : Sound bytes_a image_a resumed
unfolding resumed bytes_a code_a filled
resumed_sound = record {
  valid = valid_a;
  whole = whole_a;
  outputs = record { shown = refl; flat = ([], refl) };
  events = record { tape = refl; completed = λ i. λ h. absurd (omega arith); traps = (tt, tt) };
  accesses = record { turns_reach = (tt, tt) };
  misses = record {
    turns_miss = (
      record {
        access = access_to 0 Exec;
        faults = record { may_fault = record { place = 0; stands = refl; permitted = refl; unmapped = refl; earlier = refl }; unkept = refl };
        cluster = refl;
        out = refl;
      },
      tt,
    );
  };
  breaks = record { turns_break = (tt, tt) };
  answers = record { answered = refl; taken = refl };
  stop = record { stopped = refl };
}

-- ---- Three faults of the runtime

area_stuck_sound : Sound bytes_a image_a area_stuck
unfolding area_stuck bytes_a code_a filled
area_stuck_sound = record {
  valid = valid_a;
  whole = whole_a;
  outputs = record { shown = refl; flat = ([], refl) };
  events = record { tape = refl; completed = λ i. λ h. absurd (omega arith); traps = (tt, tt) };
  accesses = record { turns_reach = (tt, tt) };
  misses = record {
    turns_miss = (
      record {
        access = access_to 0 Exec;
        faults = record { may_fault = record { place = 0; stands = refl; permitted = refl; unmapped = refl; earlier = refl }; unkept = refl };
        cluster = refl;
        out = refl;
      },
      tt,
    );
  };
  breaks = record { turns_break = (tt, tt) };
  answers = record { answered = refl; taken = refl };
  stop = record { stopped = refl };
}

-- ---- The order of the runtime's accesses

-- a journal without outputs that stops so
record Stops (row : Row) (events : List Event) (cause : StopCause) (blamed : ℕ) : Type 0 where
  answered : AnswersAreTraced image_a (stops row events cause blamed)
  stopped : IsStopped image_a (stops row events cause blamed)

-- CODE comes before STATE
code_first : Stops ((setpte 5 6 none, Ok) ∷ (setpte 6 7 none, Ok) ∷ (eenter 0 0, Ok) ∷ (run 0 1, pf) ∷ (setpte 5 6 pwad, Ok) ∷ (setpte 6 7 pxad, Ok) ∷ stopping)
    [] (RuntimeUnmapped (page 6) Exec) 2
code_first = record { answered = record { answered = refl; taken = refl }; stopped = record { stopped = refl } }

-- STATE comes before the saved-state areas
state_before_areas : Stops ((eenter 0 0, Ok) ∷ (run 0 9, pf) ∷ (eenter 0 0, Ok) ∷ (setpte 2 3 none, Ok) ∷ (setpte 5 6 none, Ok) ∷ (run 0 1, pf) ∷ (setpte 2 3 pwad, Ok) ∷ (setpte 5 6 pwad, Ok) ∷ stopping)
    (Miss 0 0 ∷ []) (RuntimeUnmapped (page 5) Write) 5
state_before_areas = record { answered = record { answered = refl; taken = refl }; stopped = record { stopped = refl } }

-- the first area comes before the second
first_area : Stops ((eenter 0 0, Ok) ∷ (run 0 9, pf) ∷ (eenter 0 0, Ok) ∷ (interrupt 0, Ok) ∷ (eenter 0 0, Ok) ∷ (eblock 4, Ok) ∷ (eblock 3, Ok) ∷ (run 0 1, pf) ∷ [])
    (Miss 0 0 ∷ []) (Stuck (page 2) Write) 7
first_area = record { answered = record { answered = refl; taken = refl }; stopped = record { stopped = refl } }

-- the finishing accesses the first area
finishing_area : Stops (asked ++ (eldu 8 0 0 1 0, Ok) ∷ (setpte 0 8 pxad, Ok) ∷ (eenter 0 0, Ok) ∷ (run 0 2, ex Exit.Still) ∷ (setpte 2 3 none, Ok) ∷ (run 0 9, pf) ∷ (setpte 2 3 pwad, Ok) ∷ stopping)
    (Miss 0 0 ∷ []) (RuntimeUnmapped (page 2) Write) 9
finishing_area = record { answered = record { answered = refl; taken = refl }; stopped = record { stopped = refl } }

-- a probe that faults at STATE says nothing of what was asked for
probe_state : Stops (asked ++ (eenter 0 0, Ok) ∷ (run 0 1, ex Exit.Still) ∷ (setpte 5 6 none, Ok) ∷ (run 0 9, pf) ∷ (setpte 5 6 pwad, Ok) ∷ stopping)
    (Miss 0 0 ∷ []) (RuntimeUnmapped (page 5) Write) 7
probe_state = record { answered = record { answered = refl; taken = refl }; stopped = record { stopped = refl } }
