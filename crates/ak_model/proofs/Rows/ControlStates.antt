-- Control states: each phase, each context of the processor inside, and each reason for which a context is saved, reached.
use Rattle.std.specs.Prelude.{◌≡◌, List, [], ◌∷◌, ◌++◌, reverse, Option, Some, None, refl}
use Rattle.ak_core.specs.Layout.{Layout}
use Rattle.ak_core.specs.Mem.{access_to}
use Rattle.ak_core.specs.declared.event.Event.{Event}
use Rattle.ak_core.specs.declared.event.Event.TheVariants.{Call, Miss, Trap, Break}
use Rattle.ak_core.specs.declared.moves.Exit.{Exit}
use Rattle.ak_core.specs.declared.moves.Answer.TheVariants.{Ok}
use Rattle.ak_core.specs.declared.page.Kind.TheVariants.{Write, Exec}
use Rattle.ak_model.specs.Control.ControlState.{Phase, New, Running, Calling, Asked, Ended, Trapped, Dead, Context, Program, Enter, Probe, Finish, Guard, Leave, Reason, Interrupted, Cleared, Raised, Denied, Missed, Broke, Faulted, Saved, Control}
use Rattle.ak_model.specs.Control.Trace.{trace}
use Rattle.ak_model.proofs.Rows.Samples.{image_a, image_d, none, pwad, pxad, setpte, eldu, eenter, eresume, run, interrupt, ex, pf}
use Rattle.ak_model.proofs.Rows.Worked.{Row, Holds, moves_of}

-- ---- What is said of a row

-- the control state after its moves
abbrev after : Layout → List Event → Row → Control
after layout tape row = (trace layout tape (reverse (moves_of row))).control

-- it is answered so, and then this is the phase, this is what the processor inside does next, and these contexts are saved
abbrev Comes : Layout → List Event → Row → Phase → Option Context → List Saved → Type 0
Comes layout tape row phase now stack =
    Holds layout tape row × ((after layout tape row).phase ≡ phase) × ((after layout tape row).now ≡ now) × ((after layout tape row).stack ≡ stack)

-- a saved context, and why
abbrev saved : Context → Reason → Saved
saved context reason = record { context = context; reason = reason }

-- ---- Calls

at_first : Comes image_a [] [] New None []
at_first = (refl, refl, refl, refl)

entering : Comes image_a [] ((eenter 0 5, Ok) ∷ []) New (Some (Enter 0 5)) []
entering = (refl, refl, refl, refl)

-- an entry that was interrupted goes on where it stood
interrupted_entry : Comes image_a [] ((eenter 0 5, Ok) ∷ (interrupt 0, Ok) ∷ []) New None (saved (Enter 0 5) Interrupted ∷ [])
interrupted_entry = (refl, refl, refl, refl)

resumed_entry : Comes image_a [] ((eenter 0 5, Ok) ∷ (interrupt 0, Ok) ∷ (eresume 0, Ok) ∷ []) New (Some (Enter 0 5)) []
resumed_entry = (refl, refl, refl, refl)

started : Comes image_a [] ((eenter 0 5, Ok) ∷ (run 0 1, ex Exit.Still) ∷ []) Running (Some Program) []
started = (refl, refl, refl, refl)

-- the program calls, and is interrupted before it has left
calls : List Event
calls = Call 0 3 7 ∷ Call 2 0 5 ∷ []

leaving : Comes image_a calls ((eenter 0 5, Ok) ∷ (run 0 2, ex Exit.Still) ∷ []) Running (Some (Leave 3 7)) []
unfolding calls
leaving = (refl, refl, refl, refl)

interrupted_leaving : Comes image_a calls ((eenter 0 5, Ok) ∷ (run 0 2, ex Exit.Still) ∷ (interrupt 0, Ok) ∷ []) Running None (saved (Leave 3 7) Interrupted ∷ [])
unfolding calls
interrupted_leaving = (refl, refl, refl, refl)

-- the call is made, with its number and its argument
called : Row
called = (eenter 0 5, Ok) ∷ (run 0 2, ex Exit.Still) ∷ (interrupt 0, Ok) ∷ (eresume 0, Ok) ∷ (run 0 9, ex (Exit.Call 3 7)) ∷ []

calling : Comes image_a calls called Calling None []
unfolding calls called
calling = (refl, refl, refl, refl)

-- the value of the entry that follows is what the call returned; that of the first entry is nothing
returned : (after image_a calls (called ++ (eenter 0 9, Ok) ∷ (run 0 2, ex Exit.Still) ∷ [])).returned ≡ 9 ∷ []
unfolding calls called
returned = refl

-- the program ends with its status, which each later entry tells again
ended : Comes image_a calls (called ++ (eenter 0 9, Ok) ∷ (run 0 9, ex (Exit.Ended 5)) ∷ (eenter 0 1, Ok) ∷ (run 0 9, ex (Exit.Ended 5)) ∷ []) (Ended 5) None []
unfolding calls called
ended = (refl, refl, refl, refl)

-- ---- A miss, and what is done about it

missed : Row
missed = (eenter 0 0, Ok) ∷ (run 0 9, pf) ∷ []

left_by_miss : Comes image_d (Miss 0 0 ∷ []) missed Running None (saved Program (Missed 0) ∷ [])
unfolding missed
left_by_miss = (refl, refl, refl, refl)

asked : Row
unfolding missed
asked = missed ++ (eenter 0 0, Ok) ∷ (run 0 9, ex (Exit.Ask 0 0)) ∷ []

asks : Comes image_d (Miss 0 0 ∷ []) asked (Asked 0) None (saved Guard Cleared ∷ [])
unfolding asked missed
asks = (refl, refl, refl, refl)

-- the guard goes on where it is resumed
guarded : Comes image_d (Miss 0 0 ∷ []) (asked ++ (eresume 0, Ok) ∷ []) (Asked 0) (Some Guard) []
unfolding asked missed
guarded = (refl, refl, refl, refl)

-- both pages are fetched, and the kernel comes back
back : Row
unfolding asked missed
back = asked ++ (eldu 8 0 0 1 0, Ok) ∷ (eldu 9 1 1 1 1, Ok) ∷ (setpte 0 8 pxad, Ok) ∷ (setpte 1 9 pwad, Ok) ∷ (eenter 0 0, Ok) ∷ []

first_probe : Comes image_d (Miss 0 0 ∷ []) (back ++ (run 0 1, ex Exit.Still) ∷ []) (Asked 0) (Some (Probe 0)) (saved Guard Cleared ∷ [])
unfolding back asked missed
first_probe = (refl, refl, refl, refl)

last_probe : Comes image_d (Miss 0 0 ∷ []) (back ++ (run 0 2, ex Exit.Still) ∷ []) (Asked 0) (Some (Probe 1)) (saved Guard Cleared ∷ [])
unfolding back asked missed
last_probe = (refl, refl, refl, refl)

probed : Comes image_d (Miss 0 0 ∷ []) (back ++ (run 0 3, ex Exit.Still) ∷ []) (Asked 0) (Some Finish) (saved Guard Cleared ∷ [])
unfolding back asked missed
probed = (refl, refl, refl, refl)

-- a probe that was interrupted goes on; who enters meanwhile finds nothing to do
interrupted_probe : Comes image_d (Miss 0 0 ∷ []) (back ++ (run 0 2, ex Exit.Still) ∷ (interrupt 0, Ok) ∷ (eenter 0 0, Ok) ∷ (run 0 9, ex Exit.Nothing) ∷ [])
    (Asked 0) None (saved (Probe 1) Interrupted ∷ saved Guard Cleared ∷ [])
unfolding back asked missed
interrupted_probe = (refl, refl, refl, refl)

ready : Comes image_d (Miss 0 0 ∷ []) (back ++ (run 0 2, ex Exit.Still) ∷ (interrupt 0, Ok) ∷ (eresume 0, Ok) ∷ (run 0 2, ex Exit.Ready) ∷ []) Running None (saved Program Cleared ∷ [])
unfolding back asked missed
ready = (refl, refl, refl, refl)

-- the program that was interrupted is resumed; who enters meanwhile finds nothing to do
interrupted : Comes image_d (Miss 0 0 ∷ [])
    (back ++ (run 0 9, ex Exit.Ready) ∷ (eresume 0, Ok) ∷ (run 0 2, ex Exit.Still) ∷ (interrupt 0, Ok) ∷ (eenter 0 0, Ok) ∷ (run 0 9, ex Exit.Nothing) ∷ [])
    Running None (saved Program Interrupted ∷ [])
unfolding back asked missed
interrupted = (refl, refl, refl, refl)

-- ---- Vectors, a denied access, a break

raised : Comes image_a (Trap 0 6 ∷ []) ((eenter 0 0, Ok) ∷ (run 0 9, ex (Exit.Vector 6)) ∷ []) Running None (saved Program (Raised 6) ∷ [])
raised = (refl, refl, refl, refl)

-- the vector is told at each later entry, and where the guard is resumed
trapped : Comes image_a (Trap 0 6 ∷ [])
    ((eenter 0 0, Ok) ∷ (run 0 9, ex (Exit.Vector 6)) ∷ (eenter 0 0, Ok) ∷ (run 0 9, ex (Exit.Trapped 6)) ∷ (eenter 0 0, Ok) ∷ (run 0 9, ex (Exit.Trapped 6))
    ∷ (eresume 0, Ok) ∷ (run 0 9, ex (Exit.Trapped 6)) ∷ (eenter 0 0, Ok) ∷ (run 0 9, ex (Exit.Trapped 6)) ∷ []) (Trapped 6) None []
trapped = (refl, refl, refl, refl)

denied : Comes image_a (Trap 0 14 ∷ []) ((eenter 0 0, Ok) ∷ (run 0 9, pf) ∷ []) Running None (saved Program Denied ∷ [])
denied = (refl, refl, refl, refl)

broke : Comes image_a (Break 0 ∷ []) ((eenter 0 0, Ok) ∷ (run 0 9, pf) ∷ []) Running None (saved Program Broke ∷ [])
broke = (refl, refl, refl, refl)

-- each later entry tells that it has stopped, and so does the guard
dead : Comes image_a (Break 0 ∷ [])
    ((eenter 0 0, Ok) ∷ (run 0 9, pf) ∷ (eenter 0 0, Ok) ∷ (run 0 9, ex Exit.Stopped) ∷ (eenter 0 0, Ok) ∷ (run 0 9, ex Exit.Stopped) ∷ []) Dead None (saved Guard Cleared ∷ [])
dead = (refl, refl, refl, refl)

-- ---- Faults of the runtime

own_fault : Comes image_a [] ((setpte 5 6 none, Ok) ∷ (eenter 0 0, Ok) ∷ (run 0 9, pf) ∷ []) New None (saved (Enter 0 0) (Faulted (access_to 5 Write)) ∷ [])
own_fault = (refl, refl, refl, refl)

-- the second page was not fetched
unfetched : Comes image_d (Miss 0 0 ∷ []) (asked ++ (eldu 8 0 0 1 0, Ok) ∷ (setpte 0 8 pxad, Ok) ∷ (eenter 0 0, Ok) ∷ (run 0 9, pf) ∷ [])
    (Asked 0) None (saved (Probe 1) (Faulted (access_to 1 Write)) ∷ saved Guard Cleared ∷ [])
unfolding asked missed
unfetched = (refl, refl, refl, refl)

-- a page of the runtime is lost at the finishing
unfinished : Comes image_d (Miss 0 0 ∷ []) (back ++ (run 0 3, ex Exit.Still) ∷ (setpte 3 0 none, Ok) ∷ (run 0 9, pf) ∷ [])
    (Asked 0) None (saved Finish (Faulted (access_to 3 Write)) ∷ saved Guard Cleared ∷ [])
unfolding back asked missed
unfinished = (refl, refl, refl, refl)

-- and at a call
unleft : Comes image_a calls ((eenter 0 5, Ok) ∷ (run 0 2, ex Exit.Still) ∷ (setpte 6 0 none, Ok) ∷ (run 0 9, pf) ∷ []) Running None (saved (Leave 3 7) (Faulted (access_to 6 Exec)) ∷ [])
unfolding calls
unleft = (refl, refl, refl, refl)

-- and at the guard
unguarded : Comes image_d (Miss 0 0 ∷ []) (asked ++ (eresume 0, Ok) ∷ (setpte 6 0 none, Ok) ∷ (run 0 9, pf) ∷ []) (Asked 0) None (saved Guard (Faulted (access_to 6 Write)) ∷ [])
unfolding asked missed
unguarded = (refl, refl, refl, refl)

-- three contexts are saved, and the third is an entry that faulted
stuck : Comes image_a [] ((setpte 5 6 none, Ok) ∷ (eenter 0 1, Ok) ∷ (run 0 1, pf) ∷ (eenter 0 2, Ok) ∷ (run 0 1, pf) ∷ (eenter 0 3, Ok) ∷ (run 0 1, pf) ∷ [])
    New None (saved (Enter 2 3) (Faulted (access_to 5 Write)) ∷ saved (Enter 1 2) (Faulted (access_to 5 Write)) ∷ saved (Enter 0 1) (Faulted (access_to 5 Write)) ∷ [])
stuck = (refl, refl, refl, refl)
