-- More rows on what kernels may do to an enclave, and on programs at edges.
use Rattle.std.specs.Prelude.{◌≡◌, ℕ, ◌-◌, true, false, List, [], ◌∷◌, ◌++◌, length, replicate, Option, Some, None, refl}
use Rattle.ak_core.specs.Layout.{Layout}
use Rattle.ak_core.specs.Journal.{Journal}
use Rattle.ak_core.specs.Mem.{Access, access_to}
use Rattle.ak_core.specs.declared.event.Event.{Event}
use Rattle.ak_core.specs.declared.event.Event.TheVariants.{Miss, Break}
use Rattle.ak_core.specs.declared.event.StopCause.{StopCause}
use Rattle.ak_core.specs.declared.event.StopCause.TheVariants.{Unmapped, RuntimeUnmapped, FetchNotHonoured, Stuck}
use Rattle.ak_core.specs.declared.moves.Exit.{Exit}
use Rattle.ak_core.specs.declared.moves.Move.{Move}
use Rattle.ak_core.specs.declared.moves.Move.TheVariants.{Eldb, Etrack}
use Rattle.ak_core.specs.declared.moves.Answer.TheVariants.{Ok, Blocked, NotTracked, Gp, Pending}
use Rattle.ak_core.specs.declared.page.Kind.TheVariants.{Write, Exec}
use Rattle.ak_core.specs.declared.page.Perm.TheVariants.{Rx}
use Rattle.ak_model.specs.Paging.Walk.{access_walkable}
use Rattle.ak_model.specs.Flat.FlatRuns.{line, flat_run, FlatRun, outputs}
use Rattle.ak_model.specs.Control.RuntimeTurn.{guard}
use Rattle.ak_model.specs.Tapes.LastMoment.{last_moment}
use Rattle.ak_model.specs.Sound.TracedAnswers.{AnswersAreTraced}
use Rattle.ak_model.specs.Sound.BreaksAndStop.{IsStopped}
use Rattle.ak_model.proofs.Rows.Samples.{layout_of, image_a, image_d, page, frame, key, none, pxad, pwad, setpte, eblock, ewb, eldu, eenter, eresume, run, interrupt, ex, pf, sealed}
use Rattle.ak_model.proofs.Rows.Worked.{Row, Holds}
use Rattle.ak_model.proofs.Rows.WorkedFlat.{shown_at}
use Rattle.ak_model.proofs.Rows.ServedMiss.{journal_of}

-- the journal of a row without outputs, that stops for this cause and blames this move
abbrev pub stops : Row → List Event → StopCause → ℕ → Journal
stops row events cause blamed = journal_of row [] events (Some (record { cause = cause; blame = blamed }))

-- ---- ELDB

abbrev eldb : ℕ → ℕ → ℕ → ℕ → ℕ → Move
eldb f k p va i = Eldb (frame f) (key k) (page p) (frame va) i

-- a frame filled by ELDB is blocked, and must be tracked before it is written out
blocked_load : Holds image_a []
    ((eldb 8 0 0 1 0, Ok) ∷ (eblock 8, Blocked) ∷ (ewb 8 1 1, NotTracked) ∷ (Etrack, Ok) ∷ (ewb 8 1 1, sealed 1) ∷ (eldu 8 1 0 1 1, Ok) ∷ (eblock 8, Ok) ∷ [])
blocked_load = refl

-- no walk finds its page
blocked_walk : access_walkable image_a ((setpte 0 8 pxad, Ok) ∷ (eldb 8 0 0 1 0, Ok) ∷ []) (access_to 0 Exec) ≡ false
blocked_walk = refl

-- where ELDU filled the frame, one does
unblocked_walk : access_walkable image_a ((setpte 0 8 pxad, Ok) ∷ (eldu 8 0 0 1 0, Ok) ∷ []) (access_to 0 Exec) ≡ true
unblocked_walk = refl

-- ---- Losses of a page of the program

-- nine moves serve the first miss
abbrev pub served : Row
served =
    (eenter 0 0, Ok) ∷ (run 0 1000, pf) ∷ (eenter 0 0, Ok) ∷ (run 0 1000, ex (Exit.Ask 0 0))
    ∷ (eldu 8 0 0 1 0, Ok) ∷ (setpte 0 8 pxad, Ok) ∷ (eenter 0 0, Ok) ∷ (run 0 1000, ex Exit.Ready) ∷ (eresume 0, Ok) ∷ []

-- the enclave is entered after the fault, and stops
abbrev pub stopping : Row
stopping = (eenter 0 0, Ok) ∷ (run 0 1000, ex Exit.Stopped) ∷ []

-- lost, found and lost again: the last loss before the fault is blamed
unfoldable lost_twice : Journal
lost_twice = stops (served ++ (setpte 0 0 none, Ok) ∷ (setpte 0 8 pxad, Ok) ∷ (setpte 0 0 none, Ok) ∷ (run 0 10, pf) ∷ stopping)
    (Miss 0 0 ∷ Break 0 ∷ []) (Unmapped (page 0) Exec) 12

lost_twice_answers : AnswersAreTraced image_a lost_twice
unfolding lost_twice
lost_twice_answers = record { answered = refl; taken = refl }

lost_twice_stop : IsStopped image_a lost_twice
unfolding lost_twice
lost_twice_stop = record { stopped = (page 0, Exec, refl) }

-- taken away in two ways: the first of them is blamed, since after it no walk finds the page
unfoldable lost_both_ways : Journal
lost_both_ways = stops (served ++ (eblock 8, Ok) ∷ (setpte 0 0 none, Ok) ∷ (run 0 10, pf) ∷ stopping) (Miss 0 0 ∷ Break 0 ∷ []) (Unmapped (page 0) Exec) 10

lost_both_ways_answers : AnswersAreTraced image_a lost_both_ways
unfolding lost_both_ways
lost_both_ways_answers = record { answered = refl; taken = refl }

lost_both_ways_stop : IsStopped image_a lost_both_ways
unfolding lost_both_ways
lost_both_ways_stop = record { stopped = (page 0, Exec, refl) }

-- found and lost again after the fault: the loss before the fault is blamed
unfoldable lost_after : Journal
lost_after = stops (served ++ (setpte 0 0 none, Ok) ∷ (run 0 10, pf) ∷ (setpte 0 8 pxad, Ok) ∷ (setpte 0 0 none, Ok) ∷ stopping)
    (Miss 0 0 ∷ Break 0 ∷ []) (Unmapped (page 0) Exec) 10

lost_after_answers : AnswersAreTraced image_a lost_after
unfolding lost_after
lost_after_answers = record { answered = refl; taken = refl }

lost_after_stop : IsStopped image_a lost_after
unfolding lost_after
lost_after_stop = record { stopped = (page 0, Exec, refl) }

-- ---- An asked cluster that is not there

-- the program misses, and the cluster is asked for
abbrev pub asked : Row
asked = (eenter 0 0, Ok) ∷ (run 0 1000, pf) ∷ (eenter 0 0, Ok) ∷ (run 0 1000, ex (Exit.Ask 0 0)) ∷ []

-- fetched, and lost after the kernel came back: the loss is blamed, and not the entering
unfoldable pub lost_back : Journal
lost_back = stops (asked ++ (eldu 8 0 0 1 0, Ok) ∷ (setpte 0 8 pxad, Ok) ∷ (eenter 0 0, Ok) ∷ (setpte 0 0 none, Ok) ∷ (run 0 10, pf) ∷ stopping)
    (Miss 0 0 ∷ []) (FetchNotHonoured (page 0) Exec) 8

lost_back_answers : AnswersAreTraced image_a lost_back
unfolding lost_back
lost_back_answers = record { answered = refl; taken = refl }

lost_back_stop : IsStopped image_a lost_back
unfolding lost_back
lost_back_stop = record { stopped = refl }

-- fetched, and lost before the kernel came back: the entering is blamed
unfoldable lost_before : Journal
lost_before = stops (asked ++ (eldu 8 0 0 1 0, Ok) ∷ (setpte 0 8 pxad, Ok) ∷ (setpte 0 0 none, Ok) ∷ (eenter 0 0, Ok) ∷ (run 0 10, pf) ∷ stopping)
    (Miss 0 0 ∷ []) (FetchNotHonoured (page 0) Exec) 8

lost_before_answers : AnswersAreTraced image_a lost_before
unfolding lost_before
lost_before_answers = record { answered = refl; taken = refl }

lost_before_stop : IsStopped image_a lost_before
unfolding lost_before
lost_before_stop = record { stopped = refl }

-- found and lost after the fault of the probe: the entering is blamed
unfoldable pub fetched_late : Journal
fetched_late = stops (asked ++ (eenter 0 0, Ok) ∷ (run 0 10, pf) ∷ (eldu 8 0 0 1 0, Ok) ∷ (setpte 0 8 pxad, Ok) ∷ (setpte 0 0 none, Ok) ∷ stopping)
    (Miss 0 0 ∷ []) (FetchNotHonoured (page 0) Exec) 5

fetched_late_answers : AnswersAreTraced image_a fetched_late
unfolding fetched_late
fetched_late_answers = record { answered = refl; taken = refl }

fetched_late_stop : IsStopped image_a fetched_late
unfolding fetched_late
fetched_late_stop = record { stopped = refl }

-- two pages are fetched, and the first is probed
abbrev pub probed : Row
probed =
    asked ++ (eldu 8 0 0 1 0, Ok) ∷ (eldu 9 1 1 1 1, Ok) ∷ (setpte 0 8 pxad, Ok) ∷ (setpte 1 9 pwad, Ok) ∷ (eenter 0 0, Ok) ∷ (run 0 2, ex Exit.Still) ∷ []

-- the second is lost before its probe
unfoldable lost_between : Journal
lost_between = stops (probed ++ (setpte 1 0 none, Ok) ∷ (run 0 10, pf) ∷ stopping) (Miss 0 0 ∷ []) (FetchNotHonoured (page 1) Write) 11

lost_between_answers : AnswersAreTraced image_d lost_between
unfolding lost_between
lost_between_answers = record { answered = refl; taken = refl }

lost_between_stop : IsStopped image_d lost_between
unfolding lost_between
lost_between_stop = record { stopped = refl }

-- the first is lost after its probe: the probes go on, and the program breaks
unfoldable lost_past_probe : Journal
lost_past_probe = stops (probed ++ (setpte 0 0 none, Ok) ∷ (run 0 10, ex Exit.Ready) ∷ (eresume 0, Ok) ∷ (run 0 10, pf) ∷ stopping)
    (Miss 0 0 ∷ Break 0 ∷ []) (Unmapped (page 0) Exec) 11

lost_past_probe_answers : AnswersAreTraced image_d lost_past_probe
unfolding lost_past_probe
lost_past_probe_answers = record { answered = refl; taken = refl }

lost_past_probe_stop : IsStopped image_d lost_past_probe
unfolding lost_past_probe
lost_past_probe_stop = record { stopped = (page 0, Exec, refl) }

-- ---- Pages of the runtime

-- STATE is taken away and put back: the runtime finds its own fault
unfoldable pub state_lost : Journal
state_lost = stops ((setpte 5 6 none, Ok) ∷ (eenter 0 0, Ok) ∷ (run 0 1, pf) ∷ (setpte 5 6 pwad, Ok) ∷ stopping) [] (RuntimeUnmapped (page 5) Write) 1

state_lost_answers : AnswersAreTraced image_a state_lost
unfolding state_lost
state_lost_answers = record { answered = refl; taken = refl }

state_lost_stop : IsStopped image_a state_lost
unfolding state_lost
state_lost_stop = record { stopped = refl }

-- the first saved-state area is blocked while the runtime handles a miss, and is written out and loaded after the fault; both
-- saved frames are then the guard's, and each that is resumed stops
abbrev area_moves : Row
area_moves =
    (eenter 0 0, Ok) ∷ (run 0 10, pf) ∷ (eenter 0 0, Ok) ∷ (eblock 3, Ok) ∷ (run 0 1, pf) ∷ (Etrack, Ok) ∷ (ewb 3 1 1, sealed 1) ∷ (eldu 3 1 2 1 1, Ok) ∷ stopping

unfoldable pub area_blocked : Journal
area_blocked = stops (area_moves ++ (eresume 0, Ok) ∷ (run 0 1, ex Exit.Stopped) ∷ (eresume 0, Ok) ∷ (run 0 1, ex Exit.Stopped) ∷ (eresume 0, Gp) ∷ [])
    (Miss 0 0 ∷ []) (RuntimeUnmapped (page 2) Write) 4

area_blocked_answers : AnswersAreTraced image_a area_blocked
unfolding area_blocked
area_blocked_answers = record { answered = refl; taken = refl }

area_blocked_stop : IsStopped image_a area_blocked
unfolding area_blocked
area_blocked_stop = record { stopped = refl }

two_guards : (last_moment image_a (stops area_moves (Miss 0 0 ∷ []) (RuntimeUnmapped (page 2) Write) 4)).control.stack ≡ guard ∷ guard ∷ []
two_guards = refl

-- the second area is blocked after an entering at two saved contexts: the third fault is the end
unfoldable pub area_stuck : Journal
area_stuck = stops ((eenter 0 0, Ok) ∷ (run 0 10, pf) ∷ (eenter 0 0, Ok) ∷ (interrupt 0, Ok) ∷ (eenter 0 0, Ok) ∷ (eblock 4, Ok) ∷ (run 0 1, pf) ∷ (eenter 0 0, Gp) ∷ (eresume 0, Pending) ∷ [])
    (Miss 0 0 ∷ []) (Stuck (page 3) Write) 6

area_stuck_answers : AnswersAreTraced image_a area_stuck
unfolding area_stuck
area_stuck_answers = record { answered = refl; taken = refl }

area_stuck_stop : IsStopped image_a area_stuck
unfolding area_stuck
area_stuck_stop = record { stopped = refl }

-- ---- Overflow over a call

-- a page that begins with these bytes
abbrev page_of : List ℕ → List ℕ
page_of bytes = bytes ++ replicate (4096 - length bytes) 0

-- a number below 256 into a register
abbrev mov : ℕ → ℕ → List ℕ
mov opcode v = 0x48 ∷ opcode ∷ v ∷ replicate 7 0

-- RAX, of these bytes, and RBX, 1, are added (0x01) or compared (0x39); call 2 is made; 9 is put out where the jump with this
-- opcode is taken, else 7
unfoldable conditional : List ℕ → ℕ → ℕ → List ℕ
conditional rax arithmetic opcode =
    page_of ((0x48 ∷ 0xb8 ∷ rax) ++ (mov 0xbb 1 ++ ((0x48 ∷ arithmetic ∷ 0xd8 ∷ []) ++ (mov 0xb8 4 ++ (mov 0xbf 2 ++ (mov 0xbe 9
    ++ ((0x0f ∷ 0x01 ∷ 0xd7 ∷ 0x0f ∷ opcode ∷ 0x0a ∷ 0 ∷ 0 ∷ 0 ∷ []) ++ (mov 0xbe 7 ++ (mov 0xbf 1 ++ (mov 0xb8 4 ++ 0x0f ∷ 0x01 ∷ 0xd7 ∷ []))))))))))

-- the greatest signed number, the least, and 1
abbrev greatest : List ℕ
greatest = replicate 7 255 ++ 127 ∷ []

abbrev least : List ℕ
least = replicate 7 0 ++ 128 ∷ []

abbrev one : List ℕ
one = 1 ∷ replicate 7 0

-- what the first n instructions put out
abbrev out : List ℕ → ℕ → ℕ → ℕ → List ℕ
out rax arithmetic opcode n = outputs image_a (conditional rax arithmetic opcode) (3 ∷ 0 ∷ []) n

-- the greatest number and 1 overflow: the sum is negative, and not less
add_less : out greatest 0x01 0x8c 12 ≡ 7 ∷ []
unfolding conditional
add_less = refl

add_not_less : out greatest 0x01 0x8d 11 ≡ 9 ∷ []
unfolding conditional
add_not_less = refl

add_not_greater : out greatest 0x01 0x8e 12 ≡ 7 ∷ []
unfolding conditional
add_not_greater = refl

add_greater : out greatest 0x01 0x8f 11 ≡ 9 ∷ []
unfolding conditional
add_greater = refl

-- the least number is less than 1, though the difference is positive
compare_less : out least 0x39 0x8c 11 ≡ 9 ∷ []
unfolding conditional
compare_less = refl

compare_not_less : out least 0x39 0x8d 12 ≡ 7 ∷ []
unfolding conditional
compare_not_less = refl

compare_not_greater : out least 0x39 0x8e 11 ≡ 9 ∷ []
unfolding conditional
compare_not_greater = refl

compare_greater : out least 0x39 0x8f 12 ≡ 7 ∷ []
unfolding conditional
compare_greater = refl

-- 1 is 1
equal_less : out one 0x39 0x8c 12 ≡ 7 ∷ []
unfolding conditional
equal_less = refl

equal_not_less : out one 0x39 0x8d 11 ≡ 9 ∷ []
unfolding conditional
equal_not_less = refl

equal_not_greater : out one 0x39 0x8e 11 ≡ 9 ∷ []
unfolding conditional
equal_not_greater = refl

equal_greater : out one 0x39 0x8f 12 ≡ 7 ∷ []
unfolding conditional
equal_greater = refl

-- ---- The end of the last page

-- a page that ends with these bytes
unfoldable ending : List ℕ → List ℕ
ending bytes = replicate (4096 - length bytes) 0 ++ bytes

-- one page, entered so many bytes before its end
abbrev last : ℕ → Layout
last n = record image_a { entry = 4096 - n }

-- the accesses of the first instruction, and its vector
abbrev accesses_of : Layout → Option FlatRun → List Access
accesses_of layout None = []
accesses_of layout (Some run) = (line layout run.flat).accesses

abbrev first_of : List ℕ → List ℕ
first_of bytes = shown_at (last (length bytes)) (flat_run (last (length bytes)) (ending bytes) [] 0)

-- a proper prefix of an encoding goes on past the last page
prefix_ends : first_of (0x48 ∷ []) ≡ 13 ∷ []
unfolding ending
prefix_ends = refl

number_ends : first_of (0x48 ∷ 0xb8 ∷ 1 ∷ 2 ∷ 3 ∷ []) ≡ 13 ∷ []
unfolding ending
number_ends = refl

call_ends : first_of (0x0f ∷ 0x01 ∷ []) ≡ 13 ∷ []
unfolding ending
call_ends = refl

-- bytes that begin no encoding do not
byte_ends : first_of (0x06 ∷ []) ≡ 6 ∷ []
unfolding ending
byte_ends = refl

wide_ends : first_of (0x4c ∷ 0xb8 ∷ []) ≡ 6 ∷ []
unfolding ending
wide_ends = refl

shift_ends : first_of (0x4c ∷ 0xc1 ∷ []) ≡ 6 ∷ []
unfolding ending
shift_ends = refl

divide_ends : first_of (0x4d ∷ 0xf7 ∷ []) ≡ 6 ∷ []
unfolding ending
divide_ends = refl

digit_ends : first_of (0x48 ∷ 0xc1 ∷ 0xc0 ∷ []) ≡ 6 ∷ []
unfolding ending
digit_ends = refl

-- a whole instruction ends with the page, and the next begins outside: no page is accessed for it
nop_ends : shown_at (last 1) (flat_run (last 1) (ending (0x90 ∷ [])) [] 1) ≡ 13 ∷ []
unfolding ending
nop_ends = refl

nop_accesses : accesses_of (last 1) (flat_run (last 1) (ending (0x90 ∷ [])) [] 1) ≡ []
unfolding ending
nop_accesses = refl

prefix_accesses : accesses_of (last 1) (flat_run (last 1) (ending (0x48 ∷ [])) [] 0) ≡ access_to 0 Exec ∷ []
unfolding ending
prefix_accesses = refl

-- where a page follows, it is accessed before its bytes are found to be no encoding
abbrev two_pages : Layout
two_pages = record (layout_of (Rx ∷ Rx ∷ []) (0 ∷ 0 ∷ []) 1 2 10 1) { entry = 4095 }

next_vector : shown_at two_pages (flat_run two_pages (ending (0x48 ∷ []) ++ page_of (0x06 ∷ [])) [] 0) ≡ 6 ∷ []
unfolding ending
next_vector = refl

next_accesses : accesses_of two_pages (flat_run two_pages (ending (0x48 ∷ []) ++ page_of (0x06 ∷ [])) [] 0) ≡ access_to 0 Exec ∷ access_to 1 Exec ∷ []
unfolding ending
next_accesses = refl

-- ---- Moves after a stop

-- a page of the runtime is lost again after the enclave has stopped: the loss before the stop is blamed
unfoldable lost_again : Journal
lost_again = stops ((eenter 0 0, Ok) ∷ (run 0 10, pf) ∷ (eenter 0 0, Ok) ∷ (interrupt 0, Ok) ∷ (eenter 0 0, Ok) ∷ (eblock 4, Ok) ∷ (run 0 1, pf)
    ∷ (Etrack, Ok) ∷ (ewb 4 1 1, sealed 1) ∷ (eldu 4 1 3 1 1, Ok) ∷ (eblock 4, Ok) ∷ (Etrack, Ok) ∷ [])
    (Miss 0 0 ∷ []) (Stuck (page 3) Write) 6

lost_again_answers : AnswersAreTraced image_a lost_again
unfolding lost_again
lost_again_answers = record { answered = refl; taken = refl }

lost_again_stop : IsStopped image_a lost_again
unfolding lost_again
lost_again_stop = record { stopped = refl }
