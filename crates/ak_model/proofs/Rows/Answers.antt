-- Each answer of each move; and where two checks of a move fail, the first of them is what it is answered.
use Rattle.std.specs.Prelude.{ℕ, Bool, [], ◌∷◌, true, false, refl}
use Rattle.ak_core.specs.Layout.{Layout}
use Rattle.ak_core.specs.declared.moves.Exit.{Exit}
use Rattle.ak_core.specs.declared.moves.Move.{Move}
use Rattle.ak_core.specs.declared.moves.Move.TheVariants.{Eldb, Etrack}
use Rattle.ak_core.specs.declared.moves.Answer.{Answer}
use Rattle.ak_core.specs.declared.moves.Answer.TheVariants.{Ok, NoPage, NotEpc, IsSecs, Free, WrongType, InUse, Blocked, NotBlocked, NotTracked, PrevIncomplete, BadVa, SlotOccupied, SlotEmpty, MacFail, EnclaveActive, NoHandle, NoLp, Inside, Outside, TcsFault, Busy, Gp, Pending, SsaFault}
use Rattle.ak_core.specs.declared.event.Event.TheVariants.{Call}
use Rattle.ak_core.specs.declared.page.Flags.{Flags}
use Rattle.ak_model.proofs.Rows.Samples.{image_a, image_d, page, frame, key, none, pad, pwad, setpte, readpte, eblock, ewb, eldu, eremove, epa, discard, eenter, eresume, run, interrupt, ex, pf, sealed}
use Rattle.ak_model.proofs.Rows.Worked.{Holds}

-- ---- The page table

-- the last page of the enclave has an entry, and no later one
last_entry : Holds image_a []
    ((setpte 7 8 pad, NoPage) ∷ (setpte 6 8 pad, Ok) ∷ (readpte 6, Answer.Pte (frame 8) pad) ∷ (readpte 7, NoPage) ∷ (readpte 5, Answer.Pte (frame 6) pwad) ∷ [])
last_entry = refl

-- these flags, as in scripts: present, writable, executable, accessed, dirty
abbrev flags : Bool → Bool → Bool → Bool → Bool → Flags
flags p w x a d = record { p = p; w = w; x = x; a = a; d = d }

-- each flag is read as it was last set
each_flag : Holds image_a []
    ((setpte 0 3 (flags true false false false false), Ok) ∷ (readpte 0, Answer.Pte (frame 3) (flags true false false false false))
    ∷ (setpte 0 4 (flags false true false false false), Ok) ∷ (readpte 0, Answer.Pte (frame 4) (flags false true false false false))
    ∷ (setpte 0 5 (flags false false true false false), Ok) ∷ (readpte 0, Answer.Pte (frame 5) (flags false false true false false))
    ∷ (setpte 0 6 (flags false false false true false), Ok) ∷ (readpte 0, Answer.Pte (frame 6) (flags false false false true false))
    ∷ (setpte 0 7 (flags false false false false true), Ok) ∷ (readpte 0, Answer.Pte (frame 7) (flags false false false false true)) ∷ [])
each_flag = refl

-- ---- Blocking and writing out

block_answers : Holds image_a []
    ((eblock 9, NotEpc) ∷ (eblock 0, IsSecs) ∷ (eblock 8, Free) ∷ (eblock 1, WrongType) ∷ (eblock 2, Ok) ∷ (eblock 2, Blocked) ∷ (eblock 7, Ok) ∷ [])
block_answers = refl

-- the checks of a write-out, one after the other; a slot that is taken stays as it is
write_out_answers : Holds image_d []
    ((ewb 10 1 0, NotEpc) ∷ (ewb 0 1 0, IsSecs) ∷ (ewb 8 1 0, Free) ∷ (ewb 1 1 0, WrongType) ∷ (eldu 8 0 0 1 0, Ok) ∷ (ewb 8 2 1, NotBlocked)
    ∷ (Etrack, Ok) ∷ (ewb 8 1 1, NotBlocked) ∷ (eblock 8, Ok) ∷ (ewb 8 2 1, NotTracked) ∷ (Etrack, Ok) ∷ (ewb 8 2 1, BadVa) ∷ (ewb 8 9 0, BadVa) ∷ (ewb 8 10 0, BadVa)
    ∷ (ewb 8 1 512, BadVa) ∷ (ewb 8 1 1, SlotOccupied) ∷ (ewb 8 1 511, sealed 2) ∷ (eblock 8, Free)
    ∷ (eldu 8 1 1 1 1, Ok) ∷ (eldu 9 2 0 1 511, Ok) ∷ [])
write_out_answers = refl

-- ---- Loading

abbrev eldb : ℕ → ℕ → ℕ → ℕ → ℕ → Move
eldb f k p va i = Eldb (frame f) (key k) (page p) (frame va) i

-- the checks of a load, one after the other
load_answers : Holds image_d []
    ((eldu 10 0 0 1 0, NotEpc) ∷ (eldu 0 0 0 1 0, IsSecs) ∷ (eldu 1 2 0 2 0, InUse) ∷ (eldu 8 2 0 2 0, BadVa) ∷ (eldu 8 0 0 8 0, BadVa) ∷ (eldu 8 0 0 1 512, BadVa)
    ∷ (eldu 8 2 2 1 2, NoHandle) ∷ (eldu 8 0 0 1 2, SlotEmpty) ∷ (eldu 8 0 0 1 511, SlotEmpty) ∷ (eldu 8 0 0 1 1, MacFail) ∷ (eldu 8 0 1 1 0, MacFail) ∷ (eldu 8 0 0 1 0, Ok)
    ∷ (eldu 8 0 0 1 0, InUse) ∷ (eldu 9 0 0 1 0, SlotEmpty) ∷ (discard 1, Ok) ∷ (eldu 9 1 1 1 1, NoHandle) ∷ [])
load_answers = refl

-- so it is where the frame is to be blocked
blocked_load_answers : Holds image_d []
    ((eldb 10 0 0 1 0, NotEpc) ∷ (eldb 0 0 0 1 0, IsSecs) ∷ (eldb 1 2 0 2 0, InUse) ∷ (eldb 8 2 0 2 0, BadVa) ∷ (eldb 8 2 2 1 2, NoHandle) ∷ (eldb 8 0 0 1 2, SlotEmpty)
    ∷ (eldb 8 0 1 1 0, MacFail) ∷ (eldb 8 0 0 1 0, Ok) ∷ (eldb 8 0 0 1 0, InUse) ∷ (eblock 8, Blocked) ∷ [])
blocked_load_answers = refl

-- ---- Frames that are freed and made VA pages, and handles

-- a page stays while a processor is inside, and a VA page does not; a new one has no version in a slot
remove_answers : Holds image_d []
    ((eremove 10, NotEpc) ∷ (eremove 0, IsSecs) ∷ (eremove 8, Free) ∷ (eenter 0 0, Ok) ∷ (eremove 0, IsSecs) ∷ (eremove 8, Free) ∷ (eremove 2, EnclaveActive) ∷ (eremove 7, EnclaveActive)
    ∷ (eremove 1, Ok) ∷ (eremove 1, Free) ∷ (epa 10, NotEpc) ∷ (epa 0, IsSecs) ∷ (epa 2, InUse) ∷ (epa 1, Ok) ∷ (epa 1, InUse) ∷ (eldu 8 0 0 1 0, SlotEmpty)
    ∷ (interrupt 0, Ok) ∷ (eremove 7, Ok) ∷ (eremove 7, Free) ∷ (epa 7, Ok) ∷ (eblock 7, WrongType) ∷ [])
remove_answers = refl

-- a handle stays given where it was loaded, until it is discarded
discard_answers : Holds image_d []
    ((discard 2, NoHandle) ∷ (eldu 8 0 0 1 0, Ok) ∷ (discard 0, Ok) ∷ (discard 0, NoHandle) ∷ (eblock 8, Ok) ∷ (Etrack, Ok) ∷ (ewb 8 1 0, sealed 2)
    ∷ (discard 3, NoHandle) ∷ (discard 2, Ok) ∷ (eldu 8 2 0 1 0, NoHandle) ∷ (ewb 8 1 0, Free) ∷ [])
discard_answers = refl

-- ---- Entering and leaving

abbrev two : Layout
two = record image_a { lps = 2 }

-- the checks of entering, one after the other: the TCS before another processor, that before the saved-state area
enter_answers : Holds two []
    ((eenter 2 0, NoLp) ∷ (eenter 0 0, Ok) ∷ (setpte 1 2 none, Ok) ∷ (eenter 0 0, Inside) ∷ (eenter 1 0, TcsFault) ∷ (setpte 1 2 pad, Ok) ∷ (setpte 2 3 none, Ok) ∷ (eenter 1 0, Busy)
    ∷ (interrupt 0, Ok) ∷ (setpte 3 4 pad, Ok) ∷ (eenter 0 0, SsaFault) ∷ (setpte 3 4 pwad, Ok) ∷ (eenter 1 0, Ok) ∷ [])
enter_answers = refl

-- the checks of resuming, likewise: no saved context before the saved-state area, and the pending flag before it
resume_answers : Holds two []
    ((eresume 2, NoLp) ∷ (setpte 2 3 none, Ok) ∷ (eresume 0, Gp) ∷ (setpte 2 3 pwad, Ok) ∷ (eenter 0 0, Ok) ∷ (setpte 1 2 none, Ok) ∷ (eresume 0, Inside) ∷ (eresume 1, TcsFault)
    ∷ (setpte 1 2 pad, Ok) ∷ (eresume 1, Busy) ∷ (interrupt 0, Ok) ∷ (setpte 3 4 none, Ok) ∷ (setpte 2 3 none, Ok) ∷ (eresume 0, SsaFault) ∷ (setpte 2 3 pwad, Ok) ∷ (eresume 1, Ok)
    ∷ (setpte 6 7 none, Ok) ∷ (run 1 1, pf) ∷ (setpte 2 3 none, Ok) ∷ (eresume 1, Pending) ∷ [])
resume_answers = refl

-- with three contexts saved nothing enters: that comes before the walk of an area that there is not
three_answers : Holds two []
    ((eenter 0 0, Ok) ∷ (interrupt 0, Ok) ∷ (eenter 0 0, Ok) ∷ (interrupt 0, Ok) ∷ (eenter 1 0, Ok) ∷ (interrupt 1, Ok) ∷ (setpte 5 6 none, Ok) ∷ (eenter 0 0, Gp) ∷ (eresume 0, Ok)
    ∷ (interrupt 0, Ok) ∷ (setpte 4 5 none, Ok) ∷ (eresume 0, SsaFault) ∷ [])
three_answers = refl

-- who is not inside neither runs nor is interrupted; a run makes as many turns as it says
run_answers : Holds two (Call 2 1 7 ∷ [])
    ((run 2 1, NoLp) ∷ (interrupt 2, NoLp) ∷ (run 1 1, Outside) ∷ (interrupt 1, Outside) ∷ (eenter 0 0, Ok) ∷ (run 1 1, Outside) ∷ (interrupt 1, Outside)
    ∷ (run 0 0, ex Exit.Still) ∷ (run 0 4, ex Exit.Still) ∷ (run 0 1, ex (Exit.Call 1 7)) ∷ (run 0 1, Outside) ∷ [])
run_answers = refl

-- a cycle waits for who is inside; one that came after another is wanted only once that is over
cycle_answers : Holds two []
    ((Etrack, Ok) ∷ (Etrack, Ok) ∷ (eenter 0 0, Ok) ∷ (Etrack, Ok) ∷ (Etrack, PrevIncomplete) ∷ (interrupt 0, Ok) ∷ (eenter 1 0, Ok) ∷ (Etrack, Ok) ∷ (Etrack, PrevIncomplete) ∷ (interrupt 1, Ok) ∷ (Etrack, Ok) ∷ [])
cycle_answers = refl
