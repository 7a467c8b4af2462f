-- The worked rows, computed from the definitions.
use Rattle.std.specs.Prelude.{◌≡◌, List, [], ◌∷◌, ◌++◌, map, reverse, refl}
use Rattle.ak_core.specs.Layout.{Layout}
use Rattle.ak_core.specs.declared.moves.Exit.{Exit}
use Rattle.ak_core.specs.declared.moves.Move.{Move}
use Rattle.ak_core.specs.declared.moves.Move.TheVariants.{Etrack}
use Rattle.ak_core.specs.declared.moves.Answer.{Answer}
use Rattle.ak_core.specs.declared.moves.Answer.TheVariants.{Ok, NoPage, NotEpc, IsSecs, Free, WrongType, InUse, NotTracked, PrevIncomplete, BadVa, SlotEmpty, MacFail, EnclaveActive, NoHandle, NoLp, Inside, Outside, TcsFault, Busy, Gp, Pending, SsaFault}
use Rattle.ak_core.specs.declared.event.Event.{Event}
use Rattle.ak_core.specs.declared.event.Event.TheVariants.{Call, Miss, Trap, Break}
use Rattle.ak_model.specs.Control.Trace.{trace, answers}
use Rattle.ak_model.proofs.Rows.Samples.{image_a, image_c, image_d, image_j, none, pad, pwad, pxad, pxd, setpte, readpte, eblock, ewb, eldu, eremove, epa, discard, eenter, eresume, run, interrupt, ex, pf, sealed}

-- a row: each move with its answer
abbrev pub Row : Type 0
Row = List (Move × Answer)

abbrev pub moves_of : Row → List Move
moves_of row = map (λ pair. pair.0) row

abbrev pub answers_of : Row → List Answer
answers_of row = map (λ pair. pair.1) row

abbrev pub Holds : Layout → List Event → Row → Type 0
Holds layout tape row = answers (trace layout tape (reverse (moves_of row))) ≡ answers_of row

-- the first path: two entries, one output, the end
first_path : Holds image_a (Call 3 1 7 ∷ Call 7 0 0 ∷ [])
    ((eenter 0 0, Ok) ∷ (run 0 1000, ex (Exit.Call 1 7)) ∷ (eenter 0 0, Ok) ∷ (run 0 1000, ex (Exit.Ended 0)) ∷ [])
first_path = refl

-- one miss, served by the honest kernel
one_miss : Holds image_a (Miss 0 0 ∷ Call 3 1 7 ∷ Call 7 0 0 ∷ [])
    ((eenter 0 0, Ok) ∷ (run 0 1000, pf) ∷ (eenter 0 0, Ok) ∷ (run 0 1000, ex (Exit.Ask 0 0))
    ∷ (eldu 8 0 0 1 0, Ok) ∷ (setpte 0 8 pxad, Ok) ∷ (eenter 0 0, Ok) ∷ (run 0 1000, ex Exit.Ready)
    ∷ (eresume 0, Ok) ∷ (run 0 1000, ex (Exit.Call 1 7)) ∷ (eenter 0 0, Ok) ∷ (run 0 1000, ex (Exit.Ended 0)) ∷ [])
one_miss = refl

-- resuming is refused while pending, and an interrupt leaves that as it is
pending_row : Holds image_a (Miss 0 0 ∷ [])
    ((eenter 0 0, Ok) ∷ (run 0 10, pf) ∷ (eresume 0, Pending) ∷ (eenter 0 0, Ok) ∷ (interrupt 0, Ok) ∷ (eresume 0, Ok) ∷ (run 0 1, ex (Exit.Ask 0 0)) ∷ [])
pending_row = refl

-- the moves by which the honest kernel serves image A's first miss
served : Row
served =
    (eenter 0 0, Ok) ∷ (run 0 1000, pf) ∷ (eenter 0 0, Ok) ∷ (run 0 1000, ex (Exit.Ask 0 0))
    ∷ (eldu 8 0 0 1 0, Ok) ∷ (setpte 0 8 pxad, Ok) ∷ (eenter 0 0, Ok) ∷ (run 0 1000, ex Exit.Ready) ∷ (eresume 0, Ok) ∷ []

-- a page of a cluster that is in is taken away
taken : Holds image_a (Miss 0 0 ∷ Break 0 ∷ [])
    (served ++ (setpte 0 0 none, Ok) ∷ (run 0 1000, pf) ∷ (eenter 0 0, Ok) ∷ (run 0 1000, ex Exit.Stopped) ∷ [])
unfolding served
taken = refl

-- the handler is resumed before the cluster was fetched
early : Holds image_d (Miss 0 0 ∷ [])
    ((eenter 0 0, Ok) ∷ (run 0 10, pf) ∷ (eenter 0 0, Ok) ∷ (run 0 1, ex (Exit.Ask 0 0)) ∷ (eldu 8 0 0 1 0, Ok)
    ∷ (setpte 0 8 pxad, Ok) ∷ (eresume 0, Ok) ∷ (run 0 1, ex Exit.Stopped) ∷ [])
early = refl

interrupted_early : Holds image_d (Miss 0 0 ∷ [])
    ((eenter 0 0, Ok) ∷ (run 0 10, pf) ∷ (eenter 0 0, Ok) ∷ (run 0 1, ex (Exit.Ask 0 0)) ∷ (eldu 8 0 0 1 0, Ok)
    ∷ (setpte 0 8 pxad, Ok) ∷ (eresume 0, Ok) ∷ (interrupt 0, Ok) ∷ (eldu 9 1 1 1 1, Ok) ∷ (setpte 1 9 pwad, Ok)
    ∷ (eenter 0 0, Ok) ∷ (run 0 10, ex Exit.Ready) ∷ (eresume 0, Ok) ∷ (run 0 1, ex Exit.Still) ∷ [])
interrupted_early = refl

-- an older sealed copy is refused
replay : Holds image_a []
    ((eldu 8 0 0 1 0, Ok) ∷ (eblock 8, Ok) ∷ (Etrack, Ok) ∷ (ewb 8 1 0, sealed 1) ∷ (eldu 8 1 0 1 0, Ok) ∷ (eblock 8, Ok)
    ∷ (Etrack, Ok) ∷ (ewb 8 1 0, sealed 2) ∷ (eldu 8 1 0 1 0, MacFail) ∷ (eldu 8 0 0 1 0, MacFail) ∷ (eldu 8 2 0 1 0, Ok) ∷ [])
replay = refl

-- a sealed page under another's name or slot is refused
swapped : Holds image_c []
    ((eldu 8 3 4 1 4, MacFail) ∷ (eldu 8 3 4 1 3, MacFail) ∷ (eldu 8 4 4 1 4, Ok) ∷ (eldu 9 4 4 1 4, SlotEmpty) ∷ (eldu 8 3 3 1 3, InUse) ∷ [])
swapped = refl

-- nothing is written out before the processor has left
untracked : Holds image_a (Miss 0 0 ∷ [])
    (served ++ (run 0 1, ex Exit.Still) ∷ (eblock 8, Ok) ∷ (Etrack, Ok) ∷ (ewb 8 1 0, NotTracked) ∷ (Etrack, PrevIncomplete)
    ∷ (eremove 8, EnclaveActive) ∷ (interrupt 0, Ok) ∷ (ewb 8 1 0, sealed 1) ∷ [])
unfolding served
untracked = refl

-- entering after the fault was served finds nothing to do
served_twice : Holds image_a (Miss 0 0 ∷ [])
    ((eenter 0 0, Ok) ∷ (run 0 1000, pf) ∷ (eenter 0 0, Ok) ∷ (run 0 1000, ex (Exit.Ask 0 0))
    ∷ (eldu 8 0 0 1 0, Ok) ∷ (setpte 0 8 pxad, Ok) ∷ (eenter 0 0, Ok) ∷ (run 0 1000, ex Exit.Ready)
    ∷ (eenter 0 0, Ok) ∷ (run 0 5, ex Exit.Nothing) ∷ (eresume 0, Ok) ∷ (run 0 1, ex Exit.Still) ∷ [])
served_twice = refl

-- three faults of the runtime leave an enclave that nothing enters
stuck : Holds image_a []
    ((setpte 5 6 none, Ok) ∷ (eenter 0 0, Ok) ∷ (run 0 1, pf) ∷ (eresume 0, Pending) ∷ (eenter 0 0, Ok) ∷ (run 0 1, pf)
    ∷ (eenter 0 0, Ok) ∷ (run 0 1, pf) ∷ (eenter 0 0, Gp) ∷ (eresume 0, Pending) ∷ [])
stuck = refl

-- a program that stores into its code is trapped, and stays so
trapped : Holds image_a (Miss 0 0 ∷ Trap 0 14 ∷ [])
    (served ++ (run 0 1000, pf) ∷ (eenter 0 0, Ok) ∷ (run 0 1000, ex (Exit.Trapped 14)) ∷ (readpte 0, Answer.Pte (Rattle.ak_model.proofs.Rows.Samples.frame 8) pxad)
    ∷ (eresume 0, Ok) ∷ (run 0 1, ex (Exit.Trapped 14)) ∷ [])
unfolding served
trapped = refl

-- two processors
two_processors : Holds (record image_a { lps = 2 }) []
    ((eenter 0 0, Ok) ∷ (eenter 1 0, Busy) ∷ (eenter 0 0, Inside) ∷ (run 1 5, Outside) ∷ (eenter 2 0, NoLp) ∷ (interrupt 0, Ok) ∷ (eresume 1, Ok) ∷ [])
two_processors = refl

-- refusals
refusals : Holds image_a []
    ((eremove 1, Ok) ∷ (eldu 8 0 0 1 0, BadVa) ∷ (epa 1, Ok) ∷ (eldu 8 0 0 1 0, SlotEmpty) ∷ (epa 0, IsSecs) ∷ (epa 9, NotEpc)
    ∷ (eblock 8, Free) ∷ (eblock 1, WrongType) ∷ (discard 0, Ok) ∷ (discard 0, NoHandle) ∷ (readpte 7, NoPage) ∷ [])
refusals = refl

-- the asked cluster was not fetched
unfetched : Holds image_a (Miss 0 0 ∷ [])
    ((eenter 0 0, Ok) ∷ (run 0 10, pf) ∷ (eenter 0 0, Ok) ∷ (run 0 1, ex (Exit.Ask 0 0)) ∷ (eenter 0 0, Ok) ∷ (run 0 10, pf)
    ∷ (eenter 0 0, Ok) ∷ (run 0 1, ex Exit.Stopped) ∷ [])
unfetched = refl

-- entering walks the TCS and the saved-state page
entry_walks : Holds image_a []
    ((setpte 1 2 none, Ok) ∷ (eenter 0 0, TcsFault) ∷ (setpte 1 2 pad, Ok) ∷ (setpte 2 3 pad, Ok) ∷ (eenter 0 0, SsaFault)
    ∷ (setpte 2 3 pwad, Ok) ∷ (eresume 0, Gp) ∷ (eenter 0 0, Ok) ∷ [])
entry_walks = refl

-- a cycle that began before the block does not count for it
cycle_before : Holds image_a []
    ((eldu 8 0 0 1 0, Ok) ∷ (Etrack, Ok) ∷ (eblock 8, Ok) ∷ (ewb 8 1 0, NotTracked) ∷ (Etrack, Ok) ∷ (ewb 8 1 0, sealed 1) ∷ [])
cycle_before = refl
