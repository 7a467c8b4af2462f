-- More of the honest kernel: where it makes no move, and what it hands in, evicts and fetches later on.
use Rattle.std.specs.Prelude.{◌≡◌, ℕ, List, [], ◌∷◌, replicate, reverse, take, filter_map, Option, Some, None, refl}
use Rattle.ak_core.specs.Layout.{Layout}
use Rattle.ak_core.specs.declared.event.Event.{Event}
use Rattle.ak_core.specs.declared.event.Event.TheVariants.{Call, Miss, Trap, Break}
use Rattle.ak_core.specs.declared.moves.Exit.{Exit}
use Rattle.ak_core.specs.declared.moves.Move.{Move}
use Rattle.ak_core.specs.declared.moves.Move.TheVariants.{Etrack, Eenter}
use Rattle.ak_core.specs.declared.moves.Answer.TheVariants.{Ok, TcsFault}
use Rattle.ak_core.specs.declared.page.Perm.TheVariants.{R, Rx}
use Rattle.ak_model.specs.Clusters.Queue.{drops}
use Rattle.ak_model.specs.Control.Trace.{trace}
use Rattle.ak_model.specs.Kernels.HonestKernel.{drive}
use Rattle.ak_model.proofs.Rows.Samples.{layout_of, image_a, image_j, none, pad, pxad, setpte, eblock, ewb, eldu, epa, eenter, eresume, run, interrupt, ex, pf}
use Rattle.ak_model.proofs.Rows.Worked.{Row, Holds, moves_of}
use Rattle.ak_model.proofs.Rows.HonestKernel.{auto}

-- the next move after a row
abbrev next_after : Layout → List Event → Row → List ℕ → Option Move
next_after layout tape row inputs = drive layout (trace layout tape (reverse (moves_of row))).past inputs

-- a row is answered so, and this is the next move
abbrev Next : Layout → List Event → Row → Option Move → Type 0
Next layout tape row move = Holds layout tape row × (next_after layout tape row [] ≡ move)

-- ---- Where there is no move

-- a refused move is not made again
refused : Next image_a [] ((setpte 1 2 none, Ok) ∷ (eenter 0 0, TcsFault) ∷ []) None
refused = (refl, refl)

-- it is made after another move
not_refused : Next image_a [] ((setpte 1 2 none, Ok) ∷ (eenter 0 0, TcsFault) ∷ (setpte 1 2 pad, Ok) ∷ []) (Some (eenter 0 0))
not_refused = (refl, refl)

-- the program has ended, it has trapped, or the enclave has stopped; so it stays
ended : Next image_a (Call 0 0 5 ∷ []) ((eenter 0 0, Ok) ∷ (run 0 9, ex (Exit.Ended 5)) ∷ (eenter 0 0, Ok) ∷ []) None
ended = (refl, refl)

trapped : Next image_a (Trap 0 6 ∷ []) ((eenter 0 0, Ok) ∷ (run 0 9, ex (Exit.Vector 6)) ∷ (eenter 0 0, Ok) ∷ (run 0 9, ex (Exit.Trapped 6)) ∷ []) None
trapped = (refl, refl)

stopped : Next image_a (Break 0 ∷ []) ((eenter 0 0, Ok) ∷ (run 0 9, pf) ∷ (eenter 0 0, Ok) ∷ (run 0 9, ex Exit.Stopped) ∷ []) None
stopped = (refl, refl)

-- three contexts are saved, and resuming is refused
stuck : Next image_a [] ((setpte 5 6 none, Ok) ∷ (eenter 0 0, Ok) ∷ (run 0 1, pf) ∷ (eenter 0 0, Ok) ∷ (run 0 1, pf) ∷ (eenter 0 0, Ok) ∷ (run 0 1, pf) ∷ []) None
stuck = (refl, refl)

-- with two of them it is entered
twice_faulted : Next image_a [] ((setpte 5 6 none, Ok) ∷ (eenter 0 0, Ok) ∷ (run 0 1, pf) ∷ (eenter 0 0, Ok) ∷ (run 0 1, pf) ∷ []) (Some (eenter 0 0))
twice_faulted = (refl, refl)

-- the asked cluster finds no free frame
no_frame : Next image_a (Miss 0 0 ∷ []) ((epa 8, Ok) ∷ (eenter 0 0, Ok) ∷ (run 0 9, pf) ∷ (eenter 0 0, Ok) ∷ (run 0 9, ex (Exit.Ask 0 0)) ∷ []) None
no_frame = (refl, refl)

-- ---- Who is inside runs, and who was interrupted is resumed

abbrev two : Layout
two = record image_a { lps = 2 }

runs_inside : Next two [] ((eenter 1 0, Ok) ∷ []) (Some (run 1 1000))
runs_inside = (refl, refl)

resumes : Next two [] ((eenter 1 0, Ok) ∷ (run 1 5, ex Exit.Still) ∷ (interrupt 1, Ok) ∷ []) (Some (eresume 0))
resumes = (refl, refl)

-- also while a cluster is asked for, where the context that was saved is not the guard
resumes_probe : Next two (Miss 0 0 ∷ [])
    ((eenter 0 0, Ok) ∷ (run 0 9, pf) ∷ (eenter 0 0, Ok) ∷ (run 0 9, ex (Exit.Ask 0 0)) ∷ (eldu 8 0 0 1 0, Ok) ∷ (setpte 0 8 pxad, Ok) ∷ (eenter 0 0, Ok) ∷ (interrupt 0, Ok) ∷ []) (Some (eresume 0))
resumes_probe = (refl, refl)

-- ---- Inputs

-- the value of an entering, if it is one
abbrev entered_with : Move → Option ℕ
entered_with (Eenter lp v) = Some v
entered_with _ = None

-- each call for an input gets the next, and 0 where none is left; another call gets 0
inputs_row : filter_map entered_with (reverse (auto image_a (Call 0 2 0 ∷ Call 1 1 3 ∷ Call 2 2 0 ∷ Call 3 3 0 ∷ Call 4 2 0 ∷ Call 5 0 0 ∷ []) (9 ∷ 8 ∷ []) 20 []))
    ≡ 0 ∷ 9 ∷ 0 ∷ 8 ∷ 0 ∷ 0 ∷ []
inputs_row = refl

-- ---- Evicted and fetched again

-- the cluster that left first is missed again: its newest copy is fetched, under the handle of its write-out
again : reverse (take 11 (auto image_j (Miss 0 0 ∷ Miss 1 1 ∷ Miss 2 2 ∷ Miss 3 3 ∷ Miss 4 4 ∷ Miss 5 0 ∷ Call 6 0 0 ∷ []) [] 60 [])) ≡
    run 0 1000 ∷ setpte 1 0 none ∷ eblock 9 ∷ Etrack ∷ ewb 9 1 1 ∷ eldu 9 5 0 1 0 ∷ setpte 0 9 pxad ∷ eenter 0 0 ∷ run 0 1000 ∷ eresume 0 ∷ run 0 1000 ∷ []
again = refl

-- ---- Two clusters leave for one

-- five clusters of one page, and one of three
unfoldable large : Layout
large = layout_of (Rx ∷ replicate 7 R) (0 ∷ 1 ∷ 2 ∷ 3 ∷ 4 ∷ 5 ∷ 5 ∷ 5 ∷ []) 6 6 14 1

two_leave : drops large (0 ∷ 1 ∷ 2 ∷ 3 ∷ 4 ∷ []) 5 ≡ 2
unfolding large
two_leave = refl

-- all are unmapped, then blocked, then tracked by one cycle, then written out; then the three are fetched
evicts_two : take 17 (reverse (take 19 (auto large (Miss 0 0 ∷ Miss 1 1 ∷ Miss 2 2 ∷ Miss 3 3 ∷ Miss 4 4 ∷ Miss 5 5 ∷ Call 6 0 0 ∷ []) [] 80 []))) ≡
    eenter 0 0 ∷ run 0 1000 ∷ setpte 0 0 none ∷ setpte 1 0 none ∷ eblock 8 ∷ eblock 9 ∷ Etrack ∷ ewb 8 1 0 ∷ ewb 9 1 1
    ∷ eldu 8 5 5 1 5 ∷ eldu 9 6 6 1 6 ∷ eldu 13 7 7 1 7 ∷ setpte 5 8 pad ∷ setpte 6 9 pad ∷ setpte 7 13 pad ∷ eenter 0 0 ∷ run 0 1000 ∷ []
unfolding large
evicts_two = refl
