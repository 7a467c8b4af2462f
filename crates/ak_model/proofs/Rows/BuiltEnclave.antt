-- Rows on what the build leaves, and on a program's calls and vectors from there on.
use Rattle.std.specs.Prelude.{◌≡◌, [], ◌∷◌, map, Some, None, refl}
use Rattle.std.specs.List.{range_with_len}
use Rattle.ak_core.specs.declared.moves.Exit.{Exit}
use Rattle.ak_core.specs.declared.moves.Answer.{Answer}
use Rattle.ak_core.specs.declared.moves.Answer.TheVariants.{Ok, NoPage, Inside, Outside, NoLp}
use Rattle.ak_core.specs.declared.event.Event.TheVariants.{Call, Trap}
use Rattle.ak_model.specs.Paging.Holdings.{FreeFrame, SecsFrame, VaFrame, PageFrame, InFrame, InHandle, Gone}
use Rattle.ak_model.specs.Paging.Frames.{held}
use Rattle.ak_model.specs.Paging.Handles.{given, slot, place}
use Rattle.ak_model.specs.Control.Trace.{trace}
use Rattle.ak_model.proofs.Rows.Samples.{image_a, image_d, readpte, none, pad, pwad, pxad, frame, eenter, run, ex}
use Rattle.ak_model.proofs.Rows.Worked.{Holds}

-- ---- What the build leaves, of a program of two pages

frames : map (held image_d []) (range_with_len 0 10)
    ≡ SecsFrame ∷ VaFrame ∷ PageFrame 2 ∷ PageFrame 3 ∷ PageFrame 4 ∷ PageFrame 5 ∷ PageFrame 6 ∷ PageFrame 7 ∷ FreeFrame ∷ FreeFrame ∷ []
frames = refl

places : map (place image_d []) (range_with_len 0 9)
    ≡ InHandle 0 ∷ InHandle 1 ∷ InFrame 2 ∷ InFrame 3 ∷ InFrame 4 ∷ InFrame 5 ∷ InFrame 6 ∷ InFrame 7 ∷ Gone ∷ []
places = refl

slots : map (slot image_d [] 1) (range_with_len 0 3) ≡ Some 0 ∷ Some 1 ∷ None ∷ []
slots = refl

-- another frame has no slot that is filled
no_slot : slot image_d [] 8 0 ≡ None
no_slot = refl

two_handles : given image_d [] ≡ 2
two_handles = refl

none_in : (trace image_d [] []).control.queue ≡ []
none_in = refl

-- the table: no page of the program, and each of the runtime for all that it allows
entries : Holds image_d []
    ((readpte 0, Answer.Pte (frame 0) none) ∷ (readpte 1, Answer.Pte (frame 0) none) ∷ (readpte 2, Answer.Pte (frame 2) pad) ∷ (readpte 3, Answer.Pte (frame 3) pwad)
    ∷ (readpte 4, Answer.Pte (frame 4) pwad) ∷ (readpte 5, Answer.Pte (frame 5) pwad) ∷ (readpte 6, Answer.Pte (frame 6) pwad) ∷ (readpte 7, Answer.Pte (frame 7) pxad)
    ∷ (readpte 8, NoPage) ∷ [])
entries = refl

-- ---- From there on

-- a sum is put out, over two runs
sum_row : Holds image_a (Call 4 1 7 ∷ [])
    ((eenter 0 0, Ok) ∷ (run 0 3, ex Exit.Still) ∷ (run 0 1000, ex (Exit.Call 1 7)) ∷ [])
sum_row = refl

-- bytes that are no instruction
vector_row : Holds image_a (Trap 0 6 ∷ [])
    ((eenter 0 0, Ok) ∷ (run 0 9, ex (Exit.Vector 6)) ∷ (eenter 0 0, Ok) ∷ (run 0 9, ex (Exit.Trapped 6)) ∷ [])
vector_row = refl

-- moves out of turn
out_of_turn : Holds image_a [] ((run 0 1, Outside) ∷ (eenter 0 0, Ok) ∷ (eenter 0 5, Inside) ∷ (eenter 1 0, NoLp) ∷ [])
out_of_turn = refl
