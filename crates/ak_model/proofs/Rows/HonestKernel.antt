-- The honest kernel on the worked images, blame, and the ideal misses.
use Rattle.std.specs.Prelude.{◌≡◌, ℕ, zero, suc, ◌-◌, ◌*◌, List, [], ◌∷◌, ◌++◌, length, replicate, reverse, drop, take, Option, Some, None, refl}
use Rattle.ak_core.specs.Layout.{Layout}
use Rattle.ak_core.specs.declared.event.Event.{Event}
use Rattle.ak_core.specs.declared.event.Event.TheVariants.{Call, Miss, Break}
use Rattle.ak_core.specs.declared.moves.Exit.{Exit}
use Rattle.ak_core.specs.declared.moves.Move.{Move}
use Rattle.ak_core.specs.declared.moves.Move.TheVariants.{Etrack}
use Rattle.ak_core.specs.declared.moves.Answer.TheVariants.{Ok}
use Rattle.ak_core.specs.declared.page.Kind.TheVariants.{Write, Exec}
use Rattle.ak_core.specs.declared.event.StopCause.TheVariants.{Unmapped, FetchNotHonoured, ResumedEarly, Stuck}
use Rattle.ak_model.specs.Clusters.Queue.{drops, queue_after}
use Rattle.ak_model.specs.Paging.Histories.{History}
use Rattle.ak_model.specs.Control.Trace.{trace, answers}
use Rattle.ak_model.specs.Stops.Blame.{blame}
use Rattle.ak_model.specs.Kernels.KernelRules.{Honours}
use Rattle.ak_model.specs.Kernels.Evictions.{Evicts}
use Rattle.ak_model.specs.Misses.Ideal.{ideal}
use Rattle.ak_model.specs.Kernels.HonestKernel.{drive}
use Rattle.ak_model.proofs.Rows.Samples.{image_a, image_c, image_d, image_j, page, none, pxad, setpte, eblock, ewb, eldu, eenter, eresume, run, interrupt, ex, sealed}

-- the queue over five clusters of one page with room for four
queue_row : queue_after image_j (0 ∷ 1 ∷ 2 ∷ 3 ∷ 4 ∷ []) ≡ 1 ∷ 2 ∷ 3 ∷ 4 ∷ []
queue_row = refl

drops_row : drops image_j (0 ∷ 1 ∷ 2 ∷ 3 ∷ []) 4 ≡ 1
drops_row = refl

-- the history after these moves, and the part before the last
past_of : Layout → List Event → List Move → History
past_of layout tape moves = (trace layout tape (reverse moves)).past

-- up to n moves of the honest kernel, before the newest
abbrev pub with_next : Option Move → List Move → (List Move → List Move) → List Move
with_next None moves next = moves
with_next (Some m) moves next = next (m ∷ moves)

abbrev pub auto : Layout → List Event → List ℕ → ℕ → List Move → List Move
auto layout tape inputs zero moves = moves
auto layout tape inputs (suc n) moves =
    with_next (drive layout (trace layout tape moves).past inputs) moves (auto layout tape inputs n)

abbrev tape_a : List Event
tape_a = Miss 0 0 ∷ Call 3 1 7 ∷ Call 7 0 0 ∷ []

auto_a : reverse (auto image_a tape_a [] 20 []) ≡
    eenter 0 0 ∷ run 0 1000 ∷ eenter 0 0 ∷ run 0 1000 ∷ eldu 8 0 0 1 0 ∷ setpte 0 8 pxad ∷ eenter 0 0 ∷ run 0 1000
    ∷ eresume 0 ∷ run 0 1000 ∷ eenter 0 0 ∷ run 0 1000 ∷ []
auto_a = refl

-- the fifth cluster pushes the first one out
abbrev tape_j : List Event
tape_j = Miss 0 0 ∷ Miss 1 1 ∷ Miss 2 2 ∷ Miss 3 3 ∷ Miss 4 4 ∷ Call 5 0 0 ∷ []

moves_j : List Move
moves_j = auto image_j tape_j [] 60 []

count_j : length moves_j ≡ 46
unfolding moves_j
count_j = refl

last_j : reverse (take 11 moves_j) ≡
    run 0 1000 ∷ setpte 0 0 none ∷ eblock 8 ∷ Etrack ∷ ewb 8 1 0 ∷ eldu 8 4 4 1 4 ∷ setpte 4 8 pxad ∷ eenter 0 0
    ∷ run 0 1000 ∷ eresume 0 ∷ run 0 1000 ∷ []
unfolding moves_j
last_j = refl

answers_j : drop 35 (answers (trace image_j tape_j moves_j)) ≡
    ex (Exit.Ask 1 4) ∷ Ok ∷ Ok ∷ Ok ∷ sealed 5 ∷ Ok ∷ Ok ∷ Ok ∷ ex Exit.Ready ∷ Ok ∷ ex (Exit.Ended 0) ∷ []
unfolding moves_j
answers_j = refl

honours_j : Honours image_j tape_j moves_j
unfolding moves_j
honours_j = record { mapped = refl; fetched = refl; resumed = refl }

evicts_j : Evicts image_j tape_j moves_j
unfolding moves_j
evicts_j = refl

-- an input is handed in with the next entry
input_row : reverse (take 5 (auto image_a (Miss 0 0 ∷ Call 2 2 0 ∷ Call 6 1 9 ∷ Call 9 0 9 ∷ []) (9 ∷ []) 20 [])) ≡
    run 0 1000 ∷ eenter 0 9 ∷ run 0 1000 ∷ eenter 0 0 ∷ run 0 1000 ∷ []
input_row = refl

-- ---- Blame

served : List Move
served =
    eenter 0 0 ∷ run 0 1000 ∷ eenter 0 0 ∷ run 0 1000 ∷ eldu 8 0 0 1 0 ∷ setpte 0 8 pxad ∷ eenter 0 0 ∷ run 0 1000 ∷ eresume 0 ∷ []

taken_away : blame image_a (past_of image_a (Miss 0 0 ∷ Break 0 ∷ []) (served ++ setpte 0 0 none ∷ run 0 1000 ∷ eenter 0 0 ∷ []))
    (Unmapped (page 0) Exec) ≡ 10
unfolding past_of served
taken_away = refl

taken_later : blame image_a
    (past_of image_a (Miss 0 0 ∷ Break 2 ∷ []) (served ++ run 0 1 ∷ setpte 0 0 none ∷ run 0 1 ∷ interrupt 0 ∷ eresume 0 ∷ run 0 1 ∷ eenter 0 0 ∷ []))
    (Unmapped (page 0) Exec) ≡ 11
unfolding past_of served
taken_later = refl

stuck_row : blame image_a
    (past_of image_a [] (setpte 5 6 none ∷ eenter 0 0 ∷ run 0 1 ∷ eresume 0 ∷ eenter 0 0 ∷ run 0 1 ∷ eenter 0 0 ∷ []))
    (Stuck (page 5) Write) ≡ 1
unfolding past_of
stuck_row = refl

resumed_row : blame image_d
    (past_of image_d (Miss 0 0 ∷ []) (eenter 0 0 ∷ run 0 10 ∷ eenter 0 0 ∷ run 0 1 ∷ eldu 8 0 0 1 0 ∷ setpte 0 8 pxad ∷ eresume 0 ∷ []))
    ResumedEarly ≡ 7
unfolding past_of
resumed_row = refl

unfetched_row : blame image_a
    (past_of image_a (Miss 0 0 ∷ []) (eenter 0 0 ∷ run 0 10 ∷ eenter 0 0 ∷ run 0 1 ∷ eenter 0 0 ∷ run 0 10 ∷ eenter 0 0 ∷ []))
    (FetchNotHonoured (page 0) Exec) ≡ 5
unfolding past_of
unfetched_row = refl

-- ---- The ideal misses of five pages that each jump to the next, and of a table that is looked up

padded : ℕ → List ℕ → List ℕ
padded n bytes = bytes ++ replicate (4096 * n - length bytes) 0

jump : List ℕ
jump = 0xe9 ∷ 0xfb ∷ 0x0f ∷ 0 ∷ 0 ∷ []

bytes_j : List ℕ
bytes_j =
    padded 1 jump ++ (padded 1 jump ++ (padded 1 jump ++ (padded 1 jump ++ padded 1 (72 ∷ 184 ∷ 4 ∷ 0 ∷ 0 ∷ 0 ∷ 0 ∷ 0 ∷ 0 ∷ 0 ∷ 15 ∷ 1 ∷ 215 ∷ []))))

ideal_j : ideal image_j bytes_j [] 0 ++ (ideal image_j bytes_j [] 1 ++ (ideal image_j bytes_j [] 3 ++ (ideal image_j bytes_j [] 4 ++ ideal image_j bytes_j [] 5)))
    ≡ 0 ∷ 1 ∷ 3 ∷ 4 ∷ []
unfolding bytes_j padded jump
ideal_j = refl

table_bytes : ℕ → List ℕ
table_bytes secret = padded 1 (72 ∷ 187 ∷ 0 ∷ 16 ∷ 0 ∷ 16 ∷ 0 ∷ 0 ∷ 0 ∷ 0 ∷ 64 ∷ 138 ∷ 139 ∷ 0 ∷ 0 ∷ 0 ∷ 0 ∷ 72 ∷ 193 ∷ 225 ∷ 7 ∷ 72 ∷ 187 ∷ 0 ∷ 128 ∷ 0 ∷ 16 ∷ 0 ∷ 0 ∷ 0 ∷ 0 ∷ 72 ∷ 1 ∷ 203 ∷ 72 ∷ 139 ∷ 147 ∷ 0 ∷ 0 ∷ 0 ∷ 0 ∷ 72 ∷ 184 ∷ 4 ∷ 0 ∷ 0 ∷ 0 ∷ 0 ∷ 0 ∷ 0 ∷ 0 ∷ 15 ∷ 1 ∷ 215 ∷ []) ++ padded 15 (secret ∷ [])

ideal_table : ideal image_c (table_bytes 200) [] 0 ++ ideal image_c (table_bytes 200) [] 5 ≡ 0 ∷ 1 ∷ []
unfolding table_bytes padded
ideal_table = refl
