-- More of the worked rows: the honest kernel over several clusters, and the misses that the programs force.
use Rattle.std.specs.Prelude.{◌≡◌, ℕ, List, [], ◌∷◌, ◌++◌, length, replicate, reverse, take, refl}
use Rattle.ak_core.specs.Layout.{Layout}
use Rattle.ak_core.specs.declared.event.Event.{Event}
use Rattle.ak_core.specs.declared.event.Event.TheVariants.{Call, Miss, Trap, Break}
use Rattle.ak_core.specs.declared.moves.Exit.{Exit}
use Rattle.ak_core.specs.declared.moves.Move.{Move}
use Rattle.ak_core.specs.declared.moves.Answer.{Answer}
use Rattle.ak_core.specs.declared.moves.Answer.TheVariants.{Ok}
use Rattle.ak_core.specs.declared.page.Perm.TheVariants.{R, Rx}
use Rattle.ak_model.specs.Control.Trace.{trace, answers}
use Rattle.ak_model.specs.Control.Moments.{moments}
use Rattle.ak_model.specs.Kernels.KernelRules.{Honours, keeps_mapped, keeps_fetched, never_resumes_early}
use Rattle.ak_model.specs.Misses.Ideal.{ideal}
use Rattle.std.specs.List.{list_all}
use Rattle.std.specs.Prelude.{false}
use Rattle.ak_model.proofs.Rows.Samples.{none, layout_of, image_a, image_c, pxd, setpte, readpte, eenter, eresume, run, ex, pf, frame}
use Rattle.ak_model.proofs.Rows.WorkedFlat.{image_b, bytes_b, image_f, bytes_f}
use Rattle.ak_model.proofs.Rows.HonestKernel.{auto}

-- the answers to the newest moves, the newest first
newest : Layout → List Event → List Move → ℕ → List Answer
newest layout tape moves n = take n (reverse (answers (trace layout tape moves)))

-- one store in four clusters
tape_b : List Event
tape_b = Miss 0 0 ∷ Miss 0 1 ∷ Miss 0 2 ∷ Miss 0 3 ∷ Call 2 0 0 ∷ []

moves_b : List Move
unfolding image_b tape_b
moves_b = auto image_b tape_b [] 40 []

count_b : length moves_b ≡ 34
unfolding moves_b image_b tape_b
count_b = refl

end_b : newest image_b tape_b moves_b 1 ≡ ex (Exit.Ended 0) ∷ []
unfolding newest moves_b image_b tape_b
end_b = refl

honours_b : Honours image_b tape_b moves_b
unfolding moves_b image_b tape_b
honours_b = record { mapped = refl; fetched = refl; resumed = refl }

ideal_b : ideal image_b bytes_b [] 0 ≡ 0 ∷ 1 ∷ 2 ∷ 3 ∷ []
unfolding image_b bytes_b
ideal_b = refl

-- a table in one cluster
tape_c : List Event
tape_c = Miss 0 0 ∷ Miss 5 1 ∷ Call 7 0 0 ∷ []

moves_c : List Move
unfolding tape_c
moves_c = auto image_c tape_c [] 60 []

count_c : length moves_c ≡ 46
unfolding moves_c tape_c
count_c = refl

end_c : newest image_c tape_c moves_c 1 ≡ ex (Exit.Ended 0) ∷ []
unfolding newest moves_c tape_c
end_c = refl

-- the table in two clusters: the ask shows which half
image_c2 : Layout
image_c2 = layout_of (Rx ∷ replicate 15 R) (0 ∷ 0 ∷ 0 ∷ 0 ∷ 0 ∷ 0 ∷ 0 ∷ 0 ∷ 1 ∷ 1 ∷ 1 ∷ 1 ∷ 2 ∷ 2 ∷ 2 ∷ 2 ∷ []) 3 16 24 1

low_half : newest image_c2 (Miss 0 0 ∷ Miss 5 1 ∷ Call 7 0 0 ∷ []) (auto image_c2 (Miss 0 0 ∷ Miss 5 1 ∷ Call 7 0 0 ∷ []) [] 26 []) 1 ≡ ex (Exit.Ask 0 1) ∷ []
unfolding newest image_c2
low_half = refl

high_half : newest image_c2 (Miss 0 0 ∷ Miss 5 2 ∷ Call 7 0 0 ∷ []) (auto image_c2 (Miss 0 0 ∷ Miss 5 2 ∷ Call 7 0 0 ∷ []) [] 26 []) 1 ≡ ex (Exit.Ask 0 2) ∷ []
unfolding newest image_c2
high_half = refl

-- a store over two pages of two clusters
tape_f : List Event
tape_f = Miss 0 0 ∷ Miss 1 1 ∷ Miss 1 2 ∷ Call 5 1 18446744069414584320 ∷ Call 9 0 0 ∷ []

count_f : length (auto image_f tape_f [] 40 []) ≡ 28
unfolding image_f tape_f
count_f = refl

ideal_f : ideal image_f bytes_f (0 ∷ []) 0 ++ (ideal image_f bytes_f (0 ∷ []) 1 ++ ideal image_f bytes_f (0 ∷ []) 2) ≡ 0 ∷ 1 ∷ 2 ∷ []
unfolding image_f bytes_f
ideal_f = refl

-- the accessed bit is demanded and not set
preset : newest image_a (Miss 0 0 ∷ []) (readpte 0 ∷ run 0 10 ∷ eenter 0 0 ∷ setpte 0 8 pxd ∷ auto image_a (Miss 0 0 ∷ []) [] 5 []) 3 ≡ Answer.Pte (frame 8) pxd ∷ pf ∷ Ok ∷ []
unfolding newest
preset = refl

-- a division by zero
divided : newest image_a (Miss 0 0 ∷ Trap 0 0 ∷ []) (auto image_a (Miss 0 0 ∷ Trap 0 0 ∷ []) [] 20 []) 3 ≡ ex (Exit.Trapped 0) ∷ Ok ∷ ex (Exit.Vector 0) ∷ []
unfolding newest
divided = refl

-- ---- Kernels that break a rule

-- a page of a cluster that is in is unmapped while a processor is inside
unmapped_row : list_all (keeps_mapped image_a) (moments image_a (Miss 0 0 ∷ Break 0 ∷ []) (run 0 1000 ∷ setpte 0 0 none ∷ auto image_a (Miss 0 0 ∷ Break 0 ∷ []) [] 9 [])) ≡ false
unmapped_row = refl

-- the handler is resumed while its cluster is asked for
early_row : never_resumes_early image_a (Miss 0 0 ∷ []) (eresume 0 ∷ auto image_a (Miss 0 0 ∷ []) [] 6 []) ≡ false
early_row = refl

-- the handler is entered without the asked cluster
unfetched_row : list_all (keeps_fetched image_a) (moments image_a (Miss 0 0 ∷ []) (eenter 0 0 ∷ auto image_a (Miss 0 0 ∷ []) [] 4 [])) ≡ false
unfetched_row = refl
