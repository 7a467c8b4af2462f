-- Pages of STATE: with a phase, a status or a vector, a queue of at most cluster 0, and a frame.
use Rattle.std.proofs.Common.{◌≡◌, ℕ, zero, suc, ◌+◌, ◌*◌, List, [], ◌∷◌, ◌++◌, length, take, drop, refl, ap, ◌∙◌, arith}
use Rattle.std.proofs.lemmas.List.{length-replicate, length-append, drop_at, take_at}
use Rattle.std.specs.Prelude.{replicate, Some, slice_get}
use Rattle.ak_model.specs.Flat.Instructions.{number_at}

-- the phase's number, a status or a vector, and how many clusters are in the queue, before the frame
abbrev before_frame : ℕ → ℕ → ℕ → List ℕ
before_frame phase status size = phase ∷ replicate 15 0 ++ (status ∷ replicate 7 0 ++ (size ∷ replicate 2023 0))

-- STATE
unfoldable pub state_with : ℕ → ℕ → ℕ → List ℕ → List ℕ
state_with phase status size frame = before_frame phase status size ++ (frame ++ replicate 1848 0)

before_size : (phase status size : ℕ) → length (before_frame phase status size) ≡ 2048
before_size phase status size = ap (λ n. 25 + n) (length-replicate {A = ℕ} 2023 0)

pub state_whole : (phase status size : ℕ) (frame : List ℕ) → length frame ≡ 200 → length (state_with phase status size frame) ≡ 4096
unfolding state_with
state_whole phase status size frame whole =
    length-append (before_frame phase status size) (frame ++ replicate 1848 0) ∙ ap (λ n. n + length (frame ++ replicate 1848 0)) (before_size phase status size)
    ∙ ap (λ n. 2048 + n) (length-append frame (replicate 1848 0) ∙ ap (λ n. n + length (replicate {A = ℕ} 1848 0)) whole ∙ ap (λ n. 200 + n) (length-replicate {A = ℕ} 1848 0))

pub state_frame : (phase status size : ℕ) (frame : List ℕ) → length frame ≡ 200 → take 200 (drop 2048 (state_with phase status size frame)) ≡ frame
unfolding state_with
state_frame phase status size frame whole =
    ap (take 200) (drop_at (before_frame phase status size) (frame ++ replicate 1848 0) 2048 (before_size phase status size)) ∙ take_at frame (replicate 1848 0) 200 whole

pub state_phase : (phase status size : ℕ) (frame : List ℕ) → number_at (state_with phase status size frame) 0 8 ≡ phase
unfolding state_with
state_phase phase status size frame = omega arith

pub state_more : (phase status size : ℕ) (frame : List ℕ) → number_at (state_with phase status size frame) 8 8 ≡ 0
unfolding state_with
state_more phase status size frame = refl

pub state_size : (phase status size : ℕ) (frame : List ℕ) → number_at (state_with phase status size frame) 24 8 ≡ size
unfolding state_with
state_size phase status size frame = omega arith

pub state_status : (phase status size : ℕ) (frame : List ℕ) → number_at (state_with phase status size frame) 16 8 ≡ status
unfolding state_with
state_status phase status size frame = omega arith

pub state_first : (phase status size : ℕ) (frame : List ℕ) → number_at (state_with phase status size frame) 1024 2 ≡ 0
unfolding state_with
state_first phase status size frame = refl

-- the clusters of a queue that is empty, or has cluster 0 alone
abbrev pub none_in : List ℕ
none_in = []

pub no_clusters : (bytes : List ℕ) (i c : ℕ) → slice_get none_in i ≡ Some c → number_at bytes (1024 + 2 * i) 2 ≡ c
no_clusters bytes i c e = absurd (cc)

pub one_cluster : (phase status size : ℕ) (frame : List ℕ) (i c : ℕ) → slice_get (0 ∷ []) i ≡ Some c → number_at (state_with phase status size frame) (1024 + 2 * i) 2 ≡ c
one_cluster phase status size frame zero c e = let same : 0 ≡ c = cc in state_first phase status size frame ∙ same
one_cluster phase status size frame (suc i) c e = absurd (cc)
