-- Pages of zeros, and pages with few other bytes.
use Rattle.std.proofs.Common.{◌≡◌, ℕ, zero, suc, ◌+◌, ◌-◌, ◌*◌, List, ◌∷◌, ◌++◌, length, take, drop, refl, ap, sym, ◌∙◌, arith}
use Rattle.std.proofs.lemmas.List.{length-replicate, drop-replicate, length-append, drop_at, take_all}
use Rattle.std.specs.Prelude.{false, replicate, ◌==◌}
use Rattle.ak_model.specs.Flat.Instructions.{le_value, number_at}

-- a page of zeros
unfoldable pub blank : List ℕ
blank = replicate 4096 0

zero_value : (n k : ℕ) → le_value (take n (replicate k 0)) ≡ 0
zero_value zero k = refl
zero_value (suc n) zero = refl
zero_value (suc n) (suc k) = let h = zero_value n k in omega arith

-- each number among zeros is 0
pub zero_at : (k place count : ℕ) → number_at (replicate k 0) place count ≡ 0
zero_at k place count = ap (λ bytes. le_value (take count bytes)) (drop-replicate place k 0) ∙ zero_value count (k - place)

pub blank_at : (place count : ℕ) → number_at blank place count ≡ 0
unfolding blank
blank_at place count = zero_at 4096 place count

pub blank_whole : length blank ≡ 4096
unfolding blank
blank_whole = length-replicate {A = ℕ} 4096 0

-- a VA page with the first version in its first slot
unfoldable pub one_slot : List ℕ
one_slot = 1 ∷ replicate 4095 0

pub one_slot_whole : length one_slot ≡ 4096
unfolding one_slot
one_slot_whole = ap suc (length-replicate {A = ℕ} 4095 0)

pub first_slot : number_at one_slot 0 8 ≡ 1
unfolding one_slot
first_slot = refl

pub other_slots : (j : ℕ) → number_at one_slot (8 * suc j) 8 ≡ 0
unfolding one_slot
other_slots j =
    let e : 8 * suc j ≡ suc (7 + 8 * j) = omega arith in
    ap (λ place. number_at (1 ∷ replicate 4095 0) place 8) e ∙ zero_at 4095 (7 + 8 * j) 8

-- ---- Pages with a few other bytes

-- a TCS with one context saved, and nothing refused
unfoldable pub one_saved : List ℕ
one_saved = replicate 24 0 ++ 1 ∷ replicate 4071 0

pub one_saved_whole : length one_saved ≡ 4096
unfolding one_saved
one_saved_whole = ap (λ n. 25 + n) (length-replicate {A = ℕ} 4071 0)

pub one_saved_at : number_at one_saved 24 4 ≡ 1
unfolding one_saved
one_saved_at = refl

pub none_refused : number_at one_saved 72 1 ≡ 0
unfolding one_saved
none_refused = refl

-- an area that ends with these 200 bytes
pub area_with : List ℕ → List ℕ
area_with frame = replicate 3896 0 ++ frame

pub area_whole : (frame : List ℕ) → length frame ≡ 200 → length (area_with frame) ≡ 4096
unfolding area_with
area_whole frame size =
    length-append (replicate 3896 0) frame ∙ ap (λ n. n + length frame) (length-replicate {A = ℕ} 3896 0) ∙ ap (λ n. 3896 + n) size

pub area_has : (frame : List ℕ) → length frame ≡ 200 → take 200 (drop 3896 (area_with frame)) ≡ frame
unfolding area_with
area_has frame size =
    ap (take 200) (drop_at (replicate 3896 0) frame 3896 (length-replicate {A = ℕ} 3896 0)) ∙ take_all 200 frame (omega arith)

-- a VA page with versions in its first two slots
unfoldable pub two_slots : List ℕ
two_slots = 1 ∷ 0 ∷ 0 ∷ 0 ∷ 0 ∷ 0 ∷ 0 ∷ 0 ∷ 2 ∷ replicate 4087 0

pub two_slots_whole : length two_slots ≡ 4096
unfolding two_slots
two_slots_whole = ap (λ n. 9 + n) (length-replicate {A = ℕ} 4087 0)

pub second_slot : number_at two_slots 8 8 ≡ 2
unfolding two_slots
second_slot = refl

-- all slots but the second are those of the other page
pub other_than_second : (j : ℕ) → (j == 1) ≡ false → number_at two_slots (8 * j) 8 ≡ number_at one_slot (8 * j) 8
unfolding one_slot two_slots
other_than_second zero other = refl
other_than_second (suc zero) other = absurd (cc)
other_than_second (suc (suc j)) other =
    let e : 8 * suc (suc j) ≡ suc (suc (suc (suc (suc (suc (suc (suc (suc (7 + 8 * j))))))))) = omega arith in
    ap (λ place. number_at (1 ∷ 0 ∷ 0 ∷ 0 ∷ 0 ∷ 0 ∷ 0 ∷ 0 ∷ 2 ∷ replicate 4087 0) place 8) e ∙ zero_at 4087 (7 + 8 * j) 8
    ∙ sym (other_slots (suc j))

-- the page with the first version, as STATE: it has phase 1, no queue, and a blank frame
pub slot_number : number_at one_slot 0 8 ≡ 1
slot_number = first_slot

later_number : (place count : ℕ) → number_at one_slot (suc place) count ≡ 0
unfolding one_slot
later_number place count = zero_at 4095 place count

same_drop : take 200 (drop 2048 one_slot) ≡ take 200 (drop 2048 blank)
unfolding one_slot blank
same_drop = ap (take 200) (drop-replicate 2047 4095 0 ∙ sym (drop-replicate 2048 4096 0))

pub same_kept : (number_at one_slot 24 8 ≡ 0) × ((i : ℕ) → number_at one_slot (1024 + 2 * i) 2 ≡ 0) × (take 200 (drop 2048 one_slot) ≡ take 200 (drop 2048 blank))
same_kept = (later_number 23 8, clusters, same_drop)
  where
    clusters : (i : ℕ) → number_at one_slot (1024 + 2 * i) 2 ≡ 0
    clusters i =
        let e : 1024 + 2 * i ≡ suc (1023 + 2 * i) = omega arith in
        ap (λ place. number_at one_slot place 2) e ∙ later_number (1023 + 2 * i) 2

-- a TCS with one context saved, that refuses to be resumed
unfoldable pub one_refused : List ℕ
one_refused = replicate 24 0 ++ (1 ∷ replicate 47 0 ++ (1 ∷ replicate 4023 0))

pub one_refused_whole : length one_refused ≡ 4096
unfolding one_refused
one_refused_whole = ap (λ n. 73 + n) (length-replicate {A = ℕ} 4023 0)

pub refused_saved : number_at one_refused 24 4 ≡ 1
unfolding one_refused
refused_saved = refl

pub refused_flag : number_at one_refused 72 1 ≡ 1
unfolding one_refused
refused_flag = refl

-- a TCS with two contexts saved, that refuses to be resumed
unfoldable pub two_refused : List ℕ
two_refused = replicate 24 0 ++ (2 ∷ replicate 47 0 ++ (1 ∷ replicate 4023 0))

pub two_refused_whole : length two_refused ≡ 4096
unfolding two_refused
two_refused_whole = ap (λ n. 73 + n) (length-replicate {A = ℕ} 4023 0)

pub two_refused_saved : number_at two_refused 24 4 ≡ 2
unfolding two_refused
two_refused_saved = refl

pub two_refused_flag : number_at two_refused 72 1 ≡ 1
unfolding two_refused
two_refused_flag = refl
