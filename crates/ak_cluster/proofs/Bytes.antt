-- Bytes in place of others, and the queue that was put into them.
use Rattle.std.proofs.Common.{◌≡◌, ℕ, zero, suc, ◌+◌, ◌-◌, ◌*◌, ◌<◌, ◌≤◌, List, [], ◌∷◌, ◌++◌, length, take, drop, refl, ap, sym, ◌∙◌, subst, arith}
use Rattle.std.proofs.Math.ListN.{length-take, length-drop, get_or}
use Rattle.std.proofs.Math.Nat.{mod-add-div, div-lt_iff_lt-mul}
use Rattle.std.proofs.Math.Seq.{drop-append-add}
use Rattle.std.proofs.lemmas.List.{take-append-le, drop-append-le, drop-take, drop-drop, length-append, length-take-le}
use Rattle.std.proofs.lemmas.Grind.{same_number_lists}
use Rattle.std.proofs.lemmas.List.Elements.{All-get_or}
use Rattle.std.proofs.lemmas.Option.{slice_get-get_or, slice_get_within, get_or_from_slice_get}
use Rattle.std.specs.Prelude.{Some, ◌^◌, ◌/◌, ◌%◌, flat_map, slice_get}
use Rattle.byteorder.specs.Endian.{little_bytes}
use borrow.Rule.Slice.PartMut.{put_mid}
use Rattle.ak_core.specs.Mem.{put_at}
use Rattle.ak_model.specs.Flat.Instructions.{le_bytes, le_value, number_at}
use Rattle.ak_cluster.specs.QueueBytes.{IsQueue, HasQueue, KeepsOthers, with_queue}
use Rattle.ak_cluster.proofs.Queues.{few_clusters}

-- ---- Bytes in place of others

-- a write of a part
pub put_over : (xs ys zs : List ℕ) (a k : ℕ) → ys ≡ zs → length ys ≡ k → put_mid a k xs ys ≡ put_at xs a zs
put_over xs ys zs a k e n =
    let m : k ≡ length zs = sym n ∙ ap length e in
    ap (λ l. take a xs ++ (l ++ drop k (drop a xs))) e
    ∙ ap (λ (j : ℕ). take a xs ++ (zs ++ drop j (drop a xs))) m
    ∙ ap (λ l. take a xs ++ (zs ++ l)) (drop-drop (length zs) a xs)

length-put_at : (xs new : List ℕ) (a : ℕ) → a + length new ≤ length xs → length (put_at xs a new) ≡ length xs
length-put_at xs new a h = simp (length-append, length-take, length-drop) (omega arith)

take_take : (n m : ℕ) (xs : List ℕ) → n ≤ m → take n (take m xs) ≡ take n xs
take_take zero m xs h = refl
take_take (suc n) zero xs h = absurd (omega arith)
take_take (suc n) (suc m) [] h = refl
take_take (suc n) (suc m) (x ∷ xs) h = ap (λ l. x ∷ l) (take_take n m xs (omega arith))

-- a part of what was put
put_within : (xs new : List ℕ) (a b n : ℕ) → a ≤ length xs → b + n ≤ length new → take n (drop (a + b) (put_at xs a new)) ≡ take n (drop b new)
put_within xs new a b n h le =
    let front : length (take a xs) ≡ a = length-take-le a xs h in
    let rest = drop (a + length new) xs in
    let later : n ≤ length (drop b new) = omega (arith, length-drop b new) in
    ap (λ (k : ℕ). take n (drop (k + b) (put_at xs a new))) (sym front)
    ∙ ap (λ l. take n l) (drop-append-add (take a xs) (new ++ rest) b)
    ∙ ap (λ l. take n l) (drop-append-le b new rest (omega arith))
    ∙ take-append-le n (drop b new) rest later

-- a part before it
put_before : (xs new : List ℕ) (a b n : ℕ) → a ≤ length xs → b + n ≤ a → take n (drop b (put_at xs a new)) ≡ take n (drop b xs)
put_before xs new a b n h le =
    let front : length (take a xs) ≡ a = length-take-le a xs h in
    let rest = new ++ drop (a + length new) xs in
    let split : a ≡ b + (a - b) = omega arith in
    let later : n ≤ length (drop b (take a xs)) = omega (arith, length-drop b (take a xs)) in
    ap (λ l. take n l) (drop-append-le b (take a xs) rest (omega arith))
    ∙ take-append-le n (drop b (take a xs)) rest later
    ∙ ap (λ (k : ℕ). take n (drop b (take k xs))) split
    ∙ ap (λ l. take n l) (drop-take b (a - b) xs)
    ∙ take_take n (a - b) (drop b xs) (omega arith)

-- what stands after it
put_after : (xs new : List ℕ) (a d : ℕ) → a ≤ length xs → drop (a + (length new + d)) (put_at xs a new) ≡ drop (a + length new + d) xs
put_after xs new a d h =
    let front : length (take a xs) ≡ a = length-take-le a xs h in
    let rest = drop (a + length new) xs in
    ap (λ (k : ℕ). drop (k + (length new + d)) (put_at xs a new)) (sym front)
    ∙ drop-append-add (take a xs) (new ++ rest) (length new + d)
    ∙ drop-append-add new rest d
    ∙ drop-drop d (a + length new) xs

-- ---- Numbers of 2 bytes

pub flat_pairs : (xs : List ℕ) → flat_map (little_bytes 2) xs ≡ flat_map (le_bytes 2) xs
flat_pairs [] = refl
flat_pairs (x ∷ xs) = ap (λ l. le_bytes 2 x ++ l) (flat_pairs xs)

length-pairs : (xs : List ℕ) → length (flat_map (le_bytes 2) xs) ≡ 2 * length xs
length-pairs [] = refl
length-pairs (x ∷ xs) = omega (arith, length-pairs xs)

pair_at : (xs : List ℕ) (i c : ℕ) → slice_get xs i ≡ Some c → take 2 (drop (2 * i) (flat_map (le_bytes 2) xs)) ≡ le_bytes 2 c
pair_at [] i c h = cc
pair_at (x ∷ xs) zero c h = let same : x ≡ c = cc in ap (le_bytes 2) same
pair_at (x ∷ xs) (suc i) c h = let e : 2 * suc i ≡ suc (suc (2 * i)) = omega arith in rw e (pair_at xs i c h)

-- a number that fits so many bytes comes back from them
value_back : (n x : ℕ) → x < 256 ^ n → le_value (le_bytes n x) ≡ x
value_back zero x lt = omega arith
value_back (suc n) x lt =
    let small : x / 256 < 256 ^ n = (div-lt_iff_lt-mul (omega arith)).1 (omega arith) in
    ap (λ y. x % 256 + 256 * y) (value_back n (x / 256) small) ∙ mod-add-div x 256

-- ---- The queue

module _ (state queue : List ℕ) (page : length state ≡ 4096) (is_queue : IsQueue queue) where
  counted : List ℕ
  counted = put_at state 24 (le_bytes 8 (length queue))

  clusters : List ℕ
  clusters = flat_map (le_bytes 2) queue

  few : length queue ≤ 512
  few = few_clusters queue is_queue

  counted_page : length counted ≡ 4096
  unfolding counted
  counted_page = length-put_at state (le_bytes 8 (length queue)) 24 (omega arith) ∙ page

  size_back : number_at (with_queue state queue) 24 8 ≡ length queue
  unfolding counted
  size_back =
      ap le_value
      (put_before counted (flat_map (le_bytes 2) queue) 1024 24 8 (omega (arith, counted_page)) (omega arith)
      ∙ put_within state (le_bytes 8 (length queue)) 24 0 8 (omega arith) (omega arith))
      ∙ value_back 8 (length queue) (omega (arith, few))

  cluster_back : (i c : ℕ) → slice_get queue i ≡ Some c → number_at (with_queue state queue) (1024 + 2 * i) 2 ≡ c
  unfolding counted
  cluster_back i c h =
      let inside : i < length queue = slice_get_within queue i c h in
      let low : c < 512 = subst (λ x. x < 512) (get_or_from_slice_get queue i c 0 h) (All-get_or (λ x. x < 512) queue i 0 inside is_queue.known) in
      ap le_value
      (put_within counted (flat_map (le_bytes 2) queue) 1024 (2 * i) 2 (omega (arith, counted_page)) (omega (arith, length-pairs queue))
      ∙ pair_at queue i c h)
      ∙ value_back 2 c (omega arith)

  pub has_queue : HasQueue (with_queue state queue) queue
  has_queue = record { size = size_back; clusters = cluster_back }

  pub keeps_others : KeepsOthers state (with_queue state queue)
  unfolding counted
  keeps_others = record {
    before =
        put_before counted (flat_map (le_bytes 2) queue) 1024 0 24 (omega (arith, counted_page)) (omega arith)
        ∙ put_before state (le_bytes 8 (length queue)) 24 0 24 (omega arith) (omega arith);
    between =
        put_before counted (flat_map (le_bytes 2) queue) 1024 32 992 (omega (arith, counted_page)) (omega arith)
        ∙ ap (λ l. take 992 l) (put_after state (le_bytes 8 (length queue)) 24 0 (omega arith));
    after =
        let d = 1024 - 2 * length queue in
        let e : 2048 ≡ 1024 + (length (flat_map (le_bytes 2) queue) + d) = omega (arith, length-pairs queue, few) in
        let f : 1024 + length (flat_map (le_bytes 2) queue) + d ≡ 2048 = omega (arith, length-pairs queue, few) in
        ap (λ (k : ℕ). drop k (with_queue state queue)) e
        ∙ put_after counted (flat_map (le_bytes 2) queue) 1024 d (omega (arith, counted_page))
        ∙ ap (λ (k : ℕ). drop k counted) f
        ∙ put_after state (le_bytes 8 (length queue)) 24 2016 (omega arith);
  }

-- the bytes say one queue at most
pub one_queue : (state items queue : List ℕ) → length items ≡ number_at state 24 8 →
    ((k : ℕ) → k < length items → get_or items k 0 ≡ number_at state (1024 + 2 * k) 2) → HasQueue state queue → items ≡ queue
one_queue state items queue size at has =
    let same : length items ≡ length queue = size ∙ has.size in
    same_number_lists items queue same
    (λ k lt. at k lt ∙ has.clusters k (get_or queue k 0) (slice_get-get_or queue k 0 (omega arith)))
