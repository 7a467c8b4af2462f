-- Blocks of one more chunk, and of one more page.
use Rattle.std.proofs.Common.{◌≡◌, ℕ, zero, suc, ◌+◌, ◌*◌, List, [], ◌∷◌, ◌++◌, length, ap, sym, ◌∙◌, append_assoc, arith, add-one, add-zero, zero-add}
use Rattle.std.proofs.lemmas.List.{flat_map_more}
use Rattle.std.specs.List.{flat_map, range_with_len, enumerate_from}
use Rattle.ak_measure.specs.Blocks.{create_block, blocks_of, add_block, extend_block, chunk_at, chunk_blocks, page_blocks}

-- one more number
pub range_with_len-more : (a n : ℕ) → range_with_len a (suc n) ≡ range_with_len a n ++ (a + n) ∷ []
range_with_len-more a zero = rw (add-zero a)
range_with_len-more a (suc n) =
    let same : a + 1 + n ≡ a + suc n = omega arith in
    ap (λ ns. a ∷ ns) (range_with_len-more (a + 1) n ∙ ap (λ m. range_with_len (a + 1) n ++ m ∷ []) same)

-- one more item with its place
pub enumerate_from-more : {X : Type 0} (a : ℕ) (xs : List X) (x : X) → enumerate_from a (xs ++ x ∷ []) ≡ enumerate_from a xs ++ (a + length xs, x) ∷ []
enumerate_from-more a [] x = rw (add-zero a)
enumerate_from-more {X} a (y ∷ xs) x =
    let same : a + 1 + length xs ≡ a + suc (length xs) = omega arith in
    ap (λ ns. (a, y) ∷ ns) (enumerate_from-more (a + 1) xs x ∙ ap (λ m. enumerate_from (a + 1) xs ++ (m, x) ∷ []) same)

regrouped : (a b c d e : List ℕ) → (a ++ (b ++ c)) ++ d ++ e ≡ a ++ ((b ++ c) ++ (d ++ e))
regrouped a b c d e = simp append_assoc

-- one more chunk, after the block of EADD and some chunks
pub chunks-more : (bytes : List ℕ) (offset secinfo : ℕ) (page : List ℕ) (j : ℕ)
    → (bytes ++ (add_block offset secinfo ++ flat_map (chunk_blocks offset page) (range_with_len 0 j))) ++ extend_block (offset + 256 * j) ++ chunk_at j page
    ≡ bytes ++ (add_block offset secinfo ++ flat_map (chunk_blocks offset page) (range_with_len 0 (j + 1)))
chunks-more bytes offset secinfo page j =
    let f : ℕ → List ℕ = chunk_blocks offset page in
    let block : List ℕ = add_block offset secinfo in
    let numbers : List ℕ = range_with_len 0 j in
    let longer : range_with_len 0 (j + 1) ≡ numbers ++ j ∷ [] =
    ap (range_with_len 0) (add-one j) ∙ (range_with_len-more 0 j ∙ ap (λ n. numbers ++ n ∷ []) (zero-add j)) in
    regrouped bytes block (flat_map f numbers) (extend_block (offset + 256 * j)) (chunk_at j page)
    ∙ ap (λ rest. bytes ++ rest) (flat_map_more f block numbers j ∙ ap (λ ns. block ++ flat_map f ns) (sym longer))

-- one more page, after some pages
pub blocks_of-more : (size : ℕ) (pages : List (ℕ × List ℕ)) (page : ℕ × List ℕ)
    → blocks_of size (pages ++ page ∷ []) ≡ blocks_of size pages ++ page_blocks (4096 * length pages) page.0 page.1
blocks_of-more size pages page =
    let f : ℕ × (ℕ × List ℕ) → List ℕ = λ p. page_blocks (4096 * p.0) p.1.0 p.1.1 in
    ap (λ ps. create_block size ++ flat_map f ps) (enumerate_from-more 0 pages page ∙ ap (λ n. enumerate_from 0 pages ++ (n, page) ∷ []) (zero-add (length pages)))
    ∙ sym (flat_map_more f (create_block size) (enumerate_from 0 pages) (length pages, page))
