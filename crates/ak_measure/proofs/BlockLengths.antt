-- How many bytes the blocks of an enclave have.
use Rattle.std.proofs.Common.{◌≡◌, ◌≤◌, ℕ, zero, suc, ◌+◌, ◌*◌, List, [], ◌∷◌, length, refl, ◌∙◌, arith, length-append, length-take, length-drop}
use Rattle.std.specs.List.{flat_map, range_with_len, enumerate_from, AllByRecursion}
use Rattle.ak_measure.specs.Blocks.{create_block, add_block, extend_block, chunk_at, chunk_blocks, page_blocks, blocks_of}

-- a block has 64 bytes
pub length-create_block : (size : ℕ) → length (create_block size) ≡ 64
unfolding create_block
length-create_block size = refl

pub length-add_block : (offset secinfo : ℕ) → length (add_block offset secinfo) ≡ 64
unfolding add_block
length-add_block offset secinfo = refl

pub length-extend_block : (offset : ℕ) → length (extend_block offset) ≡ 64
unfolding extend_block
length-extend_block offset = refl

-- a chunk inside the page has 256 bytes
pub length-chunk_at : (j : ℕ) (page : List ℕ) → 256 * j + 256 ≤ length page → length (chunk_at j page) ≡ 256
length-chunk_at j page inside = simp (length-take, length-drop) (omega arith)

-- some chunks inside the page
length-chunks : (offset : ℕ) (page : List ℕ) (a n : ℕ) → 256 * (a + n) ≤ length page
    → length (flat_map (chunk_blocks offset page) (range_with_len a n)) ≡ 320 * n
length-chunks offset page a zero inside = refl
length-chunks offset page a (suc n) inside =
    let here : length (chunk_at a page) ≡ 256 = length-chunk_at a page (omega arith) in
    let rest : length (flat_map (chunk_blocks offset page) (range_with_len (a + 1) n)) ≡ 320 * n = length-chunks offset page (a + 1) n (omega arith) in
    simp (length-append, length-extend_block, here, rest) (omega arith)

-- a page
pub length-page_blocks : (offset secinfo : ℕ) (page : List ℕ) → length page ≡ 4096 → length (page_blocks offset secinfo page) ≡ 5184
length-page_blocks offset secinfo page whole =
    length-append (add_block offset secinfo) _ ∙ omega (arith, length-add_block offset secinfo, length-chunks offset page 0 16 (omega arith))

-- some pages
length-pages : (a : ℕ) (pages : List (ℕ × List ℕ)) → AllByRecursion (λ p. length p.1 ≡ 4096) pages
    → length (flat_map (λ p. page_blocks (4096 * p.0) p.1.0 p.1.1) (enumerate_from a pages)) ≡ 5184 * length pages
length-pages a [] whole = refl
length-pages a (page ∷ pages) whole =
    length-append (page_blocks (4096 * a) page.0 page.1) _
    ∙ omega (arith, length-page_blocks (4096 * a) page.0 page.1 whole.0, length-pages (a + 1) pages whole.1)

-- an enclave
pub length-blocks_of : (size : ℕ) (pages : List (ℕ × List ℕ)) → AllByRecursion (λ p. length p.1 ≡ 4096) pages
    → length (blocks_of size pages) ≡ 64 + 5184 * length pages
length-blocks_of size pages whole =
    length-append (create_block size) _ ∙ omega (arith, length-create_block size, length-pages 0 pages whole)
