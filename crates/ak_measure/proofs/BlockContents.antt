-- The blocks of an enclave tell its size, and the flags and bytes of each page.
use Rattle.std.proofs.Common.{◌≡◌, ℕ, zero, suc, ◌+◌, ◌*◌, ◌^◌, ◌<◌, ◌≤◌, List, [], ◌∷◌, ◌++◌, length, take, drop, ◌-◌, length-append, refl, ap, ap₂, sym, ◌∙◌, arith}
use Rattle.std.proofs.lemmas.List.{append_cancel_left, drop-drop, take_all, take_at, drop_at}
use Rattle.std.proofs.Math.Seq.{take-add}
use Rattle.std.specs.List.{flat_map, range_with_len, enumerate_from, AllByRecursion}
use Rattle.byteorder.specs.Endian.{little_bytes, little_from}
use Rattle.byteorder.specs.Numbers.{little_number-reads_back}
use Rattle.ak_measure.specs.Blocks.{create_block, add_block, extend_block, chunk_at, chunk_blocks, page_blocks, blocks_of, IsWhole}
use Rattle.ak_measure.proofs.BlockLengths.{length-create_block, length-add_block, length-extend_block, length-chunk_at, length-page_blocks}

-- two lists that are the same, cut at the same place
pub cut : (a b x y : List ℕ) (n : ℕ) → length a ≡ n → length b ≡ n → a ++ x ≡ b ++ y → (a ≡ b) × (x ≡ y)
cut a b x y n of_a of_b same = (sym (take_at a x n of_a) ∙ (ap (take n) same ∙ take_at b y n of_b), sym (drop_at a x n of_a) ∙ (ap (drop n) same ∙ drop_at b y n of_b))

-- the bytes of a number tell it
number_same : (x y : ℕ) → x < 2 ^ 64 → y < 2 ^ 64 → little_bytes 8 x ≡ little_bytes 8 y → x ≡ y
number_same x y of_x of_y same =
    sym (little_number-reads_back 8 x [] of_x) ∙ (ap (λ bytes. little_from 0 8 (bytes ++ [])) same ∙ little_number-reads_back 8 y [] of_y)

size_same : (x y : ℕ) → x < 2 ^ 64 → y < 2 ^ 64 → create_block x ≡ create_block y → x ≡ y
unfolding create_block
size_same x y of_x of_y same = number_same x y of_x of_y (ap (λ (block : List ℕ). take 8 (drop 12 block)) same)

flags_same : (offset x y : ℕ) → x < 2 ^ 64 → y < 2 ^ 64 → add_block offset x ≡ add_block offset y → x ≡ y
unfolding add_block
flags_same offset x y of_x of_y same = number_same x y of_x of_y (ap (λ (block : List ℕ). take 8 (drop 16 block)) same)

-- the bytes from a chunk on are that chunk and those after it
pieces : (page : List ℕ) (a n : ℕ) → take (256 * suc n) (drop (256 * a) page) ≡ chunk_at a page ++ take (256 * n) (drop (256 * (a + 1)) page)
pieces page a n =
    let all : 256 * suc n ≡ 256 + 256 * n = omega arith in
    let one : 256 * a + 256 - 256 * a ≡ 256 = omega arith in
    let next : 256 * a + 256 ≡ 256 * (a + 1) = omega arith in
    ap (λ (k : ℕ). take k (drop (256 * a) page)) all
    ∙ (take-add 256 (256 * n) (drop (256 * a) page)
    ∙ ap₂ (λ (x y : List ℕ). x ++ y) (ap (λ (k : ℕ). take k (drop (256 * a) page)) (sym one))
    (ap (take (256 * n)) (drop-drop 256 (256 * a) page ∙ ap (λ (k : ℕ). drop k page) next)))

length-chunk : (offset : ℕ) (page : List ℕ) (a : ℕ) → 256 * (a + 1) ≤ length page → length (chunk_blocks offset page a) ≡ 320
length-chunk offset page a inside =
    length-append (extend_block (offset + 256 * a)) (chunk_at a page) ∙ omega (arith, length-extend_block (offset + 256 * a), length-chunk_at a page (omega arith))

-- the chunks from one on tell the bytes from there on
chunks_same : (offset : ℕ) (page other : List ℕ) (a n : ℕ) → 256 * (a + n) ≤ length page → 256 * (a + n) ≤ length other
    → flat_map (chunk_blocks offset page) (range_with_len a n) ≡ flat_map (chunk_blocks offset other) (range_with_len a n)
    → take (256 * n) (drop (256 * a) page) ≡ take (256 * n) (drop (256 * a) other)
chunks_same offset page other a zero in_page in_other same = refl
chunks_same offset page other a (suc n) in_page in_other same =
    let (here, later) =
    cut (chunk_blocks offset page a) (chunk_blocks offset other a) (flat_map (chunk_blocks offset page) (range_with_len (a + 1) n)) (flat_map (chunk_blocks offset other) (range_with_len (a + 1) n)) 320
    (length-chunk offset page a (omega arith)) (length-chunk offset other a (omega arith)) same in
    pieces page a n
    ∙ (ap₂ (λ (x y : List ℕ). x ++ y) (append_cancel_left (extend_block (offset + 256 * a)) (chunk_at a page) (chunk_at a other) here)
    (chunks_same offset page other (a + 1) n (omega arith) (omega arith) later)
    ∙ sym (pieces other a n))

-- the blocks of a page tell its flags and its bytes
page_same : (offset : ℕ) (page other : ℕ × List ℕ) → IsWhole page → IsWhole other → page_blocks offset page.0 page.1 ≡ page_blocks offset other.0 other.1 → page ≡ other
page_same offset page other whole other_whole same =
    let (block, chunks) =
    cut (add_block offset page.0) (add_block offset other.0) (flat_map (chunk_blocks offset page.1) (range_with_len 0 16)) (flat_map (chunk_blocks offset other.1) (range_with_len 0 16)) 64
    (length-add_block offset page.0) (length-add_block offset other.0) same in
    let bytes : take 4096 page.1 ≡ take 4096 other.1 = chunks_same offset page.1 other.1 0 16 (omega arith) (omega arith) chunks in
    let pair : ℕ → List ℕ → ℕ × List ℕ = λ x y. (x, y) in
    ap₂ pair (flags_same offset page.0 other.0 whole.0 other_whole.0 block)
    (sym (take_all 4096 page.1 (omega arith)) ∙ (bytes ∙ take_all 4096 other.1 (omega arith)))

-- a page has blocks
no_page : (a : ℕ) (page : ℕ × List ℕ) (pages : List (ℕ × List ℕ)) → IsWhole page
    → length (page_blocks (4096 * a) page.0 page.1 ++ flat_map (λ p. page_blocks (4096 * p.0) p.1.0 p.1.1) (enumerate_from (a + 1) pages)) ≡ 0 → ⊥
no_page a page pages whole none =
    let all = length-append (page_blocks (4096 * a) page.0 page.1) (flat_map (λ p. page_blocks (4096 * p.0) p.1.0 p.1.1) (enumerate_from (a + 1) pages)) in
    omega (arith, all, length-page_blocks (4096 * a) page.0 page.1 whole.1)

-- the blocks of all pages tell the pages
pages_same : (a : ℕ) (pages others : List (ℕ × List ℕ)) → AllByRecursion IsWhole pages → AllByRecursion IsWhole others
    → flat_map (λ p. page_blocks (4096 * p.0) p.1.0 p.1.1) (enumerate_from a pages) ≡ flat_map (λ p. page_blocks (4096 * p.0) p.1.0 p.1.1) (enumerate_from a others)
    → pages ≡ others
pages_same a [] [] whole others_whole same = refl
pages_same a [] (other ∷ others) whole others_whole same = absurd (no_page a other others others_whole.0 (ap length (sym same)))
pages_same a (page ∷ pages) [] whole others_whole same = absurd (no_page a page pages whole.0 (ap length same))
pages_same a (page ∷ pages) (other ∷ others) whole others_whole same =
    let (here, later) =
    cut (page_blocks (4096 * a) page.0 page.1) (page_blocks (4096 * a) other.0 other.1) _ _ 5184
    (length-page_blocks (4096 * a) page.0 page.1 whole.0.1) (length-page_blocks (4096 * a) other.0 other.1 others_whole.0.1) same in
    ap₂ (λ (x : ℕ × List ℕ) (xs : List (ℕ × List ℕ)). x ∷ xs) (page_same (4096 * a) page other whole.0 others_whole.0 here)
    (pages_same (a + 1) pages others whole.1 others_whole.1 later)

pub same_enclave : (size other_size : ℕ) (pages others : List (ℕ × List ℕ)) → size < 2 ^ 64 → other_size < 2 ^ 64 → AllByRecursion IsWhole pages → AllByRecursion IsWhole others
    → blocks_of size pages ≡ blocks_of other_size others → (size ≡ other_size) × (pages ≡ others)
same_enclave size other_size pages others fits other_fits whole others_whole same =
    let (block, rest) = cut (create_block size) (create_block other_size) _ _ 64 (length-create_block size) (length-create_block other_size) same in
    (size_same size other_size fits other_fits block, pages_same 0 pages others whole others_whole rest)
