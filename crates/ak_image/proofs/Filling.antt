-- Pages filled part by part.
use Rattle.std.proofs.Common.{◌≡◌, ℕ, ◌+◌, ◌-◌, ◌*◌, ◌<◌, ◌≤◌, List, [], ◌∷◌, ◌++◌, length, take, drop, get_or, refl, sym, ap, ap₂, ◌∙◌, arith, append_assoc, length-append, length-take}
use Rattle.std.specs.List.{flat_map, zip}
use Rattle.std.proofs.lemmas.List.{flat_map_more, take_more, take_all, drop-append-le, drop-replicate, length-replicate}
use Rattle.std.proofs.lemmas.Slice.Zip.{length-zip}
use Rattle.std.proofs.Math.Seq.{take-append_seam, drop-append-add}
use Rattle.byteorder.specs.Endian.{little_bytes}
use Rattle.ak_core.specs.declared.page.Perm.{Perm}
use Rattle.ak_measure.specs.Blocks.{zeros}
use Rattle.ak_image.specs.Built.{tcs_page, code_entry, code_page}

-- a page after a put
abbrev pub put_at : ℕ → List ℕ → List ℕ → List ℕ
put_at at bytes page = take at page ++ (bytes ++ drop (at + length bytes) page)

-- bytes put where zeros begin
pub put_at-zeros : (front bytes rest : List ℕ) (m at : ℕ) → at ≡ length front → length bytes ≤ m
    → put_at at bytes (front ++ (zeros m ++ rest)) ≡ (front ++ bytes) ++ (zeros (m - length bytes) ++ rest)
put_at-zeros front bytes rest m at place room =
    let k = length bytes in
    let fits : k ≤ length (zeros m) = omega (arith, length-replicate {A = ℕ} m 0) in
    let past : drop (length front + k) (front ++ (zeros m ++ rest)) ≡ zeros (m - k) ++ rest =
    drop-append-add front (zeros m ++ rest) k ∙ (drop-append-le k (zeros m) rest fits ∙ ap (λ (l : List ℕ). l ++ rest) (drop-replicate k m 0)) in
    rw place (ap₂ (λ (a b : List ℕ). a ++ (bytes ++ b)) (take-append_seam front (zeros m ++ rest)) past ∙ sym (append_assoc front bytes (zeros (m - k) ++ rest)))

-- ---- The TCS

-- its first 40 bytes
abbrev pub head_of : ℕ → List ℕ
head_of n = zeros 16 ++ little_bytes 8 (4096 * (n + 1)) ++ little_bytes 4 0 ++ little_bytes 4 3 ++ little_bytes 8 (4096 * (n + 5))

pub tcs_page-filled : (n : ℕ) (page : List ℕ) → page ≡ zeros 4096 → put_at 0 (head_of n) page ≡ tcs_page n
unfolding tcs_page
tcs_page-filled n page zeroed = ap (put_at 0 (head_of n)) zeroed

-- ---- CODE

-- what CODE says of a page
abbrev pub entry_of : ℕ × Perm → List ℕ
entry_of e = code_entry e.0 e.1

pub table_length : (es : List (ℕ × Perm)) → length (flat_map entry_of es) ≡ 4 * length es
table_length [] = refl
table_length (e ∷ es) = omega (arith, table_length es)

-- CODE after what it says of the first i pages, where the limits and what follows them stand already
abbrev pub code_so_far : List (ℕ × Perm) → ℕ → List ℕ → List ℕ
code_so_far es i rest = (zeros 1024 ++ flat_map entry_of (take i es)) ++ (zeros (2048 - 4 * i) ++ rest)

pub code-begun : (es : List (ℕ × Perm)) (limits page : List ℕ) → length limits ≡ 8 → page ≡ zeros 4096 → put_at 3072 limits page ≡ code_so_far es 0 (limits ++ zeros 1016)
code-begun es limits page eight zeroed =
    ap (put_at 3072 limits) zeroed ∙ ap (λ (k : ℕ). zeros 3072 ++ (limits ++ drop (3072 + k) (zeros 4096))) eight

pub code-more : (es : List (ℕ × Perm)) (i : ℕ) (d : ℕ × Perm) (rest page : List ℕ) → i < length es → length es ≤ 512 → page ≡ code_so_far es i rest
    → put_at (1024 + 4 * i) (entry_of (get_or es i d)) page ≡ code_so_far es (i + 1) rest
code-more es i d rest page within few so_far =
    let front = zeros 1024 ++ flat_map entry_of (take i es) in
    let bytes = entry_of (get_or es i d) in
    let place : 1024 + 4 * i ≡ length front =
    ap (λ (k : ℕ). 1024 + k) (sym (table_length (take i es) ∙ ap (λ (k : ℕ). 4 * k) (let e : length (take i es) ≡ i = omega (arith, length-take i es) in e))) ∙ sym (length-append (zeros 1024) (flat_map entry_of (take i es))) in
    let longer : front ++ bytes ≡ zeros 1024 ++ flat_map entry_of (take (i + 1) es) =
    flat_map_more entry_of (zeros 1024) (take i es) (get_or es i d) ∙ ap (λ (l : List (ℕ × Perm)). zeros 1024 ++ flat_map entry_of l) (sym (take_more es i d within)) in
    let fewer : 2048 - 4 * i - 4 ≡ 2048 - 4 * (i + 1) = omega arith in
    ap (put_at (1024 + 4 * i) bytes) so_far
    ∙ (put_at-zeros front bytes rest (2048 - 4 * i) (1024 + 4 * i) place (let room : 4 ≤ 2048 - 4 * i = omega arith in room)
    ∙ ap₂ (λ (l : List ℕ) (k : ℕ). l ++ (zeros k ++ rest)) longer fewer)

joined : (a t z b e w : List ℕ) → (a ++ t) ++ (z ++ ((b ++ e) ++ w)) ≡ a ++ t ++ z ++ b ++ e ++ w
joined a t z b e w = simp append_assoc

pub code-filled : (cluster_of : List ℕ) (perms : List Perm) (budget entry i : ℕ) (page : List ℕ) → length cluster_of ≡ length perms → i ≡ length perms
    → page ≡ code_so_far (zip cluster_of perms) i ((little_bytes 4 budget ++ little_bytes 4 entry) ++ zeros 1016) → page ≡ code_page cluster_of perms budget entry
unfolding code_page
code-filled cluster_of perms budget entry i page each all so_far =
    let es = zip cluster_of perms in
    let whole : take i es ≡ es = take_all i es (omega (arith, length-zip cluster_of perms)) in
    so_far
    ∙ (ap₂ (λ (l : List (ℕ × Perm)) (k : ℕ). (zeros 1024 ++ flat_map entry_of l) ++ (zeros (2048 - 4 * k) ++ ((little_bytes 4 budget ++ little_bytes 4 entry) ++ zeros 1016))) whole all
    ∙ joined (zeros 1024) (flat_map entry_of es) (zeros (2048 - 4 * length perms)) (little_bytes 4 budget) (little_bytes 4 entry) (zeros 1016))
