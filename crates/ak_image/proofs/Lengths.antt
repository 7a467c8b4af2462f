-- How many bytes a built page has.
use Rattle.std.proofs.Common.{◌≡◌, ℕ, ◌+◌, ◌-◌, ◌*◌, ◌<◌, ◌≤◌, ◌==◌, nat_lt, List, length, drop, ◌++◌, refl, ap, ◌∙◌, inl, inr, arith, length-append, length-take, length-drop}
use Rattle.std.specs.List.{zip}
use Rattle.std.proofs.lemmas.Bool.{cases_Bool}
use Rattle.std.proofs.lemmas.Bool.Decides.{nat_tests}
use Rattle.std.proofs.lemmas.List.{length-replicate}
use Rattle.std.proofs.lemmas.Slice.Zip.{length-zip}
use Rattle.byteorder.specs.Endian.{little_bytes}
use Rattle.ak_core.specs.declared.page.Perm.{Perm}
use Rattle.ak_measure.specs.Blocks.{zeros}
use Rattle.ak_image.specs.Built.{program_page, tcs_page, code_table, code_page, page_bytes, pages_of}
use Rattle.ak_image.specs.Image.{Image, IsWhole}
use Rattle.ak_image.proofs.Filling.{table_length}

length-tcs_page : (n : ℕ) → length (tcs_page n) ≡ 4096
unfolding tcs_page
length-tcs_page n = refl

six_parts : (a b c d e f : List ℕ) (n : ℕ) → length a ≡ 1024 → length b ≡ 4 * n → length c ≡ 2048 - 4 * n → length d ≡ 4 → length e ≡ 4 → length f ≡ 1016 → n ≤ 512
    → length (a ++ b ++ c ++ d ++ e ++ f) ≡ 4096
six_parts a b c d e f n la lb lc ld le lf few = simp length-append (omega arith)

length-code_page : (cluster_of : List ℕ) (perms : List Perm) (budget entry : ℕ) → length cluster_of ≡ length perms → length perms ≤ 512
    → length (code_page cluster_of perms budget entry) ≡ 4096
unfolding code_page
length-code_page cluster_of perms budget entry each few =
    let n = length perms in
    let pairs : length (zip cluster_of perms) ≡ n = omega (arith, length-zip cluster_of perms) in
    six_parts (zeros 1024) (code_table cluster_of perms) (zeros (2048 - 4 * n)) (little_bytes 4 budget) (little_bytes 4 entry) (zeros 1016) n
    (length-replicate {A = ℕ} 1024 0) (table_length (zip cluster_of perms) ∙ ap (λ (k : ℕ). 4 * k) pairs) (length-replicate {A = ℕ} (2048 - 4 * n) 0) refl refl (length-replicate {A = ℕ} 1016 0) few

length-program_page : (image : Image) (p : ℕ) → length image.bytes ≡ 4096 * length image.perms → p < length image.perms → length (program_page image p) ≡ 4096
length-program_page image p whole within =
    omega (arith, length-take 4096 (drop (4096 * p) image.bytes), length-drop (4096 * p) image.bytes)

pub length-page_bytes : (image : Image) (p : ℕ) → IsWhole image → p < length image.perms + 6 → length (page_bytes image p) ≡ 4096
unfolding page_bytes
length-page_bytes image p whole within =
    elim (cases_Bool (nat_lt p (pages_of image))) [
      | inl t ↦ rw t (length-program_page image p whole.bytes (let below : p < length image.perms = grind (arith, nat_tests) in below))
      | inr f ↦ rw f (elim (cases_Bool (p == pages_of image)) [
        | inl t ↦ rw t (length-tcs_page (pages_of image))
        | inr g ↦ rw g (elim (cases_Bool (nat_lt p (pages_of image + 5))) [
          | inl t ↦ rw t (length-replicate {A = ℕ} 4096 0)
          | inr h ↦ rw h (length-code_page image.cluster_of image.perms image.budget image.entry whole.valid.clustered whole.valid.few_pages)
        ])
      ])
    ]
