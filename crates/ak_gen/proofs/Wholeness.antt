-- Generated images are whole.
use Rattle.std.proofs.Common.{◌≡◌, ℕ, ◌+◌, ◌*◌, ◌≤◌, ◌%◌, ◌^◌, List, ◌++◌, length, Option, Some, unwrap_or, codes, refl, sym, ap, subst, ◌∙◌, arith, lit≤, length-append}
use Rattle.std.proofs.lemmas.List.FromFn.{length-map-range_with_len}
use Rattle.ak_core.specs.Layout.{numbers_from, four_largest, enclave_size}
use Rattle.ak_core.specs.declared.page.Perm.{Perm}
use Rattle.ak_image.specs.Image.{Image, IsWhole, from_parts}
use Rattle.ak_gen.specs.Generated.{each_page, perm_of, cluster_of, generated}
use Rattle.ak_gen.specs.Numbers.{all_words, word_bytes}
use Rattle.ak_gen.specs.Program.{first_page}
use Rattle.ak_gen.proofs.Words.{length-word_bytes}

length-each_page : {A : Type 0} (of : ℕ → A) (pages : ℕ) → length (each_page of pages) ≡ pages
unfolding each_page
length-each_page of pages = length-map-range_with_len of 0 pages

-- the clusters are numbered from 0, and there are 64
numbered : numbers_from (each_page cluster_of 512) 0 ≡ Some 64
unfolding each_page
numbered = refl

-- the four largest have 32 pages
four : four_largest 64 (each_page cluster_of 512) ≡ 32
unfolding each_page
four = refl

size : enclave_size 512 ≡ 4194304
unfolding enclave_size
size = refl

pub length-first_page : length first_page ≡ 4096
unfolding first_page
length-first_page = refl

length-bytes : (number : ℕ) → length (first_page ++ word_bytes all_words number) ≡ 4096 * 512
length-bytes number =
    let words : length (word_bytes all_words number) ≡ 8 * all_words = length-word_bytes all_words number in
    omega (arith, length-append first_page (word_bytes all_words number), length-first_page)

perms_length : length (each_page perm_of 512) ≡ 512
perms_length = length-each_page perm_of 512

aligned : (pages : ℕ) → pages ≡ 512 → 0x40000000 % enclave_size pages ≡ 0
aligned pages is = ap (λ (n : ℕ). 0x40000000 % enclave_size n) is ∙ ap (λ (n : ℕ). 0x40000000 % n) size

low : (pages : ℕ) → pages ≡ 512 → 0x40000000 + enclave_size pages ≤ 2 ^ 47
low pages is =
    let e : enclave_size pages ≡ 4194304 = ap enclave_size is ∙ size in
    let fits : 0x40000000 + 4194304 ≤ 2 ^ 47 = lit≤ tt in
    omega arith

pub generated-whole : (number : ℕ) → IsWhole (generated number)
generated-whole number =
    let pages : length (each_page perm_of 512) ≡ 512 = perms_length in
    let sizes : four_largest 64 (each_page cluster_of 512) ≡ 32 = four in
    let all : length (first_page ++ word_bytes all_words number) ≡ 4096 * 512 = length-bytes number in
    record {
      valid = record {
        clustered = length-each_page cluster_of 512 ∙ sym perms_length;
        numbered = numbered;
        some_page = omega arith;
        few_pages = omega arith;
        aligned = aligned (length (each_page perm_of 512)) perms_length;
        low = low (length (each_page perm_of 512)) perms_length;
        entered = omega arith;
        large_budget = omega arith;
        small_budget = lit≤ tt;
        some_frames = lit≤ tt;
        few_frames = lit≤ tt;
        some_lp = lit≤ tt;
        few_lps = lit≤ tt;
      };
      bytes = omega arith;
    }

with_clusters : ℕ → ℕ → Image
with_clusters number clusters = record {
  base = 0x40000000;
  entry = 0;
  perms = each_page perm_of 512;
  cluster_of = each_page cluster_of 512;
  clusters = clusters;
  budget = 128;
  signer = codes "demo";
  bytes = first_page ++ word_bytes all_words number;
}

-- the image of the generator's parts
generated-from_parts : (number : ℕ) → from_parts 0x40000000 0 128 (codes "demo") (each_page perm_of 512) (each_page cluster_of 512) (first_page ++ word_bytes all_words number) ≡ generated number
unfolding with_clusters
generated-from_parts number = ap (λ (o : Option ℕ). with_clusters number (unwrap_or o 0)) numbered

pub generated-parts : (number : ℕ) (perms : List Perm) (clusters bytes : List ℕ) → perms ≡ each_page perm_of 512 → clusters ≡ each_page cluster_of 512
    → bytes ≡ first_page ++ word_bytes all_words number → from_parts 0x40000000 0 128 (codes "demo") perms clusters bytes ≡ generated number
generated-parts number perms clusters bytes p c b =
    ap (λ ps. from_parts 0x40000000 0 128 (codes "demo") ps clusters bytes) p
    ∙ (ap (λ cs. from_parts 0x40000000 0 128 (codes "demo") (each_page perm_of 512) cs bytes) c
    ∙ (ap (λ bs. from_parts 0x40000000 0 128 (codes "demo") (each_page perm_of 512) (each_page cluster_of 512) bs) b ∙ generated-from_parts number))

pub parts-whole : (number : ℕ) (perms : List Perm) (clusters bytes : List ℕ) → perms ≡ each_page perm_of 512 → clusters ≡ each_page cluster_of 512
    → bytes ≡ first_page ++ word_bytes all_words number → IsWhole (from_parts 0x40000000 0 128 (codes "demo") perms clusters bytes)
parts-whole number perms clusters bytes p c b = subst IsWhole (sym (generated-parts number perms clusters bytes p c b)) (generated-whole number)
