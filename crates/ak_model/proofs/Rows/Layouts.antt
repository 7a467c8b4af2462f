-- Which layouts are valid, at the edges of what they may have.
use Rattle.std.proofs.Common.{◌≡◌, ◌<◌, ◌≤◌, zero, suc, [], ◌∷◌, arith, refl}
use Rattle.std.specs.Prelude.{map, replicate, Some, None}
use Rattle.ak_core.specs.Layout.{IsValid, numbers_from, largest_first, sizes, enclave_size}
use Rattle.ak_core.specs.declared.page.Perm.TheVariants.{R}
use Rattle.ak_model.proofs.Rows.Samples.{layout_of, image_a, image_j}

-- ---- Sizes and numbers

-- the smallest power of two with room for the program's pages and six more
enclave_sizes : map enclave_size (1 ∷ 2 ∷ 3 ∷ 10 ∷ 11 ∷ 512 ∷ []) ≡ 32768 ∷ 32768 ∷ 65536 ∷ 65536 ∷ 131072 ∷ 4194304 ∷ []
unfolding enclave_size
enclave_sizes = refl

-- clusters numbered by first appearance, and not
numbered : map (λ clusters. numbers_from clusters 0) ((0 ∷ 1 ∷ 0 ∷ 2 ∷ []) ∷ (0 ∷ 0 ∷ []) ∷ (1 ∷ []) ∷ (0 ∷ 2 ∷ 1 ∷ []) ∷ []) ≡ Some 3 ∷ Some 1 ∷ None ∷ None ∷ []
numbered = refl

cluster_sizes : sizes 3 (0 ∷ 1 ∷ 0 ∷ 2 ∷ 0 ∷ []) ≡ 3 ∷ 1 ∷ 1 ∷ []
cluster_sizes = refl

largest : largest_first (3 ∷ 1 ∷ 4 ∷ 1 ∷ 5 ∷ []) ≡ 5 ∷ 4 ∷ 3 ∷ 1 ∷ 1 ∷ []
largest = refl

-- ---- At the edges

-- the enclave ends at 2^47, its entry is the last byte, and the numbers are the least and the greatest
last : IsValid (record image_a { base = 140737488322560; entry = 4095; budget = 512; frames = 8192; lps = 4 })
unfolding enclave_size
last = record {
  clustered = refl;
  numbered = refl;
  some_page = omega arith;
  few_pages = omega arith;
  aligned = refl;
  low = omega arith;
  entered = omega arith;
  large_budget = omega arith;
  small_budget = omega arith;
  some_frames = omega arith;
  few_frames = omega arith;
  some_lp = omega arith;
  few_lps = omega arith;
}

-- ---- Past them

not_aligned : IsValid (record image_a { base = 4096 }) → ⊥
unfolding enclave_size
not_aligned h = let no : suc 4095 ≡ zero = h.aligned in cc

not_low : IsValid (record image_a { base = 140737488355328 }) → ⊥
unfolding enclave_size
not_low h = let no : 140737488388096 ≤ 140737488355328 = h.low in absurd (omega arith)

not_entered : IsValid (record image_a { entry = 4096 }) → ⊥
not_entered h = let no : 4096 < 4096 = h.entered in absurd (omega arith)

-- the four largest of five clusters do not fit
not_budgeted : IsValid (record image_j { budget = 3 }) → ⊥
not_budgeted h = let no : 4 ≤ 3 = h.large_budget in absurd (omega arith)

not_small : IsValid (record image_a { budget = 513 }) → ⊥
not_small h = let no : 513 ≤ 512 = h.small_budget in absurd (omega arith)

not_framed : IsValid (record image_a { frames = 8 }) → ⊥
not_framed h = let no : 9 ≤ 8 = h.some_frames in absurd (omega arith)

not_few_frames : IsValid (record image_a { frames = 8193 }) → ⊥
not_few_frames h = let no : 8193 ≤ 8192 = h.few_frames in absurd (omega arith)

not_processed : IsValid (record image_a { lps = 0 }) → ⊥
not_processed h = let no : 1 ≤ 0 = h.some_lp in absurd (omega arith)

not_few_processors : IsValid (record image_a { lps = 5 }) → ⊥
not_few_processors h = let no : 5 ≤ 4 = h.few_lps in absurd (omega arith)

not_some : IsValid (layout_of [] [] 0 1 9 1) → ⊥
not_some h = let no : 1 ≤ 0 = h.some_page in absurd (omega arith)

not_few : IsValid (layout_of (replicate 513 R) (replicate 513 0) 1 512 9 1) → ⊥
not_few h = let no : 513 ≤ 512 = h.few_pages in absurd (omega arith)
