-- The image of a number.
use Rattle.std.specs.Prelude.{ℕ, zero, suc, ◌/◌, List, ◌++◌, map, codes}
use Rattle.std.specs.List.{range_with_len}
use Rattle.ak_core.specs.declared.page.Perm.{Perm}
use Rattle.ak_core.specs.declared.page.Perm.TheVariants.{R, Rx}
use Rattle.ak_image.specs.Image.{Image}
use Rattle.ak_gen.specs.Numbers.{all_words, word_bytes}
use Rattle.ak_gen.specs.Program.{first_page}

-- page 0 has the program, the others are read
abbrev pub perm_of : ℕ → Perm
perm_of zero = Rx
perm_of (suc page) = R

-- eight pages are in each cluster
abbrev pub cluster_of : ℕ → ℕ
cluster_of page = page / 8

-- what each of so many pages has
unfoldable pub each_page : {A : Type 0} → (ℕ → A) → ℕ → List A
each_page of pages = map of (range_with_len 0 pages)

-- 512 pages in 64 clusters of eight: the program, and in the others the words that the number begins
abbrev pub generated : ℕ → Image
generated number = record {
  base = 0x40000000;
  entry = 0;
  perms = each_page perm_of 512;
  cluster_of = each_page cluster_of 512;
  clusters = 64;
  budget = 128;
  signer = codes "demo";
  bytes = first_page ++ word_bytes all_words number;
}
