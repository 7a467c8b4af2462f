-- What contracts see of a layout: everything about an enclave that the kernel may know.
use Rattle.std.specs.Prelude.{◌≡◌, ℕ, zero, suc, ◌+◌, ◌*◌, ◌%◌, ◌^◌, ◌≤◌, ◌<◌, List, [], ◌∷◌, length, map, take, sum, count_by, Option, Some, None, nat_lt, nat_le, ◌==◌, if◌then◌else◌}
use Rattle.std.specs.List.{range_with_len}
use Rattle.ak_core.specs.declared.page.Perm.{Perm}

-- an enclave's base, the offset of its first instruction, the permission and the cluster of each program page,
-- how many clusters there are, how many program pages may be in at once, and the machine's frames and processors
pub record Layout : Type 0 where
  pub base : ℕ
  pub entry : ℕ
  pub perms : List Perm
  pub cluster_of : List ℕ
  pub clusters : ℕ
  pub budget : ℕ
  pub frames : ℕ
  pub lps : ℕ

-- ---- What holds of every layout

-- the next number after a cluster, which is one of those so far or the next one
abbrev pub next_number : ℕ → ℕ → Option ℕ
next_number next c = if nat_lt c next then Some next else (if c == next then Some (next + 1) else None)

-- the numbering goes on, where it has not failed
abbrev pub number_on : Option ℕ → (ℕ → Option ℕ) → Option ℕ
number_on None go = None
number_on (Some next) go = go next

-- how many numbers there are, where they are numbered from 0 by first appearance
abbrev pub numbers_from : List ℕ → ℕ → Option ℕ
numbers_from [] next = Some next
numbers_from (c ∷ rest) next = number_on (next_number next c) (numbers_from rest)

-- a number put into its place, the largest first
abbrev pub inserted : ℕ → List ℕ → List ℕ
inserted x [] = x ∷ []
inserted x (y ∷ ys) = if nat_le y x then x ∷ y ∷ ys else y ∷ inserted x ys

-- the largest first
abbrev pub largest_first : List ℕ → List ℕ
largest_first [] = []
largest_first (x ∷ xs) = inserted x (largest_first xs)

-- how many pages a cluster has, by the cluster of each page
abbrev pub size_of : List ℕ → ℕ → ℕ
size_of cluster_of c = count_by (λ x. x == c) cluster_of

-- the sizes of so many clusters
abbrev pub sizes : ℕ → List ℕ → List ℕ
sizes clusters cluster_of = map (size_of cluster_of) (range_with_len 0 clusters)

-- the pages of the four largest clusters, or of all, if there are fewer
abbrev pub four_largest : ℕ → List ℕ → ℕ
four_largest clusters cluster_of = sum (take 4 (largest_first (sizes clusters cluster_of)))

-- a size doubled until it is large enough, n times at most
abbrev pub doubled_to : ℕ → ℕ → ℕ → ℕ
doubled_to zero size least = size
doubled_to (suc n) size least = if nat_le least size then size else doubled_to n (2 * size) least

-- the enclave's size: the smallest power of two with room for n program pages and the runtime's six
unfoldable pub enclave_size : ℕ → ℕ
enclave_size n = doubled_to 64 1 (4096 * (n + 6))

-- the lists have one element for each page, clusters are numbered by first appearance, and all numbers are within their limits
pub record IsValid (layout : Layout) : Type 0 where
  pub clustered : length layout.cluster_of ≡ length layout.perms
  pub numbered : numbers_from layout.cluster_of 0 ≡ Some layout.clusters
  pub some_page : 1 ≤ length layout.perms
  pub few_pages : length layout.perms ≤ 512
  pub aligned : layout.base % enclave_size (length layout.perms) ≡ 0
  pub low : layout.base + enclave_size (length layout.perms) ≤ 2 ^ 47
  pub entered : layout.entry < 4096 * length layout.perms
  pub large_budget : four_largest layout.clusters layout.cluster_of ≤ layout.budget
  pub small_budget : layout.budget ≤ 512
  pub some_frames : 9 ≤ layout.frames
  pub few_frames : layout.frames ≤ 8192
  pub some_lp : 1 ≤ layout.lps
  pub few_lps : layout.lps ≤ 4
