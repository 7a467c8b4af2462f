-- The numbers of an image, each where it is within its limits.
use Rattle.std.specs.Prelude.{ℕ, ◌+◌, ◌*◌, ◌%◌, ◌^◌, ℤ, pos, negsuc, Bool, ◌&&◌, ◌==◌, nat_lt, nat_le, List, length, map, Option, Some, None, if◌then◌else◌}
use Rattle.ak_core.specs.Layout.{enclave_size, four_largest}
use Rattle.ak_image.specs.Clusters.{distinct, numbered}
use Rattle.ak_image.specs.Spelled.{Spelled}

-- the number, where it is not negative and passes the test
abbrev pub number_where : (ℕ → Bool) → ℤ → Option ℕ
number_where test (pos n) = if test n then Some n else None
number_where test (negsuc n) = None

-- a multiple of the enclave's size, where the enclave ends at 2^47 at most
abbrev pub is_base : ℕ → ℕ → Bool
is_base size base = (base % size == 0) && nat_le (base + size) (2 ^ 47)

-- how many pages there are, and the names of their clusters
abbrev pub count_of : Spelled → ℕ
count_of text = length text.pages

abbrev pub names_of : Spelled → List (List ℕ)
names_of text = map (λ page. page.cluster) text.pages

-- the number of each page's cluster, and how many clusters there are
abbrev pub cluster_of : Spelled → List ℕ
cluster_of text = numbered (names_of text)

abbrev pub clusters_of : Spelled → ℕ
clusters_of text = length (distinct (names_of text))

-- the version is 1
unfoldable pub version_of : Spelled → Option ℕ
version_of text = number_where (λ v. v == 1) text.version

-- the base is aligned
unfoldable pub base_of : Spelled → Option ℕ
base_of text = number_where (is_base (enclave_size (count_of text))) text.base

-- the first instruction is in a page of the program
unfoldable pub entry_of : Spelled → Option ℕ
entry_of text = number_where (λ e. nat_lt e (4096 * count_of text)) text.entry

-- the budget has room for the four largest clusters, and is 512 at most
unfoldable pub budget_of : Spelled → Option ℕ
budget_of text = number_where (λ b. nat_le (four_largest (clusters_of text) (cluster_of text)) b && nat_le b 512) text.budget
