-- The budget of an image is one page at least; and its build gives few handles.
use Rattle.std.proofs.Common.{◌≡◌, ℕ, ◌+◌, ◌≤◌, ◌<◌, List, [], ◌∷◌, length, arith, ap, refl}
use Rattle.std.proofs.lemmas.Bool.{ltb-true}
use Rattle.std.proofs.lemmas.List.Sums.{sum_by-cons}
use Rattle.std.specs.Prelude.{Bool, true, false, cond, Some, None, nat_lt, ◌==◌, if◌then◌else◌}
use Rattle.ak_core.specs.Layout.{number_on, numbers_from, size_of}
use Rattle.ak_image.specs.Image.{Image, IsWhole, layout_of}
use Rattle.ak_model.specs.Paging.Handles.{given}
use Rattle.ak_machine.specs.Machines.{IsJustBuilt, Parts}
use Rattle.ak_model.proofs.Clusters.ValidClusters.{clusters_fit}

-- the numbering does not go down
least_by : (c next n : ℕ) (rest : List ℕ) (below same : Bool) → number_on (if below then Some next else (if same then Some (next + 1) else None)) (numbers_from rest) ≡ Some n →
    ((m : ℕ) → numbers_from rest m ≡ Some n → m ≤ n) → next ≤ n
least_by c next n rest true same e more = more next e
least_by c next n rest false true e more = let l = more (next + 1) e in omega arith
least_by c next n rest false false e more = absurd (cc)

least : (xs : List ℕ) (next n : ℕ) → numbers_from xs next ≡ Some n → next ≤ n
least [] next n e = let same : next ≡ n = cc in omega arith
least (c ∷ rest) next n e = least_by c next n rest (nat_lt c next) (c == next) e (λ m. least rest m n)

-- the first page is of cluster 0
record HasFirst (xs : List ℕ) (n : ℕ) : Type 0 where
  some : 0 < n
  page : 1 ≤ size_of xs 0

has_first_by : (c n : ℕ) (rest : List ℕ) (below same : Bool) → nat_lt c 0 ≡ below → (c == 0) ≡ same →
    number_on (if below then Some 0 else (if same then Some (0 + 1) else None)) (numbers_from rest) ≡ Some n → HasFirst (c ∷ rest) n
has_first_by c n rest true same low is e = absurd (let lt = ltb-true c 0 low in omega arith)
has_first_by c n rest false true low is e =
    let here : size_of (c ∷ rest) 0 ≡ cond (c == 0) 1 0 + size_of rest 0 = sum_by-cons (λ (x : ℕ). cond (x == 0) 1 0) c rest in
    let one : ◌≡◌ {A = ℕ} (cond (c == 0) 1 0) 1 = ap (λ same. cond same 1 0) is in
    record { some = let more = least rest 1 n e in omega arith; page = omega (arith, here, one) }
has_first_by c n rest false false low is e = absurd (cc)

has_first : (xs : List ℕ) (n : ℕ) → numbers_from xs 0 ≡ Some n → 1 ≤ length xs → HasFirst xs n
has_first [] n e l = absurd (omega arith)
has_first (c ∷ rest) n e l = has_first_by c n rest (nat_lt c 0) (c == 0) refl refl e

pub some_budget : (image : Image) → IsWhole image → 1 ≤ image.budget
some_budget image whole =
    let valid = whole.valid in
    let first = has_first image.cluster_of image.clusters valid.numbered (let a = valid.clustered in let b = valid.some_page in omega arith) in
    let small = (clusters_fit (layout_of image 9 1) valid).small 0 first.some in
    let page = first.page in omega arith

-- the build gave a handle for each page of the program
pub few_handles : (image : Image) (bytes : List ℕ) (frames lps : ℕ) (machine : Parts) → IsWhole image → machine.layout ≡ layout_of image frames lps → IsJustBuilt bytes machine →
    length machine.encls.handles.sealed_pages ≤ 512
few_handles image bytes frames lps machine whole is built =
    let all : given machine.layout [] ≡ length image.perms = ap (λ layout. given layout []) is in
    let next = built.machine.paging.next in
    let numbered = built.built.tables.sealed_pages.numbered in
    let few = whole.valid.few_pages in omega arith
