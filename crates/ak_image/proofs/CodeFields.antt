-- The numbers of CODE, each at its place.
use Rattle.std.proofs.Common.{◌≡◌, ℕ, zero, suc, ◌+◌, ◌-◌, ◌*◌, ◌<◌, ◌≤◌, ◌==◌, nat_lt, if◌then◌else◌, Bool, true, false, List, [], ◌∷◌, ◌++◌, length, take, drop, get_or, Some, None, refl, sym, ap, ◌∙◌, arith, append_assoc, length-append, length-take}
use Rattle.std.specs.List.{flat_map, zip, slice_get}
use Rattle.std.proofs.lemmas.Bool.Decides.{nat_tests}
use Rattle.std.proofs.lemmas.List.{drop_more, take-append-drop, length-replicate}
use Rattle.std.proofs.lemmas.Grind.{flat_map-append}
use Rattle.std.proofs.lemmas.Option.{get_or_from_slice_get}
use Rattle.std.proofs.lemmas.Slice.Zip.{get_or-zip, length-zip}
use Rattle.std.proofs.Math.Seq.{drop-append-add}
use Rattle.byteorder.specs.Endian.{little_bytes}
use Rattle.ak_core.specs.Layout.{numbers_from, number_on}
use Rattle.ak_core.specs.declared.page.Perm.{Perm}
use Rattle.ak_core.specs.declared.page.Perm.TheVariants.{R, Rw, Rx}
use Rattle.ak_measure.specs.Blocks.{zeros}
use Rattle.ak_image.specs.Built.{code_page, perm_number}
use Rattle.ak_image.specs.Fields.{IsCode}
use Rattle.ak_image.specs.Image.{Image, IsWhole}
use Rattle.ak_image.proofs.Fields.{reads}
use Rattle.ak_image.proofs.Filling.{entry_of, table_length}

-- ---- Numbers of clusters are small

step : (cs : List ℕ) (next k c : ℕ) (less same : Bool) → nat_lt c next ≡ less → (c == next) ≡ same
    → number_on (if less then Some next else (if same then Some (next + 1) else None)) (numbers_from cs) ≡ Some k
    → ((m : ℕ) → numbers_from cs m ≡ Some k → (m ≤ k) × (k ≤ m + length cs) × ((i : ℕ) → i < length cs → get_or cs i 0 < k))
    → (next ≤ k) × (k ≤ next + suc (length cs)) × (c < k) × ((i : ℕ) → i < length cs → get_or cs i 0 < k)
step cs next k c true same l s h more =
    let (low, high, rest) = more next h in
    let below : c < next = grind (arith, nat_tests) in
    (low, omega arith, omega arith, rest)
step cs next k c false true l s h more =
    let (low, high, rest) = more (next + 1) h in
    let at : c ≡ next = grind (arith, nat_tests) in
    (omega arith, omega arith, omega arith, rest)
step cs next k c false false l s h more = absurd (let no : ⊥ = cc in no)

first_or_later : (c k : ℕ) (cs : List ℕ) → c < k → ((i : ℕ) → i < length cs → get_or cs i 0 < k) → (i : ℕ) → i < suc (length cs) → get_or (c ∷ cs) i 0 < k
first_or_later c k cs here rest zero within = here
first_or_later c k cs here rest (suc i) within = rest i (omega arith)

bounded : (cs : List ℕ) (next k : ℕ) → numbers_from cs next ≡ Some k → (next ≤ k) × (k ≤ next + length cs) × ((i : ℕ) → i < length cs → get_or cs i 0 < k)
bounded [] next k h = let same : k ≡ next = cc in (omega arith, omega arith, λ i below. absurd (omega arith))
bounded (c ∷ cs) next k h =
    let (low, high, here, rest) = step cs next k c (nat_lt c next) (c == next) refl refl h (λ m. bounded cs m k) in
    (low, high, first_or_later c k cs here rest)

-- ---- The parts of CODE

parts : (a t x r g b e z : List ℕ) → a ++ (t ++ (x ++ r)) ++ g ++ b ++ e ++ z ≡ (a ++ t) ++ (x ++ (r ++ (g ++ (b ++ (e ++ z)))))
parts a t x r g b e z = simp append_assoc

ends : (a t g b e z : List ℕ) → a ++ t ++ g ++ b ++ e ++ z ≡ (a ++ t ++ g) ++ (b ++ (e ++ z))
ends a t g b e z = simp append_assoc

past : (front rest page : List ℕ) (at k : ℕ) → page ≡ front ++ rest → length front ≡ at → drop (at + k) page ≡ drop k rest
past front rest page at k is long = ap (drop (at + k)) is ∙ (ap (λ (n : ℕ). drop (n + k) (front ++ rest)) (sym long) ∙ drop-append-add front rest k)

within_list : (ps : List Perm) (i : ℕ) (perm : Perm) → slice_get ps i ≡ Some perm → i < length ps
within_list [] i perm h = (cc)
within_list (p ∷ ps) zero perm h = omega arith
within_list (p ∷ ps) (suc i) perm h = let below : i < length ps = within_list ps i perm h in omega arith

small_number : (perm : Perm) → perm_number perm < 256
small_number R = omega arith
small_number Rw = omega arith
small_number Rx = omega arith

-- CODE, from any front, gap and end of the right length
module _ (a g z : List ℕ) (es : List (ℕ × Perm)) (b e n : ℕ) (front_length : length a ≡ 1024) (pairs : length es ≡ n) (gap_length : length g ≡ 2048 - 4 * n) (few : n ≤ 512) where
  abbrev page : List ℕ
  page = a ++ flat_map entry_of es ++ g ++ little_bytes 4 b ++ little_bytes 4 e ++ z

  pub at_limits : (k : ℕ) → drop (3072 + k) page ≡ drop k (little_bytes 4 b ++ (little_bytes 4 e ++ z))
  at_limits k =
      let long : length (a ++ flat_map entry_of es ++ g) ≡ 3072 = simp length-append (omega (arith, table_length es)) in
      past (a ++ flat_map entry_of es ++ g) (little_bytes 4 b ++ (little_bytes 4 e ++ z)) page 3072 k (ends a (flat_map entry_of es) g (little_bytes 4 b) (little_bytes 4 e) z) long

  -- what stands of a page and after it
  abbrev pub from_page : ℕ → ℕ × Perm → List ℕ
  from_page i d = entry_of (get_or es i d) ++ (flat_map entry_of (drop (i + 1) es) ++ (g ++ (little_bytes 4 b ++ (little_bytes 4 e ++ z))))

  pub at_page : (i : ℕ) (d : ℕ × Perm) (k : ℕ) → i < n → drop (1024 + 4 * i + k) page ≡ drop k (from_page i d)
  at_page i d k within =
      let x = get_or es i d in
      let before = flat_map entry_of (take i es) in
      let later = flat_map entry_of (drop (i + 1) es) in
      let inside : i < length es = omega arith in
      let table : flat_map entry_of es ≡ before ++ (entry_of x ++ later) =
      ap (flat_map entry_of) (sym (take-append-drop i es) ∙ ap (λ (l : List (ℕ × Perm)). take i es ++ l) (drop_more es i d inside)) ∙ flat_map-append entry_of (take i es) (x ∷ drop (i + 1) es) in
      let taken : length (take i es) ≡ i = omega (arith, length-take i es) in
      let long : length (a ++ before) ≡ 1024 + 4 * i = simp length-append (omega (arith, table_length (take i es), taken)) in
      past (a ++ before) (from_page i d) page (1024 + 4 * i) k
      (ap (λ (t : List ℕ). a ++ t ++ g ++ little_bytes 4 b ++ little_bytes 4 e ++ z) table ∙ parts a before (entry_of x) later g (little_bytes 4 b) (little_bytes 4 e) z) long

pub code : (image : Image) → IsWhole image → IsCode image (code_page image.cluster_of image.perms image.budget image.entry)
unfolding code_page
code image whole =
    let cs = image.cluster_of in
    let ps = image.perms in
    let n = length ps in
    let b = image.budget in
    let e = image.entry in
    let a : List ℕ = zeros 1024 in
    let g : List ℕ = zeros (2048 - 4 * n) in
    let z : List ℕ = zeros 1016 in
    let es = zip cs ps in
    let pairs : length es ≡ n = omega (arith, length-zip cs ps, whole.valid.clustered) in
    let page = code_page cs ps b e in
    let limits = at_limits a g z es b e n (length-replicate {A = ℕ} 1024 0) pairs (length-replicate {A = ℕ} (2048 - 4 * n) 0) whole.valid.few_pages in
    let pages = at_page a g z es b e n (length-replicate {A = ℕ} 1024 0) pairs (length-replicate {A = ℕ} (2048 - 4 * n) 0) whole.valid.few_pages in
    let (low, high, each_below) = bounded cs 0 image.clusters whole.valid.numbered in
    let pair = λ (i : ℕ). get_or es i (0, R) in
    let later = λ (i : ℕ). flat_map entry_of (drop (i + 1) es) ++ (g ++ (little_bytes 4 b ++ (little_bytes 4 e ++ z))) in
    record {
      cluster = λ i within. (
          let same : pair i ≡ (get_or cs i 0, get_or ps i R) = get_or-zip cs ps i (0, R) (omega (arith, whole.valid.clustered)) within in
          let first : (pair i).0 ≡ get_or cs i 0 = ap (λ (p : ℕ × Perm). p.0) same in
          let small : (pair i).0 < 65536 = omega (arith, first, each_below i (omega (arith, whole.valid.clustered))) in
          let at : 1024 + 4 * i ≡ 1024 + 4 * i + 0 = omega arith in
          reads 2 (pair i).0 page (little_bytes 1 (perm_number (pair i).1) ++ (zeros 1 ++ later i)) (1024 + 4 * i) small (ap (λ (m : ℕ). drop m page) at ∙ pages i (0, R) 0 within) ∙ first);
      permission = λ i perm is. (
          let within : i < n = within_list ps i perm is in
          let same : pair i ≡ (get_or cs i 0, get_or ps i R) = get_or-zip cs ps i (0, R) (omega (arith, whole.valid.clustered)) within in
          let second : (pair i).1 ≡ perm = ap (λ (p : ℕ × Perm). p.1) same ∙ get_or_from_slice_get ps i perm R is in
          reads 1 (perm_number (pair i).1) page (zeros 1 ++ later i) (1024 + 4 * i + 2) (small_number (pair i).1) (pages i (0, R) 2 within) ∙ ap perm_number second);
      budget = reads 4 b page (little_bytes 4 e ++ z) 3072 (omega arith) (limits 0);
      entry = reads 4 e page z 3076 (omega arith) (limits 4);
    }
