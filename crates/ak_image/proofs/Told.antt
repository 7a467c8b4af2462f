-- Equal blocks are those of one enclave.
use Rattle.std.proofs.Common.{◌≡◌, ℕ, zero, suc, ◌+◌, ◌*◌, ◌/◌, ◌%◌, ◌^◌, ◌<◌, ◌≤◌, ◌==◌, nat_lt, if◌then◌else◌, Bool, true, false, List, ◌∷◌, length, map, take, drop, get_or, Option, Some, None, refl, sym, ap, subst, ◌∙◌, inl, inr, arith}
use Rattle.std.specs.List.{AllByRecursion, range_with_len, slice_get}
use Rattle.std.specs.Option.{option_map_or}
use Rattle.std.proofs.lemmas.Bool.{cases_lt}
use Rattle.std.proofs.lemmas.Grind.{same_number_lists}
use Rattle.std.proofs.lemmas.List.{same_lists, get_or-take, get_or-drop, length-map}
use Rattle.std.proofs.lemmas.Option.{slice_get-get_or}
use Rattle.std.proofs.Math.Nat.{div-add-mod, mul-le-mul_left}
use Rattle.ak_core.specs.Layout.{numbers_from, enclave_size}
use Rattle.ak_core.specs.declared.page.Perm.{Perm}
use Rattle.ak_core.specs.declared.page.Perm.TheVariants.{R, Rw, Rx}
use Rattle.ak_measure.specs.Blocks.{IsWhole as IsWholePage}
use Rattle.ak_measure.proofs.BlockContents.{same_enclave}
use Rattle.ak_image.specs.Built.{code_page, perm_number, regular, page_bytes, secinfo_of, pages_of, built_pages, image_blocks, IsSameEnclave}
use Rattle.ak_image.specs.Fields.{number_at}
use Rattle.ak_image.specs.Image.{Image, IsWhole}
use Rattle.ak_image.proofs.BuiltPages.{page_bytes-program, page_bytes-code}
use Rattle.ak_image.proofs.CodeFields.{code}
use Rattle.ak_image.proofs.Lengths.{length-page_bytes}

-- ---- Values of consecutive numbers

all_from : {X : Type 0} (P : X → Type 0) (f : ℕ → X) (a k : ℕ) → ((p : ℕ) → a ≤ p → p < a + k → P (f p)) → AllByRecursion P (map f (range_with_len a k))
all_from P f a zero h = tt
all_from P f a (suc k) h = (h a (omega arith) (omega arith), all_from P f (a + 1) k (λ p low high. h p (omega arith) (omega arith)))

heads : {X : Type 0} (x y : X) (xs ys : List X) → x ∷ xs ≡ y ∷ ys → (x ≡ y) × (xs ≡ ys)
heads x y xs ys same = (ap (λ l. get_or l 0 x) same, ap (drop 1) same)

at_each : {X : Type 0} (f g : ℕ → X) (a k : ℕ) → map f (range_with_len a k) ≡ map g (range_with_len a k) → (p : ℕ) → a ≤ p → p < a + k → f p ≡ g p
at_each f g a zero same p low high = absurd (omega arith)
at_each f g a (suc k) same p low high =
    let (first, rest) = heads (f a) (g a) (map f (range_with_len (a + 1) k)) (map g (range_with_len (a + 1) k)) same in
    elim (cases_lt a p) [
      | inl later ↦ at_each f g (a + 1) k rest p (omega arith) (omega arith)
      | inr now ↦ (let at : a ≡ p = omega arith in subst (λ (i : ℕ). f i ≡ g i) at first)
    ]

range_length : (a k : ℕ) → length (range_with_len a k) ≡ k
range_length a zero = refl
range_length a (suc k) = ap suc (range_length (a + 1) k)

-- ---- Each page's flags and bytes are whole

small_flags : (perm : Perm) → regular perm < 2 ^ 64
small_flags R = omega arith
small_flags Rw = omega arith
small_flags Rx = omega arith

small_option : (o : Option Perm) → option_map_or regular o 0 < 2 ^ 64
small_option None = omega arith
small_option (Some perm) = small_flags perm

small_choice : (b c d : Bool) (x y z w : ℕ) → x < 2 ^ 64 → y < 2 ^ 64 → z < 2 ^ 64 → w < 2 ^ 64 → (if b then x else (if c then y else (if d then z else w))) < 2 ^ 64
small_choice true c d x y z w hx hy hz hw = hx
small_choice false true d x y z w hx hy hz hw = hy
small_choice false false true x y z w hx hy hz hw = hz
small_choice false false false x y z w hx hy hz hw = hw

small_secinfo : (image : Image) (p : ℕ) → secinfo_of image p < 2 ^ 64
unfolding secinfo_of
small_secinfo image p =
    small_choice (nat_lt p (pages_of image)) (p == pages_of image) (nat_lt p (pages_of image + 5)) (option_map_or regular (slice_get image.perms p) 0) (256 * 1) (regular Rw) (regular Rx)
    (small_option (slice_get image.perms p)) (omega arith) (small_flags Rw) (small_flags Rx)

whole_pages : (image : Image) → IsWhole image → AllByRecursion IsWholePage (built_pages image)
whole_pages image whole =
    all_from IsWholePage (λ p. (secinfo_of image p, page_bytes image p)) 0 (pages_of image + 6) (λ p low high. (small_secinfo image p, length-page_bytes image p whole (omega arith)))

-- ---- Lists of one length

part_at : (m q r : ℕ) (xs : List ℕ) → r < m → get_or (take m (drop (m * q) xs)) r 0 ≡ get_or xs (m * q + r) 0
part_at m q r xs below = rw (get_or-take, get_or-drop) refl

same_parts : (m n : ℕ) (xs ys : List ℕ) → 0 < m → length xs ≡ m * n → length ys ≡ m * n → ((p : ℕ) → p < n → take m (drop (m * p) xs) ≡ take m (drop (m * p) ys)) → xs ≡ ys
same_parts m n xs ys some xs_long ys_long same =
    same_number_lists xs ys (xs_long ∙ sym ys_long) (λ k within. (
    let q = k / m in
    let r = k % m in
    let at : m * q + r ≡ k = div-add-mod k m in
    let below : r < m = omega arith in
    let inside : q < n = elim (cases_lt q n) [
      | inl less ↦ less
      | inr more ↦ absurd (omega (arith, mul-le-mul_left m more, at, within, xs_long))
    ] in
    subst (λ (i : ℕ). get_or xs i 0 ≡ get_or ys i 0) at
    (sym (part_at m q r xs below) ∙ (ap (λ (l : List ℕ). get_or l r 0) (same q inside) ∙ part_at m q r ys below))))

same_number : (p q : Perm) → perm_number p ≡ perm_number q → p ≡ q
same_number R R e = refl
same_number R Rw e = (cc)
same_number R Rx e = (cc)
same_number Rw R e = (cc)
same_number Rw Rw e = refl
same_number Rw Rx e = (cc)
same_number Rx R e = (cc)
same_number Rx Rw e = (cc)
same_number Rx Rx e = refl

small_size : (image : Image) → IsWhole image → enclave_size (pages_of image) < 2 ^ 64
small_size image whole = omega (arith, whole.valid.low)

built_length : (image : Image) → length (built_pages image) ≡ pages_of image + 6
built_length image = simp length-map (range_length 0 (pages_of image + 6))

-- ---- One enclave

module _ (image other : Image) (whole : IsWhole image) (other_whole : IsWhole other) (same : image_blocks image ≡ image_blocks other) where
  pages : built_pages image ≡ built_pages other
  pages =
      let small = small_size image whole in
      let other_small = small_size other other_whole in
      (same_enclave (enclave_size (pages_of image)) (enclave_size (pages_of other)) (built_pages image) (built_pages other) small other_small (whole_pages image whole) (whole_pages other other_whole) same).1

  count : pages_of image ≡ pages_of other
  count = let e : pages_of image + 6 ≡ pages_of other + 6 = sym (built_length image) ∙ (ap length pages ∙ built_length other) in omega arith

  bytes_at : (p : ℕ) → p < pages_of image + 6 → page_bytes image p ≡ page_bytes other p
  bytes_at p within =
      let all : built_pages image ≡ map (λ p. (secinfo_of other p, page_bytes other p)) (range_with_len 0 (pages_of image + 6)) =
      pages ∙ ap (λ (n : ℕ). map (λ p. (secinfo_of other p, page_bytes other p)) (range_with_len 0 (n + 6))) (sym count) in
      ap (λ (e : ℕ × List ℕ). e.1) (at_each (λ p. (secinfo_of image p, page_bytes image p)) (λ p. (secinfo_of other p, page_bytes other p)) 0 (pages_of image + 6) all p (omega arith) (omega arith))

  same_code : code_page image.cluster_of image.perms image.budget image.entry ≡ code_page other.cluster_of other.perms other.budget other.entry
  same_code =
      let p = pages_of image + 5 in
      sym (page_bytes-code image p refl) ∙ (bytes_at p (omega arith) ∙ page_bytes-code other p (ap (λ (n : ℕ). n + 5) count))

  same_cluster_of : image.cluster_of ≡ other.cluster_of
  same_cluster_of =
      same_number_lists image.cluster_of other.cluster_of (whole.valid.clustered ∙ (count ∙ sym other_whole.valid.clustered)) (λ k within. (
      let inside : k < length image.perms = omega (arith, whole.valid.clustered) in
      let other_inside : k < length other.perms = omega (arith, count) in
      sym ((code image whole).cluster k inside) ∙ (ap (number_at 2 (1024 + 4 * k)) same_code ∙ (code other other_whole).cluster k other_inside)))

  same_perms : image.perms ≡ other.perms
  same_perms =
      same_lists image.perms other.perms count (λ k d within. (
      let other_within : k < length other.perms = omega (arith, count) in
      same_number (get_or image.perms k d) (get_or other.perms k d)
      (sym ((code image whole).permission k (get_or image.perms k d) (slice_get-get_or image.perms k d within))
      ∙ (ap (number_at 1 (1024 + 4 * k + 2)) same_code ∙ (code other other_whole).permission k (get_or other.perms k d) (slice_get-get_or other.perms k d other_within)))))

  same_bytes : image.bytes ≡ other.bytes
  same_bytes =
      same_parts 4096 (pages_of image) image.bytes other.bytes (omega arith) whole.bytes (other_whole.bytes ∙ ap (λ (n : ℕ). 4096 * n) (sym count)) (λ p within. (
      let inside : p < pages_of image + 6 = omega arith in
      let other_within : p < pages_of other = omega (arith, count) in
      sym (page_bytes-program image p within) ∙ (bytes_at p inside ∙ page_bytes-program other p other_within)))

  same_clusters : image.clusters ≡ other.clusters
  same_clusters =
      let e : Some image.clusters ≡ Some other.clusters = sym whole.valid.numbered ∙ (ap (λ (cs : List ℕ). numbers_from cs 0) same_cluster_of ∙ other_whole.valid.numbered) in
      cc

  pub same_image : IsSameEnclave image other
  same_image = record {
    entry = sym (code image whole).entry ∙ (ap (number_at 4 3076) same_code ∙ (code other other_whole).entry);
    perms = same_perms;
    cluster_of = same_cluster_of;
    clusters = same_clusters;
    budget = sym (code image whole).budget ∙ (ap (number_at 4 3072) same_code ∙ (code other other_whole).budget);
    bytes = same_bytes;
  }
