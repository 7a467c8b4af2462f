-- An image that is read is whole.
use Rattle.std.proofs.Common.{◌≡◌, ℕ, ◌+◌, ◌-◌, ◌*◌, ◌%◌, ◌^◌, ◌<◌, ◌≤◌, nat_lt, nat_le, if◌then◌else◌, ◌==◌, ◌&&◌, not, Bool, true, false, List, length, replicate, Some, None, Result, Ok, Err, refl, sym, ap, subst, ◌∙◌, arith, length-append, ◌++◌}
use Rattle.std.specs.List.{concat}
use Rattle.std.specs.Option.{ok_or}
use Rattle.std.proofs.lemmas.Bool.{and_parts}
use Rattle.std.proofs.lemmas.Bool.Decides.{nat_tests}
use Rattle.std.proofs.lemmas.List.{length-replicate, length-map}
use Rattle.hex.specs.Hex.{decode_of}
use Rattle.hex.specs.declared.error.FromHexError.{FromHexError}
use Rattle.toml.specs.Data.{Members}
use Rattle.ak_core.specs.Layout.{enclave_size, four_largest}
use Rattle.ak_core.specs.declared.page.Perm.{Perm}
use Rattle.ak_measure.specs.Document.{document_of}
use Rattle.ak_image.specs.Image.{Image, IsWhole}
use Rattle.ak_image.specs.Keys.{has_unknown_key, has_all_keys}
use Rattle.ak_image.specs.Numbers.{is_base, count_of, names_of, cluster_of, clusters_of, version_of, base_of, entry_of, budget_of}
use Rattle.ak_image.specs.Pages.{filled_up, content_of, perm_of, perms_of, bytes_of}
use Rattle.ak_image.specs.Reading.{image_of, image_of_document, image_of_spelled, image_of_pages}
use Rattle.ak_image.specs.Spelled.{PageText, Spelled, spelled}
use Rattle.ak_image.specs.Stages.{refuse, each}
use Rattle.ak_image.specs.declared.fault.ImageFault.TheVariants.{NotToml, UnknownKey, MissingKey, WrongType, Version, BaseAlign, PageCount, PagePerm, PageBytes, Entry, Budget}
use Rattle.ak_image.proofs.Chains.{accepted, accepted_then, begun, made, found, not_refused, number-passes}
use Rattle.ak_image.proofs.Each.{length-each, length-concat}
use Rattle.ak_image.proofs.Numbering.{numbers_from-numbered}

filled : (b : Bool) (bytes page : List ℕ) → nat_le (length bytes) 4096 ≡ b → (if b then Some (bytes ++ replicate (4096 - length bytes) 0) else None) ≡ Some page → length page ≡ 4096
filled true bytes page t h =
    let same : page ≡ bytes ++ replicate (4096 - length bytes) 0 = cc in
    let few : length bytes ≤ 4096 = grind (arith, nat_tests) in
    rw same (omega (arith, length-append bytes (replicate (4096 - length bytes) 0), length-replicate {A = ℕ} (4096 - length bytes) 0))
filled false bytes page t h = (cc)

filled_length : (r : Result (List ℕ) FromHexError) (page : List ℕ) → filled_up r ≡ Some page → length page ≡ 4096
filled_length (Ok bytes) page h = filled (nat_le (length bytes) 4096) bytes page refl h
filled_length (Err e) page h = (cc)

content-length : (text : PageText) (page : List ℕ) → content_of text ≡ Some page → length page ≡ 4096
content-length text page h = filled_length (decode_of text.bytes) page h

bytes-length : (pages : List PageText) (bytes : List ℕ) → bytes_of pages ≡ Ok bytes → length bytes ≡ 4096 * length pages
unfolding bytes_of
bytes-length pages bytes h =
    let (contents, read, joined) = accepted (each PageBytes content_of pages) (λ contents. Ok (concat contents)) bytes h in
    let same : bytes ≡ concat contents = cc in
    ap length same ∙ length-concat PageBytes content_of content-length pages contents read

-- ---- What the tests say

below : (a b : ℕ) → nat_lt a b ≡ true → a < b
below a b t = grind (arith, nat_tests)

at_most : (a b : ℕ) → nat_le a b ≡ true → a ≤ b
at_most a b t = grind (arith, nat_tests)

equal : (a b : ℕ) → (a == b) ≡ true → a ≡ b
equal a b t = grind (arith, nat_tests)

both : (a b : Bool) → not (a && b) ≡ false → (a ≡ true) × (b ≡ true)
both true true h = (refl, refl)
both true false h = (cc)
both false b h = (cc)

-- ---- The image of all values

module _ (text : Spelled) where
  abbrev n : ℕ
  n = count_of text

  abbrev least : ℕ
  least = four_largest (clusters_of text) (cluster_of text)

  abbrev image_with : ℕ → List Perm → List ℕ → ℕ → ℕ → Image
  image_with base perms bytes entry budget =
      record { base = base; entry = entry; perms = perms; cluster_of = cluster_of text; clusters = clusters_of text; budget = budget; signer = text.signer; bytes = bytes }

  perms_length : (perms : List Perm) → perms_of text.pages ≡ Ok perms → length perms ≡ n
  unfolding perms_of
  perms_length perms h = length-each PagePerm perm_of text.pages perms h

  at_base : (base : ℕ) → base_of text ≡ Some base → (base % enclave_size n ≡ 0) × (base + enclave_size n ≤ 2 ^ 47)
  unfolding base_of
  at_base base h =
      let (multiple, low) = and_parts (base % enclave_size n == 0) (nat_le (base + enclave_size n) (2 ^ 47)) (number-passes (is_base (enclave_size n)) text.base base h) in
      (equal (base % enclave_size n) 0 multiple, at_most (base + enclave_size n) (2 ^ 47) low)

  at_entry : (entry : ℕ) → entry_of text ≡ Some entry → entry < 4096 * n
  unfolding entry_of
  at_entry entry h = below entry (4096 * n) (number-passes (λ e. nat_lt e (4096 * n)) text.entry entry h)

  enough : (budget : ℕ) → budget_of text ≡ Some budget → (least ≤ budget) × (budget ≤ 512)
  unfolding budget_of
  enough budget h =
      let (large, small) = and_parts (nat_le least budget) (nat_le budget 512) (number-passes (λ b. nat_le least b && nat_le b 512) text.budget budget h) in
      (at_most least budget large, at_most budget 512 small)

  pub whole_with : (base : ℕ) (perms : List Perm) (bytes : List ℕ) (entry budget : ℕ)
      → base_of text ≡ Some base → 1 ≤ n → n ≤ 512 → perms_of text.pages ≡ Ok perms → bytes_of text.pages ≡ Ok bytes
      → entry_of text ≡ Some entry → budget_of text ≡ Some budget → IsWhole (image_with base perms bytes entry budget)
  whole_with base perms bytes entry budget base_is some few perms_are bytes_are entry_is budget_is =
      let same : n ≡ length perms = sym (perms_length perms perms_are) in
      let (multiple, low) = at_base base base_is in
      let (large, small) = enough budget budget_is in
      record {
        valid = record {
          clustered = simp length-map same;
          numbered = numbers_from-numbered (names_of text);
          some_page = subst (λ (k : ℕ). 1 ≤ k) same some;
          few_pages = subst (λ (k : ℕ). k ≤ 512) same few;
          aligned = subst (λ (k : ℕ). base % enclave_size k ≡ 0) same multiple;
          low = subst (λ (k : ℕ). base + enclave_size k ≤ 2 ^ 47) same low;
          entered = subst (λ (k : ℕ). entry < 4096 * k) same (at_entry entry entry_is);
          large_budget = large;
          small_budget = small;
          some_frames = omega arith;
          few_frames = omega arith;
          some_lp = omega arith;
          few_lps = omega arith;
        };
        bytes = subst (λ (k : ℕ). length bytes ≡ 4096 * k) same (bytes-length text.pages bytes bytes_are);
      }

  pub whole_pages : (base : ℕ) (image : Image) → base_of text ≡ Some base → 1 ≤ n → n ≤ 512 → image_of_pages text base ≡ Ok image → IsWhole image
  whole_pages base image base_is some few h =
      let all = made (perms_of text.pages) (bytes_of text.pages) (ok_or (entry_of text) Entry) (ok_or (budget_of text) Budget) (image_with base) image h in
      subst IsWhole (sym all.made) (whole_with base all.perms all.bytes all.entry all.budget base_is some few all.perms_is all.bytes_is
      (found _ Entry all.entry all.entry_is) (found _ Budget all.budget all.budget_is))

  pub whole : (image : Image) → image_of_spelled text ≡ Ok image → IsWhole image
  whole image h =
      let all = begun (ok_or (version_of text) Version) (ok_or (base_of text) BaseAlign) (refuse PageCount (not (nat_le 1 n && nat_le n 512))) (image_of_pages text) image h in
      let (some, few) = both (nat_le 1 n) (nat_le n 512) (not_refused PageCount _ all.count all.count_is) in
      whole_pages all.base image (found _ BaseAlign all.base all.base_is) (at_most 1 n some) (at_most n 512 few) all.rest

whole_document : (document : Members) (image : Image) → image_of_document document ≡ Ok image → IsWhole image
whole_document document image h =
    let (u, known, h1) = accepted_then (refuse UnknownKey (has_unknown_key document)) _ image h in
    let (v, there, h2) = accepted_then (refuse MissingKey (not (has_all_keys document))) _ image h1 in
    let (text, spelled_is, h3) = accepted (ok_or (spelled document) WrongType) image_of_spelled image h2 in
    whole text image h3

pub whole_image : (bytes : List ℕ) (image : Image) → image_of bytes ≡ Ok image → IsWhole image
whole_image bytes image h =
    let (document, document_is, h1) = accepted (ok_or (document_of bytes) NotToml) image_of_document image h in
    whole_document document image h1
