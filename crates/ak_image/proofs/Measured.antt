-- The blocks of an enclave, page by page.
use Rattle.std.proofs.Common.{◌≡◌, ℕ, zero, suc, ◌+◌, ◌*◌, List, [], ◌∷◌, ◌++◌, length, map, refl, sym, ap, ◌∙◌, add-one, zero-add}
use Rattle.std.specs.List.{range_with_len}
use Rattle.std.proofs.lemmas.List.{append-nil, map-append, length-map}
use Rattle.sha2.specs.Sha256.{sha256}
use Rattle.ak_measure.specs.Blocks.{create_block, page_blocks, blocks_of}
use Rattle.ak_measure.proofs.BlockLists.{blocks_of-more, range_with_len-more}
use Rattle.ak_image.specs.Built.{page_bytes, secinfo_of, pages_of, digest_of}
use Rattle.ak_image.specs.Image.{Image}
use Rattle.ak_core.specs.Layout.{enclave_size}

pub blocks-none : (size : ℕ) → blocks_of size [] ≡ create_block size
blocks-none size = append-nil (create_block size)

module _ (image : Image) where
  -- the first pages, each with its flags and its bytes
  abbrev pub first_pages : ℕ → List (ℕ × List ℕ)
  first_pages k = map (λ p. (secinfo_of image p, page_bytes image p)) (range_with_len 0 k)

  range_length : (a k : ℕ) → length (range_with_len a k) ≡ k
  range_length a zero = refl
  range_length a (suc k) = ap suc (range_length (a + 1) k)

  -- a page with its flags and its bytes
  abbrev pub built : ℕ → ℕ × List ℕ
  built p = (secinfo_of image p, page_bytes image p)

  first_more : (k : ℕ) → first_pages (k + 1) ≡ first_pages k ++ built k ∷ []
  first_more k =
      ap first_pages (add-one k) ∙ (ap (map built) (range_with_len-more 0 k ∙ ap (λ (p : ℕ). range_with_len 0 k ++ p ∷ []) (zero-add k)) ∙ map-append built (range_with_len 0 k) (k ∷ []))

  first_length : (k : ℕ) → length (first_pages k) ≡ k
  first_length k = simp length-map (range_length 0 k)

  pub blocks-more : (size k : ℕ) → blocks_of size (first_pages k) ++ page_blocks (4096 * k) (secinfo_of image k) (page_bytes image k) ≡ blocks_of size (first_pages (k + 1))
  blocks-more size k =
      sym (ap (blocks_of size) (first_more k) ∙ (blocks_of-more size (first_pages k) (built k)
      ∙ ap (λ (i : ℕ). blocks_of size (first_pages k) ++ page_blocks (4096 * i) (secinfo_of image k) (page_bytes image k)) (first_length k)))

  pub digest_of-all : (k : ℕ) → k ≡ pages_of image + 6 → sha256 (blocks_of (enclave_size (pages_of image)) (first_pages k)) ≡ digest_of image
  unfolding digest_of
  digest_of-all k all = ap (λ (i : ℕ). sha256 (blocks_of (enclave_size (pages_of image)) (first_pages i))) all
