-- What stands at which place of the runtime's pages when they are built.
use Rattle.std.specs.Prelude.{◌≡◌, ℕ, ◌+◌, ◌*◌, ◌<◌, List, length, drop, slice_index, slice_get, Some}
use Rattle.byteorder.specs.Endian.{little_number}
use Rattle.ak_core.specs.declared.page.Perm.{Perm}
use Rattle.ak_image.specs.Built.{perm_number}
use Rattle.ak_image.specs.Image.{Image}

-- the number in so many bytes from a place on, the lowest byte first
abbrev pub number_at : ℕ → ℕ → List ℕ → ℕ
number_at count at page = little_number count (drop at page)

-- a TCS of an enclave with n program pages: the offset of the first saved-state area, the current one, how many there are, the
-- offset of the entry point, and the pending flag
pub record IsTcs (n : ℕ) (page : List ℕ) : Type 0 where
  pub ossa : number_at 8 16 page ≡ 4096 * (n + 1)
  pub cssa : number_at 4 24 page ≡ 0
  pub nssa : number_at 4 28 page ≡ 3
  pub oentry : number_at 8 32 page ≡ 4096 * (n + 5)
  pub pending : number_at 1 72 page ≡ 0

-- CODE of an image: each page's cluster and permission, the budget and the entry
pub record IsCode (image : Image) (page : List ℕ) : Type 0 where
  pub cluster : (i : ℕ) → i < length image.perms → number_at 2 (1024 + 4 * i) page ≡ slice_index image.cluster_of i
  pub permission : (i : ℕ) (perm : Perm) → slice_get image.perms i ≡ Some perm → number_at 1 (1024 + 4 * i + 2) page ≡ perm_number perm
  pub budget : number_at 4 3072 page ≡ image.budget
  pub entry : number_at 4 3076 page ≡ image.entry
