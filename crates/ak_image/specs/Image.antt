-- What contracts see of an image, and what holds of every image.
use Rattle.std.specs.Prelude.{◌≡◌, ℕ, ◌*◌, List, length, unwrap_or}
use Rattle.ak_core.specs.Layout.{Layout, IsValid, numbers_from}
use Rattle.ak_core.specs.declared.page.Perm.{Perm}

-- an enclave's base, the offset of its first instruction, the permission and the cluster of each program page, how many
-- clusters there are, how many program pages may be in at once, the signer's name, and 4096 bytes for each program page
pub record Image : Type 0 where
  pub base : ℕ
  pub entry : ℕ
  pub perms : List Perm
  pub cluster_of : List ℕ
  pub clusters : ℕ
  pub budget : ℕ
  pub signer : List ℕ
  pub bytes : List ℕ

-- the image with these parts, whose clusters are as many as the numbers of its pages' clusters
abbrev pub from_parts : ℕ → ℕ → ℕ → List ℕ → List Perm → List ℕ → List ℕ → Image
from_parts base entry budget signer perms cluster_of bytes = record {
  base = base;
  entry = entry;
  perms = perms;
  cluster_of = cluster_of;
  clusters = unwrap_or (numbers_from cluster_of 0) 0;
  budget = budget;
  signer = signer;
  bytes = bytes;
}

-- the layout of the image's enclave on a machine with so many frames and processors
abbrev pub layout_of : Image → ℕ → ℕ → Layout
layout_of image frames lps = record {
  base = image.base;
  entry = image.entry;
  perms = image.perms;
  cluster_of = image.cluster_of;
  clusters = image.clusters;
  budget = image.budget;
  frames = frames;
  lps = lps;
}

-- the layout is valid, on the smallest machine and so on each, and each page has its bytes
pub record IsWhole (image : Image) : Type 0 where
  pub valid : IsValid (layout_of image 9 1)
  pub bytes : length image.bytes ≡ 4096 * length image.perms
