-- The numbers of the TCS and of CODE, each at its place.
use Rattle.std.proofs.Common.{◌≡◌, ℕ, ◌+◌, ◌*◌, ◌^◌, ◌<◌, ◌≤◌, List, ◌++◌, drop, refl, ap, ◌∙◌, arith}
use Rattle.byteorder.specs.Endian.{little_number, little_bytes}
use Rattle.byteorder.specs.Numbers.{little_number-reads_back}
use Rattle.ak_image.specs.Built.{tcs_page}
use Rattle.ak_image.specs.Fields.{number_at, IsTcs}

-- the number of bytes that begin what is left
pub reads : (count x : ℕ) (page rest : List ℕ) (at : ℕ) → x < 256 ^ count → drop at page ≡ little_bytes count x ++ rest → number_at count at page ≡ x
reads count x page rest at fits is = ap (little_number count) is ∙ little_number-reads_back count x rest fits

pub tcs : (n : ℕ) → n ≤ 512 → IsTcs n (tcs_page n)
unfolding tcs_page
tcs n few = record {
  ossa = reads 8 (4096 * (n + 1)) (tcs_page n) (drop 24 (tcs_page n)) 16 (omega arith) refl;
  cssa = refl;
  nssa = refl;
  oentry = reads 8 (4096 * (n + 5)) (tcs_page n) (drop 40 (tcs_page n)) 32 (omega arith) refl;
  pending = refl;
}
