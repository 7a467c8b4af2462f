-- The layouts of the worked images are valid, and the images have 4096 bytes for each page.
use Rattle.std.proofs.Common.{◌≡◌, ◌*◌, length, arith, refl}
use Rattle.ak_core.specs.Layout.{IsValid, enclave_size}
use Rattle.ak_model.specs.Paging.Pages.{pages}
use Rattle.ak_model.proofs.Rows.Samples.{image_a}
use Rattle.ak_model.proofs.Rows.WorkedFlat.{image_b, image_f, bytes_a, code_a, bytes_b, bytes_f, filled}

pub valid_a : IsValid image_a
unfolding enclave_size
valid_a = record {
  clustered = refl;
  numbered = refl;
  some_page = omega arith;
  few_pages = omega arith;
  aligned = refl;
  low = omega arith;
  entered = omega arith;
  large_budget = omega arith;
  small_budget = omega arith;
  some_frames = omega arith;
  few_frames = omega arith;
  some_lp = omega arith;
  few_lps = omega arith;
}

pub valid_b : IsValid image_b
unfolding image_b enclave_size
valid_b = record {
  clustered = refl;
  numbered = refl;
  some_page = omega arith;
  few_pages = omega arith;
  aligned = refl;
  low = omega arith;
  entered = omega arith;
  large_budget = omega arith;
  small_budget = omega arith;
  some_frames = omega arith;
  few_frames = omega arith;
  some_lp = omega arith;
  few_lps = omega arith;
}

pub valid_f : IsValid image_f
unfolding image_f enclave_size
valid_f = record {
  clustered = refl;
  numbered = refl;
  some_page = omega arith;
  few_pages = omega arith;
  aligned = refl;
  low = omega arith;
  entered = omega arith;
  large_budget = omega arith;
  small_budget = omega arith;
  some_frames = omega arith;
  few_frames = omega arith;
  some_lp = omega arith;
  few_lps = omega arith;
}

pub whole_a : length bytes_a ≡ 4096 * pages image_a
unfolding bytes_a code_a filled
whole_a = refl

pub whole_b : length bytes_b ≡ 4096 * pages image_b
unfolding bytes_b image_b
whole_b = refl

pub whole_f : length bytes_f ≡ 4096 * pages image_f
unfolding bytes_f image_f
whole_f = refl
