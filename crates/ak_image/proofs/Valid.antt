-- The layout of a whole image is valid on each machine.
use Rattle.std.proofs.Common.{ℕ, ◌≤◌}
use Rattle.ak_core.specs.Layout.{IsValid}
use Rattle.ak_image.specs.Image.{Image, IsWhole, layout_of}

pub valid : (image : Image) (frames lps : ℕ) → IsWhole image → 9 ≤ frames → frames ≤ 8192 → 1 ≤ lps → lps ≤ 4 → IsValid (layout_of image frames lps)
valid image frames lps whole some_frames few_frames some_lp few_lps = record {
  clustered = whole.valid.clustered;
  numbered = whole.valid.numbered;
  some_page = whole.valid.some_page;
  few_pages = whole.valid.few_pages;
  aligned = whole.valid.aligned;
  low = whole.valid.low;
  entered = whole.valid.entered;
  large_budget = whole.valid.large_budget;
  small_budget = whole.valid.small_budget;
  some_frames = some_frames;
  few_frames = few_frames;
  some_lp = some_lp;
  few_lps = few_lps;
}
