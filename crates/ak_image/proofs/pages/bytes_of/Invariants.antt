use Rattle.std.proofs.Common.{◌≡◌, map, drop}
use Rattle.ak_image.specs.Pages.{content_of, bytes_of}
use Rattle.ak_image.specs.Views.{page_text_of}
use Rattle.ak_image.specs.declared.fault.ImageFault.TheVariants.{PageBytes}
use Rattle.ak_image.proofs.Each.{joined_after, each_from}
use Rattle.ak_image.proofs.pages.bytes_of.Given as goal

-- the bytes so far, and those of the pages that are left, are the bytes of all
abbrev pub invariant-loop-place : goal.invariant-loop-place
invariant-loop-place l =
    joined_after l.bytes.items (each_from PageBytes content_of l.place (map page_text_of (drop l.place l.pages))) ≡ bytes_of (map page_text_of l.pages)
