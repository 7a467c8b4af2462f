use Rattle.std.proofs.Common.{◌≡◌, map, drop}
use Rattle.toml.specs.View.{view}
use Rattle.ak_image.specs.Spelled.{page_text}
use Rattle.ak_measure.specs.Stages.{each_of}
use Rattle.ak_image.specs.Views.{page_text_of}
use Rattle.ak_image.proofs.Texts.{after}
use Rattle.ak_image.proofs.spelled.page_texts.Given as goal

-- the texts so far, and those of the pages that are left, are the texts of all
abbrev pub invariant-loop-item : goal.invariant-loop-item
invariant-loop-item l =
    after (map page_text_of l.pages.items) (each_of page_text (map view (drop l.item-index l.items))) ≡ each_of page_text (map view l.items)
