-- What contracts see of the pages that the code keeps.
use Rattle.std.specs.Prelude.{List, Option, map}
use Rattle.std.specs.Option.{option_map}
use Rattle.ak_sealed.specs.SealedPages.{SealedPage}
use Rattle.ak_sealed.specs.declared.sealed.KeptPage.{KeptPage}

-- a page as it is kept
abbrev pub shown_page : KeptPage → SealedPage
shown_page kept =
    record { kind = kept.kind; page = kept.page.0; r = kept.r; w = kept.w; x = kept.x; bytes = kept.bytes.value }

-- each page as it is kept
abbrev pub shown : List (Option KeptPage) → List (Option SealedPage)
shown pages = map (option_map shown_page) pages
