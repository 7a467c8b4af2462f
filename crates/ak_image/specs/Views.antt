-- What the code's texts of a document stand for.
use Rattle.std.specs.Prelude.{map}
use Rattle.ak_image.specs.Spelled.{Spelled, PageText}
use Rattle.ak_image.specs.declared.spelled.PageText.{PageText as CodePageText}
use Rattle.ak_image.specs.declared.spelled.Spelled.{Spelled as CodeSpelled}

abbrev pub page_text_of : CodePageText → PageText
page_text_of page = record { perms = page.perms.now; cluster = page.cluster.now; bytes = page.bytes.now }

abbrev pub spelled_of : CodeSpelled → Spelled
spelled_of text =
    record { version = text.version; base = text.base; entry = text.entry; budget = text.budget; signer = text.signer.now; pages = map page_text_of text.pages.items }
