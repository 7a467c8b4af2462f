use Rattle.std.proofs.Common.{sym}
use Rattle.ak_image.specs.Views.{spelled_of}
use Rattle.ak_image.proofs.Counts.{length_view}
use Rattle.ak_image.proofs.Whole.{whole_with}
use Rattle.ak_image.proofs.reading.image_of_pages.Goals as goal

pub new-requires : goal.new-requires
new-requires c =
    let text = c.args.text.now in
    rw (c.in-Ok.ensures.of, c.in-Ok.ensures.count, c.in-Ok-from_str.ensures.ok) (whole_with (spelled_of text) c.args.base c.in_ok-perms.perms.items c.in_ok-bytes.bytes.items c.in-Some.entry c.in-Some-budget_of.budget
    c.requires.placed (rw (length_view text.pages.items) c.requires.some) (rw (length_view text.pages.items) c.requires.few)
    (rw c.as_slice-pages.ensures.value at c.in_ok-perms.ensures) (rw c.as_slice-pages.ensures.value at c.in_ok-bytes.ensures)
    (sym c.in-Some.ensures) (sym c.in-Some-budget_of.ensures))
