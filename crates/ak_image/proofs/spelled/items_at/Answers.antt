use Rattle.toml.specs.View.{table_view}
use Rattle.ak_image.proofs.Texts.{items_at-array}
use Rattle.ak_image.proofs.spelled.items_at.Goals as goal

pub returns-in-Some-Array : goal.returns-in-Some-Array
returns-in-Some-Array c =
    rw (c.as_slice.ensures.value, c.in-Some-Array.items-is) (items_at-array c.args.key.now (table_view c.args.table.now) c.in-Some-Array.field-0.now c.in-Some-Array.items c.in-Some-Array.ensures c.in-Some-Array.field-0-is)
