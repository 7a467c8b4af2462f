use Rattle.toml.specs.View.{table_view}
use Rattle.ak_image.proofs.Lists.{page_tables-array}
use Rattle.ak_image.proofs.keys.page_items.Goals as goal

pub returns-in-Some-Array : goal.returns-in-Some-Array
returns-in-Some-Array c =
    rw (c.deref.ensures.value, c.in-Some-Array.items-is) (page_tables-array (table_view c.args.table.now) c.in-Some-Array.field-0.now c.in-Some-Array.items c.in-Some-Array.ensures c.in-Some-Array.field-0-is)
