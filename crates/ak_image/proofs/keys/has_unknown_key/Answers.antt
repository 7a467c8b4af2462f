use Rattle.std.proofs.Common.{sym, ◌∙◌}
use Rattle.toml.specs.View.{table_view}
use Rattle.ak_image.proofs.Lists.{unknown_key-pages}
use Rattle.ak_image.proofs.keys.has_unknown_key.Goals as goal

pub returns-else-has_other_top_key : goal.returns-else-has_other_top_key
returns-else-has_other_top_key c =
    c.has_page_with_other_key.ensures ∙ sym (unknown_key-pages (table_view c.args.table.now) c.page_items.result.now c.page_items.ensures (sym c.if-has_other_top_key.ensures))
