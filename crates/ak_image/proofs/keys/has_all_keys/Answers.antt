use Rattle.std.proofs.Common.{sym, ◌∙◌}
use Rattle.toml.specs.View.{table_view}
use Rattle.ak_image.proofs.Lists.{all_keys-pages}
use Rattle.ak_image.proofs.keys.has_all_keys.Goals as goal

pub returns-then-has_each_top_key : goal.returns-then-has_each_top_key
returns-then-has_each_top_key c =
    c.has_no_page_without_a_key.ensures ∙ sym (all_keys-pages (table_view c.args.table.now) c.page_items.result.now c.page_items.ensures (sym c.if-has_each_top_key.ensures))
