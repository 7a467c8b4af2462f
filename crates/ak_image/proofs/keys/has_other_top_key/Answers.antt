use Rattle.std.proofs.Common.{sym, ◌∙◌}
use Rattle.ak_image.specs.Keys.{top_keys}
use Rattle.ak_image.proofs.Lists.{has_other-view}
use Rattle.ak_image.proofs.keys.has_other_top_key.Goals as goal

pub returns : goal.returns
returns c = c.has_other_key.ensures ∙ sym (has_other-view top_keys c.args.table.now.entries)
