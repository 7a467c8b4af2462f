use Rattle.ak_memory.proofs.Cached.{fills_name}
use Rattle.ak_memory.proofs.laws.cached_translations_name_pages.Goals as goal

pub returns : goal.returns
returns c = fills_name
