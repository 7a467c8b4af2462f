use Rattle.ak_measure.proofs.BlockLists.{blocks_of-more}
use Rattle.ak_measure.proofs.laws.one_more_page.Goals as goal

pub returns : goal.returns
returns c = blocks_of-more
