use Rattle.ak_relation.proofs.Program.AwayPages.{away_pages}
use Rattle.ak_relation.proofs.laws.program.pages_away_stay.Goals as goal

pub returns : goal.returns
returns c = λ layout past lp place old is tables cached flat after full. away_pages layout past lp place is old tables cached flat after full
