use Rattle.ak_relation.proofs.Runs.ToldBreaks.{told_breaks}
use Rattle.ak_relation.proofs.laws.journals.stops_name_breaks.Goals as goal

pub returns : goal.returns
returns c layout image past m a event noted outcome old new before after k move tells more named =
    told_breaks layout image past event noted outcome old new before after k m a move tells more named
