use Rattle.std.proofs.Common.{◌∙◌}
use Rattle.ak_track.proofs.MarkedSteps.{marked_inside}
use Rattle.ak_track.proofs.track.Track.is_active.Goals as goal

pub returns : goal.returns
returns c = λ lps steps holds. c.has_marked_inside.ensures ∙ marked_inside c.args.self.now lps steps holds
