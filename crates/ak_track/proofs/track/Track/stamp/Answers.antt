use Rattle.std.proofs.Common.{ap}
use Rattle.ak_track.specs.Tracking.{Marks}
use Rattle.ak_track.proofs.MarkedSteps.{stamped}
use Rattle.ak_track.proofs.track.Track.stamp.Goals as goal

pub returns : goal.returns
returns c = λ lps steps h. stamped c.args.self.now _ lps steps h (ap (λ (m : Marks). m.cycles) c.self.view_is)
