use Rattle.ak_relation.proofs.Tracking.TrackedBy.{tracked-steps, incomplete-steps}
use Rattle.ak_relation.proofs.laws.tracking.steps_track.Goals as goal

pub returns : goal.returns
returns c = record {
  tracks = tracked-steps;
  last = incomplete-steps;
}
