-- The invariant holds after the build.
use Rattle.std.proofs.Common.{◌≡◌, [], refl}
use Rattle.std.specs.Prelude.{false}
use Rattle.ak_core.specs.Layout.{Layout}
use Rattle.ak_core.specs.declared.event.Event.{Event}
use Rattle.std.specs.Prelude.{List}
use Rattle.ak_model.specs.Stops.ShownStop.{has_break}
use Rattle.ak_model.specs.Control.Trace.{moment_at_build}
use Rattle.ak_driver.proofs.Invariant.PageStates.{Out}
use Rattle.ak_driver.proofs.Invariant.Spots.{Idle, Progress}
use Rattle.ak_driver.proofs.Invariant.HonestMoments.{HonestMoment}
use Rattle.ak_driver.proofs.Pages.AtBuild.{built as pages_built}

-- nothing is in, and the whole tape is to come
abbrev first_rest : List Event → Progress
first_rest tape = record { queue = []; count = 0; rest = tape; returned = [] }

pub starts : (layout : Layout) (tape : List Event) → has_break tape ≡ false → HonestMoment layout (moment_at_build tape)
starts layout tape whole = record {
  spot = Idle false;
  rest = first_rest tape;
  states = λ p. Out;
  holds = record {
    control_is = refl;
    inside_is = λ lp. refl;
    stands = pages_built layout;
    fits = λ p low. refl;
    apart = tt;
    closed = λ a. refl;
    waits = λ a. refl;
    unstopped = refl;
    going = refl;
    unbroken = whole;
    granted = λ m. refl;
  };
}
