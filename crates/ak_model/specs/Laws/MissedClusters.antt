-- Lists of missed clusters.
use Rattle.std.specs.Prelude.{◌≡◌, ℕ, ◌<◌, false, List, [], ◌∷◌}
use Rattle.ak_core.specs.Layout.{Layout}
use Rattle.ak_core.specs.declared.event.Event.{Event}
use Rattle.ak_core.specs.declared.event.Event.TheVariants.{Miss}
use Rattle.ak_model.specs.Clusters.Queue.{after_miss, is_in}

-- the clusters that a tape misses, in order
abbrev pub missed_on : List Event → List ℕ
missed_on [] = []
missed_on (Miss i c ∷ tape) = c ∷ missed_on tape
missed_on (event ∷ tape) = missed_on tape

-- each of these clusters is one of the layout that is out by those before it, from this queue on
abbrev pub AreOut : Layout → List ℕ → List ℕ → Type 0
AreOut layout queue [] = Unit {0}
AreOut layout queue (c ∷ misses) =
    (c < layout.clusters) × (is_in queue c ≡ false) × AreOut layout (after_miss layout queue c) misses
