-- What a sink that is told a text took of it.
use Rattle.std.specs.Prelude.{ℕ, List, ◌≡◌, ◌⊎◌}
use Rattle.ak_outside.specs.Causes.{one_more}
use Rattle.ak_outside.specs.Taken.{with_more, TakesFront}
use Rattle.ak_top.specs.Seen.{SinkState}

-- the sink took the whole text without a fault, or a front of it where its count of faults grew by one
abbrev pub Told : SinkState → SinkState → List ℕ → Type 0
Told err err' text =
    ((err'.taken ≡ with_more err.taken text) × (err'.faults ≡ err.faults))
    ⊎ (TakesFront err.taken err'.taken text × (err'.faults ≡ one_more err.faults))
