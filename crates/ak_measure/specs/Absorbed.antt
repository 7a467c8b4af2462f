-- What a measurement has absorbed so far.
use Rattle.std.specs.Prelude.{ℕ, List}
use Rattle.sha2.specs.Hashers.{Holds256}
use Rattle.ak_measure.specs.declared.measurement.Measure.{Measure}

-- the measurement has absorbed these bytes
abbrev pub HasAbsorbed : Measure → List ℕ → Type 0
HasAbsorbed measure bytes = Holds256 measure.hasher bytes
