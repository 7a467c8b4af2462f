-- What is held for counted calls, and how many of them failed.
use Rattle.std.specs.Prelude.{ℕ}
use Rattle.ak_outside.specs.declared.counted.Counted.{Counted}
use Rattle.ak_outside.specs.declared.counted.Faults.{Faults}

-- the stream or the files that the calls reach
abbrev pub held_by : {T : Type 0} → Counted T → T
held_by counted = counted.held

-- how many calls failed
abbrev pub number_of : {S : Type 0} → Faults S → ℕ
number_of faults = faults.number
