-- What the files of the system tell.
use Rattle.std.specs.Prelude.{ℕ, List, Option, None}

-- nothing is told of what a name holds
abbrev pub untold : List ℕ → Option (List ℕ)
untold name = None
