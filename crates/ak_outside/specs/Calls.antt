-- Calls that are counted, of which some are made to fail.
use Rattle.std.specs.Prelude.{ℕ, Bool, ◌==◌}
use Rattle.std.specs.List.{list_any}
use Rattle.ak_outside.specs.declared.calls.Calls.{Calls}

-- whether the call of this number was made to fail
abbrev pub is_failing : Calls → ℕ → Bool
is_failing calls call = list_any (λ number. number == call) calls.failing.items
