use Rattle.std.proofs.Common.{◌≡◌, ◌<◌, ◌^◌, take}
use Rattle.ak_script.specs.Words.{decimal}
use Rattle.ak_script.proofs.operands.decimal.Given as goal

abbrev pub invariant-loop-digit : goal.invariant-loop-digit
invariant-loop-digit l = record { says : l.number ≡ decimal (take l.digit-index l.digits); small : l.number < 2 ^ 64 }
