use Rattle.std.proofs.Common.{◌*◌, ◌^◌}
use Rattle.std.proofs.Math.Nat.{mod-add-mod}
use Rattle.ak_gen.specs.Numbers.{next}
use Rattle.ak_gen.proofs.numbers.next.Goals as goal

pub returns : goal.returns
unfolding next
returns c = mod-add-mod (6364136223846793005 * c.args.number) (2 ^ 64) 1442695040888963407
