use Rattle.std.proofs.Common.{arith}
use Rattle.ak_pager.proofs.effects.guard_area.Goals as goal

pub guard-requires-clause-room : goal.guard-requires-clause-room
guard-requires-clause-room g c = omega (arith, c.address_of.ensures.low)
