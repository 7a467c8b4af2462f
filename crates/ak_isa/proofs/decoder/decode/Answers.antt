use Rattle.std.proofs.Common.{rules, arith}
use Rattle.std.proofs.lemmas.Grind.{common_steps}
use Rattle.ak_core.specs.declared.instruction.Decoded.TheVariants.{NeedMore}
use Rattle.ak_isa.proofs.Readings.{both_ways, within, registers}
use Rattle.ak_isa.proofs.decoder.decode.Goals as goal

pub returns-in-empty-clause-table : goal.returns-in-empty-clause-table
returns-in-empty-clause-table c = search rules

pub returns-in-len1-up-clause-table : goal.returns-in-len1-up-clause-table
returns-in-len1-up-clause-table c = grind (arith, common_steps)

pub returns-in-empty-clause-both_ways : goal.returns-in-empty-clause-both_ways
returns-in-empty-clause-both_ways c = both_ways c.args.bytes.now NeedMore (returns-in-empty-clause-table c)

pub returns-in-len1-up-clause-both_ways : goal.returns-in-len1-up-clause-both_ways
returns-in-len1-up-clause-both_ways c = both_ways c.args.bytes.now c.decode_first.result (returns-in-len1-up-clause-table c)

pub returns-in-len1-up-clause-length : goal.returns-in-len1-up-clause-length
returns-in-len1-up-clause-length c = within c.args.bytes.now c.decode_first.result (returns-in-len1-up-clause-table c)

pub returns-in-len1-up-clause-registers : goal.returns-in-len1-up-clause-registers
returns-in-len1-up-clause-registers c = registers c.args.bytes.now c.decode_first.result (returns-in-len1-up-clause-table c)
