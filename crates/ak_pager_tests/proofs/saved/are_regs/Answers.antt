use Rattle.std.proofs.Common.{arith, subst}
use Rattle.ak_ssa.specs.SavedRegisters.{AreWords}
use Rattle.ak_pager_tests.proofs.Witnesses.{words_from}
use Rattle.ak_pager_tests.proofs.saved.are_regs.Goals as goal

pub returns : goal.returns
returns c = record {
  sixteen = omega arith;
  words = subst AreWords c.as_slice.ensures (words_from c.as_slice.result.now c.are_words.ensures);
  rip = omega arith;
}
