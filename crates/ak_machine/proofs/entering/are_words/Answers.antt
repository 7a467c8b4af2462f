use Rattle.std.proofs.Common.{ℕ, suc, List, [], ◌∷◌, get_or, Fits, w64, arith}
use Rattle.ak_ssa.specs.SavedRegisters.{AreWords}
use Rattle.ak_machine.proofs.entering.are_words.Goals as goal

all_words : (words : List ℕ) → ((i : ℕ) → Fits w64 (get_or words i 0)) → AreWords words
all_words [] fit = tt
all_words (word ∷ words) fit = (let first : Fits w64 word = fit 0 in omega arith, all_words words (λ i. fit (suc i)))

pub returns : goal.returns
returns c = all_words c.args.words.now c.type_inv.words
