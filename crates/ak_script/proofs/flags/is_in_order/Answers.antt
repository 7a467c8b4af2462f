use Rattle.std.proofs.Common.{refl, rules}
use Rattle.std.specs.List.{filter}
use Rattle.std.proofs.lemmas.Iterator.{YieldsList-from_slice}
use Rattle.std.proofs.lemmas.Iterator.Consumers.{YieldsList-from_filter}
use Rattle.ak_core.specs.FlagLetters.{letters}
use Rattle.ak_script.specs.Words.{has}
use Rattle.ak_script.proofs.Comparing.{bytes_eq-from_eq}
use Rattle.ak_script.proofs.flags.is_in_order.Goals as goal

pub returns : goal.returns
returns c =
    bytes_eq-from_eq {v = λ b. b.now} _ (λ x y. refl) _ c.args.word.now (filter (has c.args.word.now) letters) c.eq.ensures.ran
    (YieldsList-from_slice c.args.word.now cc)
    (YieldsList-from_filter _ (has c.args.word.now) (YieldsList-from_slice letters cc) c.filter.ensures.closure (λ x b q k. search rules))
