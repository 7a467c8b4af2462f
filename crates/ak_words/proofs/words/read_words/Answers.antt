use Rattle.std.proofs.Common.{◌∙◌}
use Rattle.ak_words.proofs.OtherWords.{other_command}
use Rattle.ak_words.proofs.words.read_words.Goals as goal

pub returns-in_default-as_str-clause-asked : goal.returns-in_default-as_str-clause-asked
returns-in_default-as_str-clause-asked c =
    other_command c.args.words.now c.in-Some.command.now c.in-Some.ensures.value
    (λ e. c.in_default-as_str.not-run (c.as_str.ensures.value ∙ e)) (λ e. c.in_default-as_str.not-measure (c.as_str.ensures.value ∙ e))
    (λ e. c.in_default-as_str.not-demo (c.as_str.ensures.value ∙ e))
