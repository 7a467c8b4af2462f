use Rattle.std.proofs.Common.{◌≡◌, rules, ap, ap₂, codes, ◌∙◌, Some, true}
use Rattle.clap.specs.Words.{App, Rule, app_of, rule_of, with_rule}
use Rattle.clap.specs.Simple.{app_of_fields, on_top}
use Rattle.ak_words.specs.Clap.{command, option, value}
use Rattle.ak_words.proofs.commands.run_command.Goals as goal

pub returns : goal.returns
returns c =
    let image_is : rule_of c.required-image.result ≡ value (codes "IMAGE") = ap rule_of c.required-image.ensures ∙ ap (λ (r : Rule). record r { required = true }) c.new.ensures.rule in
    let signers_is : rule_of c.required-signers.result ≡ value (codes "SIGNERS") = ap rule_of c.required-signers.ensures ∙ ap (λ (r : Rule). record r { required = true }) c.new-2.ensures.rule in
    let script_is : rule_of c.required-script.result ≡ value (codes "SCRIPT") = ap rule_of c.required-script.ensures ∙ ap (λ (r : Rule). record r { required = true }) c.new-3.ensures.rule in
    let frames_is : rule_of c.long-frames.result ≡ option (codes "frames") = ap rule_of c.long-frames.ensures ∙ ap (λ (r : Rule). record r { long = Some (codes "frames") }) c.new-4.ensures.rule in
    let processors_is : rule_of c.long-processors.result ≡ option (codes "processors") = ap rule_of c.long-processors.ensures ∙ ap (λ (r : Rule). record r { long = Some (codes "processors") }) c.new-5.ensures.rule in
    let bare : app_of c.disable_help_flag.result ≡ command (codes "run") = ap app_of_fields c.disable_help_flag.ensures ∙ ap (λ (a : App). on_top (λ shape. record shape { disable_help_flag = true }) a) c.new-6.ensures.app in
    c.in_ok-arg-5.ensures.shape (search rules) ∙ ap₂ with_rule (
    c.in_ok-arg-4.ensures.shape (search rules) ∙ ap₂ with_rule (
    c.in_ok-arg-3.ensures.shape (search rules) ∙ ap₂ with_rule (
    c.in_ok-arg-2.ensures.shape (search rules) ∙ ap₂ with_rule (
    c.in_ok-arg.ensures.shape (search rules) ∙ ap₂ with_rule bare image_is
    ) signers_is
    ) script_is
    ) frames_is
    ) processors_is
