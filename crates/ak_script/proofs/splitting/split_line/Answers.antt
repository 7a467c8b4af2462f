use Rattle.std.proofs.Common.{◌∙◌, ◌∷◌, ap, ap₂, sym, arith, length, drop}
use Rattle.std.proofs.lemmas.List.{drop-drop, take_all, drop_all}
use Rattle.std.specs.Str.Lines.{lines, strip_carriage_return}
use Rattle.ak_script.proofs.Splits.{rest_from, lines-first, lines-last}
use Rattle.ak_script.proofs.splitting.split_line.Goals as goal

pub returns-in_default-clause-value : goal.returns-in_default-clause-value
returns-in_default-clause-value c =
    let front = c.split_at.ensures.front ∙ take_all (length c.args.text.now) c.args.text.now (omega arith) in
    let back = c.split_at.ensures.back ∙ drop_all (length c.args.text.now) c.args.text.now (omega arith) in
    lines-last c.args.text.now c.requires (sym c.newline_in.ensures.value ∙ c.in_default.is) ∙ ap₂ (λ line rest. line ∷ lines rest) (sym front) (sym back)

pub returns-clause-value : goal.returns-clause-value
returns-clause-value c =
    let rest = rest_from c.split_at-2.result.1.now 1 ∙ ap (drop 1) c.split_at-2.ensures.back ∙ drop-drop 1 c.in-Some.end c.args.text.now in
    let line = c.without_return.ensures ∙ ap strip_carriage_return c.split_at-2.ensures.front in
    lines-first c.args.text.now c.in-Some.end (sym c.newline_in.ensures.value ∙ c.in-Some.is) ∙ ap₂ (λ line rest. line ∷ lines rest) (sym line) (sym rest)
