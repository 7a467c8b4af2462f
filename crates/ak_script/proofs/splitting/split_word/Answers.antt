use Rattle.std.proofs.Common.{◌∙◌, ◌-◌, ap, ap₂, sym, length, unwrap_or, drop, take, not}
use Rattle.ak_script.specs.Words.{is_blank, words_of}
use Rattle.ak_script.specs.Splitting.{word_before}
use Rattle.ak_script.proofs.Splits.{IsFirstWord, rest_from, unwrap_or-position, words_of-first, words_of-none}
use Rattle.ak_script.proofs.splitting.split_word.Goals as goal

found : (c : goal.After-split_at) → IsFirstWord c.args.text.now (take (length c.args.text.now - c.unwrap_or-start.result) (drop c.unwrap_or-start.result c.args.text.now)) c.unwrap_or-start.result c.unwrap_or-end.result
found c =
    let xs = c.args.text.now in
    let start = c.unwrap_or-start.result in
    let ys = take (length xs - start) (drop start xs) in
    record {
      start_is = c.unwrap_or-start.ensures ∙ ap (λ o. unwrap_or o (length xs)) c.word_in.ensures.value ∙ unwrap_or-position (λ b. not (is_blank b)) xs;
      left = rest_from xs start;
      stop_is = c.unwrap_or-end.ensures ∙ ap (λ o. unwrap_or o (length ys)) c.blank_in.ensures.value ∙ unwrap_or-position is_blank ys;
    }

pub returns-clause-words : goal.returns-clause-words
returns-clause-words c = words_of-first (found c) ∙ ap₂ (λ front back. word_before front (words_of back)) (sym c.split_at.ensures.front) (sym c.split_at.ensures.back)

pub returns-clause-none : goal.returns-clause-none
returns-clause-none c none = ap words_of c.split_at.ensures.back ∙ words_of-none (found c) (sym (ap length c.split_at.ensures.front) ∙ none)
