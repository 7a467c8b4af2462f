use Rattle.std.proofs.Common.{◌≡◌, ℕ, ◌++◌, ◌+◌, ◌*◌, ◌-◌, sym, ap, ◌∙◌, arith}
use Rattle.ak_gen.specs.Numbers.{all_words, number_after, word_bytes}
use Rattle.ak_gen.specs.Program.{first_page}
use Rattle.ak_gen.proofs.Words.{number_after-none, number_after-after, add-none, add_words}
use Rattle.ak_gen.proofs.generator.bytes_of.Goals as goal

pub loop-page-init : goal.loop-page-init
loop-page-init c = record {
  last = sym (number_after-none c.args.number);
  words = c.in_ok-push_first_page.ensures ∙ (ap (λ l. l ++ first_page) c.in_ok-bytes.ensures.items ∙ add-none first_page c.args.number);
}

pub loop-page-preserved : goal.loop-page-preserved
loop-page-preserved c =
    let first : ℕ = 512 * (c.loop-page._page - 1) in
    let all : ℕ = 512 * (c.loop-page._page + 1 - 1) in
    let e : first + 512 ≡ all = omega arith in
    record {
      last =
          c.in_ok-last.ensures.last
          ∙ (ap (number_after 512) c.loop-page.invariant.last ∙ (sym (number_after-after first 512 c.args.number) ∙ ap (λ (n : ℕ). number_after n c.args.number) e));
      words =
          add_words first_page c.loop-page.bytes.items c.push_page.new.bytes.items first 512 all c.args.number c.loop-page.last c.in_ok-last.ensures.bytes c.loop-page.invariant.words
          c.loop-page.invariant.last e;
    }

pub returns : goal.returns
returns c =
    let e : 512 * (c.loop-page._page - 1) ≡ all_words = omega arith in
    c.loop-page.invariant.words ∙ ap (λ (n : ℕ). first_page ++ word_bytes n c.args.number) e
