use Rattle.std.proofs.Common.{sym, ap, ◌∙◌}
use Rattle.ak_gen.specs.Numbers.{next}
use Rattle.ak_gen.proofs.Words.{number_after-none, number_after-more, add-none, add_word}
use Rattle.ak_gen.proofs.numbers.push_page.Goals as goal

pub loop-word-init : goal.loop-word-init
loop-word-init c = record {
  last = sym (number_after-none c.args.number);
  words = add-none c.args.bytes.now.items c.args.number;
}

pub loop-word-preserved : goal.loop-word-preserved
loop-word-preserved c =
    let last = c.next-last.ensures ∙ (ap next c.loop-word.invariant.last ∙ sym (number_after-more c.loop-word._word c.args.number)) in
    record {
      last = last;
      words =
          add_word c.args.bytes.now.items c.loop-word.bytes.items c.extend_from_slice.new.self.items c.to_le_bytes.result c.loop-word._word c.args.number c.next-last.result c.word_of.result
          c.in_ok-extend_from_slice.ensures.items c.loop-word.invariant.words c.to_le_bytes.ensures c.word_of.ensures last;
    }
