use Rattle.std.proofs.Common.{◌∙◌, ◌-◌, arith, ap, take, drop}
use Rattle.ak_outside.specs.Taken.{with_more}
use Rattle.ak_outside.proofs.Fronts.{front_then, with_more-append, piece}
use Rattle.ak_outside.proofs.writing.write_lines.Goals as goal

pub returns-in-Err-clause-err : goal.returns-in-Err-clause-err
returns-in-Err-clause-err g c =
    front_then _ _ _ c.args.text.now c.loop-start.start c.end_of_line-end.result (omega arith) c.loop-start.invariant.taken c.in-Err.ensures.err

pub loop-start-preserved : goal.loop-start-preserved
loop-start-preserved g c = record {
  within = c.end_of_line-end.ensures.within;
  taken = c.in_default.ensures.ok
      ∙ ap (λ o. with_more o (take (c.end_of_line-end.result - c.loop-start.start) (drop c.loop-start.start c.args.text.now))) c.loop-start.invariant.taken
      ∙ with_more-append _ _ _
      ∙ ap (with_more (g.O.Sink.taken c.args.out.now)) (piece c.args.text.now c.loop-start.start c.end_of_line-end.result (omega arith));
  same = c.in_default.ensures.count ∙ c.loop-start.invariant.same;
}
