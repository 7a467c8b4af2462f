use Rattle.std.proofs.Common.{◌∙◌, ap}
use Rattle.std.proofs.lemmas.Result.{err_from_is_err_and}
use Rattle.ak_outside.specs.Causes.{one_more}
use Rattle.ak_script.proofs.LineByLine.{stopped}
use Rattle.ak_report.specs.Report.{event_line}
use Rattle.ak_report.proofs.report.write_events.Goals as goal

pub returns-in_err-write_line-clause-err : goal.returns-in_err-write_line-clause-err
returns-in_err-write_line-clause-err g c =
    let p = err_from_is_err_and c.from_residual.result c.from_residual.ensures.1 in
    let front = rw (c.as_str.ensures.value, c.event_line.ensures.text) at c.in_err-write_line.ensures.err in
    rw p.1 (stopped event_line c.args.events.now c.loop-event.event-index _ c.loop-event-test.true _ _ _ c.loop-event.invariant.taken front)

pub returns-in_err-write_line-clause-count : goal.returns-in_err-write_line-clause-count
returns-in_err-write_line-clause-count g c =
    let p = err_from_is_err_and c.from_residual.result c.from_residual.ensures.1 in
    rw p.1 (c.in_err-write_line.ensures.count ∙ ap one_more c.loop-event.invariant.same)
