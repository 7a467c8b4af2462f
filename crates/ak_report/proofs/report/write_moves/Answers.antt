use Rattle.std.proofs.Common.{◌≡◌, ◌<◌, ◌∙◌, ap, length, arith}
use Rattle.std.proofs.lemmas.Result.{err_from_is_err_and}
use Rattle.ak_outside.specs.Taken.{with_more}
use Rattle.ak_script.specs.Text.{in_lines}
use Rattle.ak_script.proofs.LineByLine.{stopped, taken_more}
use Rattle.ak_report.specs.Report.{answered_moves, move_line}
use Rattle.ak_report.proofs.Rows.{all_rows, line_at, no_row, rows_length}
use Rattle.ak_report.proofs.report.write_moves.Goals as goal

pub returns-in_err-write_line-clause-err : goal.returns-in_err-write_line-clause-err
returns-in_err-write_line-clause-err g c =
    let p = err_from_is_err_and c.from_residual.result c.from_residual.ensures.1 in
    let rows = answered_moves 1 c.args.moves.now c.args.answers.now in
    let len : length rows ≡ length c.args.moves.now = rows_length 1 c.args.moves.now c.args.answers.now c.requires in
    let lt : c.loop-i.i < length rows = omega (arith, c.loop-i-test.true) in
    let at = line_at c.args.moves.now c.args.answers.now c.loop-i.i c.requires c.loop-i-test.true in
    let front = rw (c.as_str.ensures.value, c.answered_line.ensures.text, at) at c.in_err-write_line.ensures.err in
    rw p.1 (stopped move_line rows c.loop-i.i no_row lt _ _ _ c.loop-i.invariant.taken front)

pub loop-i-preserved : goal.loop-i-preserved
loop-i-preserved g c =
    let rows = answered_moves 1 c.args.moves.now c.args.answers.now in
    let len : length rows ≡ length c.args.moves.now = rows_length 1 c.args.moves.now c.args.answers.now c.requires in
    let lt : c.loop-i.i < length rows = omega (arith, c.loop-i-test.true) in
    let at = line_at c.args.moves.now c.args.answers.now c.loop-i.i c.requires c.loop-i-test.true in
    let whole = rw (c.as_str.ensures.value, c.answered_line.ensures.text, at) at c.in_ok-write_line.ensures.ok in
    record {
      taken = taken_more move_line rows c.loop-i.i no_row lt _ _ _ c.loop-i.invariant.taken whole;
      same = c.in_ok-write_line.ensures.count ∙ c.loop-i.invariant.same;
    }

pub returns-clause-ok : goal.returns-clause-ok
returns-clause-ok g c =
    let all = all_rows c.args.moves.now c.args.answers.now c.loop-i.i c.requires c.loop-i-test.false in
    c.loop-i.invariant.taken ∙ ap (λ rows. with_more (g.O.Sink.taken c.args.out.now) (in_lines move_line rows)) all
