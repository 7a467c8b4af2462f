use Rattle.std.proofs.lemmas.Result.{err_from_is_err_and}
use Rattle.ak_report.proofs.Pieces.{Fails, Goes, ends, fails, goes_on, summary_fails, summary_goes, summary_pieces, then_fails}
use Rattle.ak_report.proofs.summary.write_summary.Goals as goal

pub returns-in_err-write_first_lines-clause-err : goal.returns-in_err-write_first_lines-clause-err
returns-in_err-write_first_lines-clause-err g c =
    let p = err_from_is_err_and c.from_residual.result c.from_residual.ensures.1 in
    let out = g.O.Sink.taken c.args.out.now in
    let pieces : Fails out (g.O.Sink.taken c.write_first_lines.new.out) (summary_pieces c.args.number c.args.layout.now c.args.journal.now) = fails c.in_err-write_first_lines.ensures.err in
    rw p.1 (summary_fails c.args.number c.args.layout.now c.args.journal.now pieces)

pub returns-in_err-write_outputs-clause-err : goal.returns-in_err-write_outputs-clause-err
returns-in_err-write_outputs-clause-err g c =
    let p = err_from_is_err_and c.from_residual-in_err-write_outputs.result c.from_residual-in_err-write_outputs.ensures.1 in
    let out = g.O.Sink.taken c.args.out.now in
    let front = rw c.outputs.ensures at c.in_err-write_outputs.ensures.err in
    let pieces : Fails out (g.O.Sink.taken c.write_outputs.new.out) (summary_pieces c.args.number c.args.layout.now c.args.journal.now) =
    then_fails c.in_ok-write_first_lines.ensures.ok (fails front) in
    rw p.1 (summary_fails c.args.number c.args.layout.now c.args.journal.now pieces)

pub returns-in_err-write_line-clause-err : goal.returns-in_err-write_line-clause-err
returns-in_err-write_line-clause-err g c =
    let p = err_from_is_err_and c.from_residual-in_err-write_line.result c.from_residual-in_err-write_line.ensures.1 in
    let out = g.O.Sink.taken c.args.out.now in
    let outputs = rw c.outputs.ensures at c.in_ok-write_outputs.ensures.ok in
    let front = rw (c.as_str.ensures.value, c.end_line.ensures.text) at c.in_err-write_line.ensures.err in
    let pieces : Fails out (g.O.Sink.taken c.write_line.new.out) (summary_pieces c.args.number c.args.layout.now c.args.journal.now) =
    then_fails c.in_ok-write_first_lines.ensures.ok (then_fails outputs (fails front)) in
    rw p.1 (summary_fails c.args.number c.args.layout.now c.args.journal.now pieces)

pub returns-clause-ok : goal.returns-clause-ok
returns-clause-ok g c =
    let out = g.O.Sink.taken c.args.out.now in
    let outputs = rw c.outputs.ensures at c.in_ok-write_outputs.ensures.ok in
    let end = rw (c.as_str.ensures.value, c.end_line.ensures.text) at c.in_ok-write_line.ensures.ok in
    let pieces : Goes out (g.O.Sink.taken c.write_line.new.out) (summary_pieces c.args.number c.args.layout.now c.args.journal.now) =
    goes_on c.in_ok-write_first_lines.ensures.ok (goes_on outputs (goes_on end ends)) in
    summary_goes c.args.number c.args.layout.now c.args.journal.now pieces
