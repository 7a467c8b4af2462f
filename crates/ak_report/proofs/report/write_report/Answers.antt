use Rattle.std.proofs.lemmas.Result.{err_from_is_err_and}
use Rattle.ak_report.proofs.Pieces.{Fails, Goes, ends, fails, goes_on, report_fails, report_goes, report_pieces, then_fails}
use Rattle.ak_report.proofs.report.write_report.Goals as goal

pub returns-in_err-write_line-clause-err : goal.returns-in_err-write_line-clause-err
returns-in_err-write_line-clause-err g c =
    let p = err_from_is_err_and c.from_residual.result c.from_residual.ensures.1 in
    let out = g.O.Sink.taken c.args.out.now in
    let pieces : Fails out (g.O.Sink.taken c.write_line.new.out) (report_pieces c.args.journal.now) = fails c.in_err-write_line.ensures.err in
    rw p.1 (report_fails c.args.journal.now pieces)

pub returns-in_err-write_moves-clause-err : goal.returns-in_err-write_moves-clause-err
returns-in_err-write_moves-clause-err g c =
    let p = err_from_is_err_and c.from_residual-in_err-write_moves.result c.from_residual-in_err-write_moves.ensures.1 in
    let out = g.O.Sink.taken c.args.out.now in
    let front = rw (c.moves.ensures.moves, c.answers.ensures) at c.in_err-write_moves.ensures.err in
    let pieces : Fails out (g.O.Sink.taken c.write_moves.new.out) (report_pieces c.args.journal.now) =
    then_fails c.in_ok-write_line.ensures.ok (fails front) in
    rw p.1 (report_fails c.args.journal.now pieces)

pub returns-in_err-write_outputs-clause-err : goal.returns-in_err-write_outputs-clause-err
returns-in_err-write_outputs-clause-err g c =
    let p = err_from_is_err_and c.from_residual-in_err-write_outputs.result c.from_residual-in_err-write_outputs.ensures.1 in
    let out = g.O.Sink.taken c.args.out.now in
    let moves = rw (c.moves.ensures.moves, c.answers.ensures) at c.in_ok-write_moves.ensures.ok in
    let front = rw c.outputs.ensures at c.in_err-write_outputs.ensures.err in
    let pieces : Fails out (g.O.Sink.taken c.write_outputs.new.out) (report_pieces c.args.journal.now) =
    then_fails c.in_ok-write_line.ensures.ok (then_fails moves (fails front)) in
    rw p.1 (report_fails c.args.journal.now pieces)

pub returns-in_err-write_events-clause-err : goal.returns-in_err-write_events-clause-err
returns-in_err-write_events-clause-err g c =
    let p = err_from_is_err_and c.from_residual-in_err-write_events.result c.from_residual-in_err-write_events.ensures.1 in
    let out = g.O.Sink.taken c.args.out.now in
    let moves = rw (c.moves.ensures.moves, c.answers.ensures) at c.in_ok-write_moves.ensures.ok in
    let outputs = rw c.outputs.ensures at c.in_ok-write_outputs.ensures.ok in
    let front = rw c.events.ensures at c.in_err-write_events.ensures.err in
    let pieces : Fails out (g.O.Sink.taken c.write_events.new.out) (report_pieces c.args.journal.now) =
    then_fails c.in_ok-write_line.ensures.ok (then_fails moves (then_fails outputs (fails front))) in
    rw p.1 (report_fails c.args.journal.now pieces)

pub returns-in_err-write_line-2-clause-err : goal.returns-in_err-write_line-2-clause-err
returns-in_err-write_line-2-clause-err g c =
    let p = err_from_is_err_and c.from_residual-in_err-write_line-2.result c.from_residual-in_err-write_line-2.ensures.1 in
    let out = g.O.Sink.taken c.args.out.now in
    let moves = rw (c.moves.ensures.moves, c.answers.ensures) at c.in_ok-write_moves.ensures.ok in
    let outputs = rw c.outputs.ensures at c.in_ok-write_outputs.ensures.ok in
    let events = rw c.events.ensures at c.in_ok-write_events.ensures.ok in
    let front = rw (c.as_str.ensures.value, c.stop_line.ensures.text, c.stop.ensures) at c.in_err-write_line-2.ensures.err in
    let pieces : Fails out (g.O.Sink.taken c.write_line-2.new.out) (report_pieces c.args.journal.now) =
    then_fails c.in_ok-write_line.ensures.ok (then_fails moves (then_fails outputs (then_fails events (fails front)))) in
    rw p.1 (report_fails c.args.journal.now pieces)

pub returns-clause-ok : goal.returns-clause-ok
returns-clause-ok g c =
    let out = g.O.Sink.taken c.args.out.now in
    let moves = rw (c.moves.ensures.moves, c.answers.ensures) at c.in_ok-write_moves.ensures.ok in
    let outputs = rw c.outputs.ensures at c.in_ok-write_outputs.ensures.ok in
    let events = rw c.events.ensures at c.in_ok-write_events.ensures.ok in
    let stop = rw (c.as_str.ensures.value, c.stop_line.ensures.text, c.stop.ensures) at c.in_ok-write_line-2.ensures.ok in
    let pieces : Goes out (g.O.Sink.taken c.write_line-2.new.out) (report_pieces c.args.journal.now) =
    goes_on c.in_ok-write_line.ensures.ok (goes_on moves (goes_on outputs (goes_on events (goes_on stop ends)))) in
    report_goes c.args.journal.now pieces
