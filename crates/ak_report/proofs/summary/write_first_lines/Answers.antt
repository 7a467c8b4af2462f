use Rattle.std.proofs.lemmas.Result.{err_from_is_err_and}
use Rattle.ak_report.proofs.Pieces.{Fails, Goes, ends, fails, first_fails, first_goes, first_pieces, goes_on, then_fails}
use Rattle.ak_report.proofs.summary.write_first_lines.Goals as goal

pub returns-in_err-write_line-clause-err : goal.returns-in_err-write_line-clause-err
returns-in_err-write_line-clause-err g c =
    let p = err_from_is_err_and c.from_residual.result c.from_residual.ensures.1 in
    let out = g.O.Sink.taken c.args.out.now in
    let front = rw (c.as_str.ensures.value, c.number_line.ensures.text) at c.in_err-write_line.ensures.err in
    let pieces : Fails out (g.O.Sink.taken c.write_line.new.out) (first_pieces c.args.number c.args.layout.now c.args.journal.now) = fails front in
    rw p.1 (first_fails c.args.number c.args.layout.now c.args.journal.now pieces)

pub returns-in_err-write_line-2-clause-err : goal.returns-in_err-write_line-2-clause-err
returns-in_err-write_line-2-clause-err g c =
    let p = err_from_is_err_and c.from_residual-in_err-write_line-2.result c.from_residual-in_err-write_line-2.ensures.1 in
    let out = g.O.Sink.taken c.args.out.now in
    let number = rw (c.as_str.ensures.value, c.number_line.ensures.text) at c.in_ok-write_line.ensures.ok in
    let front = rw (c.as_str-2.ensures.value, c.layout_line.ensures.text) at c.in_err-write_line-2.ensures.err in
    let pieces : Fails out (g.O.Sink.taken c.write_line-2.new.out) (first_pieces c.args.number c.args.layout.now c.args.journal.now) = then_fails number (fails front) in
    rw p.1 (first_fails c.args.number c.args.layout.now c.args.journal.now pieces)

pub returns-in_err-write_line-3-clause-err : goal.returns-in_err-write_line-3-clause-err
returns-in_err-write_line-3-clause-err g c =
    let p = err_from_is_err_and c.from_residual-in_err-write_line-3.result c.from_residual-in_err-write_line-3.ensures.1 in
    let out = g.O.Sink.taken c.args.out.now in
    let number = rw (c.as_str.ensures.value, c.number_line.ensures.text) at c.in_ok-write_line.ensures.ok in
    let layout = rw (c.as_str-2.ensures.value, c.layout_line.ensures.text) at c.in_ok-write_line-2.ensures.ok in
    let front = rw (c.as_str-3.ensures.value, c.moves_line.ensures.text) at c.in_err-write_line-3.ensures.err in
    let pieces : Fails out (g.O.Sink.taken c.write_line-3.new.out) (first_pieces c.args.number c.args.layout.now c.args.journal.now) = then_fails number (then_fails layout (fails front)) in
    rw p.1 (first_fails c.args.number c.args.layout.now c.args.journal.now pieces)

pub returns-in_err-write_line-4-clause-err : goal.returns-in_err-write_line-4-clause-err
returns-in_err-write_line-4-clause-err g c =
    let p = err_from_is_err_and c.from_residual-in_err-write_line-4.result c.from_residual-in_err-write_line-4.ensures.1 in
    let out = g.O.Sink.taken c.args.out.now in
    let number = rw (c.as_str.ensures.value, c.number_line.ensures.text) at c.in_ok-write_line.ensures.ok in
    let layout = rw (c.as_str-2.ensures.value, c.layout_line.ensures.text) at c.in_ok-write_line-2.ensures.ok in
    let moves = rw (c.as_str-3.ensures.value, c.moves_line.ensures.text) at c.in_ok-write_line-3.ensures.ok in
    let front = rw (c.as_str-4.ensures.value, c.misses_line.ensures.text) at c.in_err-write_line-4.ensures.err in
    let pieces : Fails out (g.O.Sink.taken c.write_line-4.new.out) (first_pieces c.args.number c.args.layout.now c.args.journal.now) = then_fails number (then_fails layout (then_fails moves (fails front))) in
    rw p.1 (first_fails c.args.number c.args.layout.now c.args.journal.now pieces)

pub returns-clause-ok : goal.returns-clause-ok
returns-clause-ok g c =
    let out = g.O.Sink.taken c.args.out.now in
    let number = rw (c.as_str.ensures.value, c.number_line.ensures.text) at c.in_ok-write_line.ensures.ok in
    let layout = rw (c.as_str-2.ensures.value, c.layout_line.ensures.text) at c.in_ok-write_line-2.ensures.ok in
    let moves = rw (c.as_str-3.ensures.value, c.moves_line.ensures.text) at c.in_ok-write_line-3.ensures.ok in
    let misses = rw (c.as_str-4.ensures.value, c.misses_line.ensures.text) at c.in_ok-write_line-4.ensures.ok in
    let pieces : Goes out (g.O.Sink.taken c.write_line-4.new.out) (first_pieces c.args.number c.args.layout.now c.args.journal.now) = goes_on number (goes_on layout (goes_on moves (goes_on misses ends))) in
    first_goes c.args.number c.args.layout.now c.args.journal.now pieces
