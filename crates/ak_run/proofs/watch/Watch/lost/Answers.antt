use Rattle.std.proofs.Common.{Bool}
use Rattle.ak_core.specs.declared.page.Kind.{Kind}
use Rattle.ak_core.specs.declared.page.Kind.TheVariants.{Read, Write, Exec}
use Rattle.ak_model.specs.Paging.Walk.{walkable}
use Rattle.ak_run.proofs.Watching.{are_left, by_kind, found_low}
use Rattle.ak_run.proofs.watch.Watch.lost.Goals as goal

pub returns : goal.returns
returns c past state machine tables low =
    let layout = c.args.machine.now.layout in
    let watch = c.args.self.now in
    let walks : Kind → Bool = walkable layout past watch.page.0 in
    let is_low = found_low layout past watch low in
    are_left layout past watch (record { read = c.is_lost.result; write = c.is_lost-2.result; exec = c.is_lost-3.result })
    (by_kind watch.found walks c.is_lost.result c.is_lost-2.result c.is_lost-3.result
    (c.is_lost.ensures past state machine tables (is_low Read)) (c.is_lost-2.ensures past state machine tables (is_low Write))
    (c.is_lost-3.ensures past state machine tables (is_low Exec)))
