use Rattle.std.proofs.Common.{◌*◌, subst}
use Rattle.ak_core.specs.Layout.{IsValid}
use Rattle.ak_run.proofs.Starting.{just_begun}
use Rattle.ak_run.proofs.run.Run.new.Goals as goal

pub returns-clause-faithful : goal.returns-clause-faithful
returns-clause-faithful c image built =
    just_begun image c.args.machine (subst IsValid c.layout.ensures c.perms.ensures.valid) built
    c.new-2.result c.new-2.ensures.moves c.new-2.ensures.answers c.new-2.ensures.events c.new-2.ensures.outputs c.new-2.ensures.stop
    c.no_clusters.result c.no_clusters.ensures c.in_ok-marks.marks (3 * c.all_pages-pages.result) c.in_ok-marks.ensures.lost c.in_ok-marks.ensures.lost_at_fault
    c.in_ok-marks.ensures.returned c.in_ok-marks.ensures.resumed c.in_ok-marks.ensures.saved
