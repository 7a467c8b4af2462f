use Rattle.std.proofs.Common.{ap, ◌∙◌}
use Rattle.ak_core.specs.Mem.{access_to}
use Rattle.ak_memory.specs.Granting.{is_walked}
use Rattle.ak_machine.specs.Machines.{Parts}
use Rattle.ak_machine.proofs.Walks.{walked_is}
use Rattle.ak_machine.proofs.machine.Machine.walkable.Goals as goal

pub returns-clause-stands : goal.returns-clause-stands
returns-clause-stands c past state machine h low =
    c.is_walked.ensures
    ∙ ap (λ (m : Parts). is_walked m.encls.entries m.table (access_to c.args.p.0 c.args.k)) c.self.view_is
    ∙ walked_is c.args.self.now past state machine h c.args.p.0 c.args.k low
