use Rattle.std.proofs.Common.{subst}
use Rattle.ak_machine.specs.Machines.{Parts}
use Rattle.ak_run.specs.Runs.{MachineMoves}
use Rattle.ak_run.proofs.Same.{same_faithful}
use Rattle.ak_run.proofs.run.Run.apply.Goals as goal

pub returns-in-Err-clause-faithful : goal.returns-in-Err-clause-faithful
returns-in-Err-clause-faithful c image f = same_faithful image c.args.self.now c.reserve.new.self c.reserve.ensures.same f

pub returns-clause-faithful : goal.returns-clause-faithful
returns-clause-faithful c image f = c.make.ensures.faithful image (same_faithful image c.args.self.now c.reserve.new.self c.reserve.ensures.same f)

pub returns-clause-machine : goal.returns-clause-machine
returns-clause-machine c = (
  c.reserve.new.self.machine.encls.handles.spare,
  subst (λ (before : Parts). MachineMoves before c.args.m.now c.make.result c.make.new.self.machine) c.reserve.ensures.same.machine c.make.ensures.machine,
)
